-- `is_over` meets its contract. Assumes nothing.
use mathlib.Core.Path.{◌≡◌, sym, ◌∙◌}
use Prim.Native.Nat.{ℕ, ◌+◌, ◌≤◌, ◌<◌}
use native.Mathlib.Omega.{arith}
use lib.ListN.{length, get_or}
use borrow.Author.Rules.{rules}
use Rattle.std.specs.List.{between}
use Rattle.std.proofs.lemmas.List.Edits.{get_or-between, length-between}
use Rattle.unwind.proofs.wants.wanter.is_over.Goals as goal

pub returns-then-node-eq0 : goal.returns-then-node-eq0
returns-then-node-eq0 c = λ e.
    let first = c.node_in-node.result.first_end in
    let n = c.node_in-node.result.ends in
    let fit : first + n ≤ length c.args.landings.now = rw (sym c.node_in-node.ensures.is) at c.requires.1 in
    let each : (k : ℕ) → k < length (between first (first + n) c.args.landings.now) → get_or (between first (first + n) c.args.landings.now) k 0 ≡ 65535 = search rules in
    record { edgeless = rw (sym c.node_in-node.ensures.is) c.if-node-eq0.true; leaves = rw (sym c.node_in-node.ensures.is) (λ k h. sym (get_or-between c.args.landings.now first (first + n) k 0 (omega arith)) ∙ each k (rw length-between (omega arith))) }
