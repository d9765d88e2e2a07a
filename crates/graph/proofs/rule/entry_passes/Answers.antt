-- `entry_passes` meets its contract. Assumes nothing.
use mathlib.Core.Path.{◌≡◌, sym}
use Prim.Native.Nat.{suc, ◌-◌}
use native.Mathlib.Omega.{arith}
use Rattle.graph.specs.Lent.{held_of}
use Rattle.graph.proofs.RuleLaws.{passes_first, passes_next}
use Rattle.graph.proofs.rule.entry_passes.Goals as goal

pub returns-then-i-eq0 : goal.returns-then-i-eq0
returns-then-i-eq0 c = let first : c.args.i ≡ 0 = c.if-i-eq0.true in
    rw (c.table_at-e.ensures, first) (sym (passes_first (held_of c.args.g.now).graph.table))

pub returns : goal.returns
returns c = let p = c.args.i - 1 in
    let ne = c.if-i-eq0.false in
    let next : suc p ≡ c.args.i = omega arith in
    rw (c.table_at.ensures, c.table_at-e.ensures) (sym (rw next at (passes_next (held_of c.args.g.now).graph.table p)))
