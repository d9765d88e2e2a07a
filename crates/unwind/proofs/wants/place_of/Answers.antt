-- `place_of` meets its contract. Assumes nothing.
use mathlib.Core.Path.{◌≡◌, ap, ◌∙◌}
use Prim.Native.Nat.{ℕ, ◌+◌, ◌≤◌}
use native.Mathlib.Omega.{arith}
use Rattle.graph.specs.Fold.{count}
use Rattle.graph.specs.BlockSet.{member}
use Rattle.unwind.specs.Placed.{set_at}
use Rattle.unwind.proofs.SlotLaws.{set_long}
use Rattle.unwind.proofs.CloneLaws.{rank_few}
use Rattle.unwind.proofs.WantLaws.{place_same, place_copy}
use Rattle.unwind.proofs.wants.place_of.Goals as goal

pub returns-then-x-eq0 : goal.returns-then-x-eq0
returns-then-x-eq0 c = (place_same c.args.x.base (set_at c.args.parts.now c.args.x.node) c.args.o c.if-x-eq0.true, omega (arith, c.requires.1))

pub overflow_add-result : goal.overflow_add-result
overflow_add-result c =
    let before : (c.rank_in.result ≡ count (member (set_at c.args.parts.now c.args.x.node)) c.args.o) × (c.rank_in.result ≤ 1024) = let part = set_at c.args.parts.now c.args.x.node in
    let rank = rw c.set_at-part.ensures at c.rank_in.ensures in
    (rank, omega (arith, rank, rank_few part (set_long c.args.parts.now c.args.x.node) c.args.o)) in
    omega (arith, c.requires.0, (before).1)

pub returns : goal.returns
returns c =
    let before : (c.rank_in.result ≡ count (member (set_at c.args.parts.now c.args.x.node)) c.args.o) × (c.rank_in.result ≤ 1024) = let part = set_at c.args.parts.now c.args.x.node in
    let rank = rw c.set_at-part.ensures at c.rank_in.ensures in
    (rank, omega (arith, rank, rank_few part (set_long c.args.parts.now c.args.x.node) c.args.o)) in (
      ap (λ (n : ℕ). c.args.x.base + n) (before).0 ∙ place_copy c.args.x.base (set_at c.args.parts.now c.args.x.node) c.args.o c.if-x-eq0.false,
      omega (arith, c.requires.0, (before).1),
    )
