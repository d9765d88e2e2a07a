-- `common_at` meets its contract. The loop's invariant: the words passed are those of the slice and of v. Assumes nothing.
use Prim.Native.Nat.{◌*◌, ◌≤◌}
use Rattle.unwind.specs.Placed.{returns_in}
use Rattle.unwind.proofs.SlotLaws.{Filled}
use Rattle.unwind.proofs.slots.common_at.Given as goal

abbrev pub invariant-loop-k : goal.invariant-loop-k
invariant-loop-k l = (l.k ≤ 16) × Filled (returns_in l.sets l.v) (16 * l.i) l.w l.k
