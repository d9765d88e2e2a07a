-- `sets_turn` meets its contract. The invariant: the sets passed are steady where there is no mark. Assumes nothing.
use Prim.Native.Nat.{◌≤◌}
use Rattle.unwind.specs.Alike.{Steady}
use Rattle.unwind.proofs.emit.alike.sets_turn.Given as goal

abbrev pub invariant-loop-i : goal.invariant-loop-i
invariant-loop-i l = (l.i ≤ l.n) × Steady l.sets l.i l.k l.t
