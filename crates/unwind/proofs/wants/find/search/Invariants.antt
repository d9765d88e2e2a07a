-- `search` meets its contract. The loop's invariant: the hop is one of lo .. hi. Assumes nothing.
use Prim.Native.Nat.{◌-◌}
use Rattle.unwind.specs.Flags.{pair}
use Rattle.unwind.proofs.FindLaws.{Between}
use Rattle.unwind.proofs.wants.find.search.Given as goal

abbrev pub invariant-loop-lo : goal.invariant-loop-lo
invariant-loop-lo l = Between l.h (pair l.b l.t) l.lo l.hi

abbrev pub decreases-loop-lo : goal.decreases-loop-lo
decreases-loop-lo l = l.hi - l.lo
