-- `entry_place` meets its contract. The invariant: the entries before lo come before x, and those from hi on behind it.
-- Assumes nothing.
use Prim.Native.Nat.{◌-◌}
use Rattle.image.specs.Image.{routes_in}
use Rattle.unwind.specs.Entries.{Parts}
use Rattle.unwind.proofs.emit.entries.entry_place.Given as goal

abbrev pub invariant-loop-lo : goal.invariant-loop-lo
invariant-loop-lo l = Parts (routes_in l.s l.y) l.entries l.n l.x l.lo l.hi

abbrev pub decreases-loop-lo : goal.decreases-loop-lo
decreases-loop-lo l = l.hi - l.lo
