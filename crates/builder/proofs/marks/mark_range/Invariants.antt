-- The invariant: the marks of the run before p. Assumes nothing.
use mathlib.Core.Bool.{◌&&◌}
use Prim.Native.Nat.{◌-◌, ◌≤◌}
use lib.Dec.{ltb, leb}
use Rattle.builder.specs.Marks.{Marked}
use Rattle.builder.proofs.marks.mark_range.Given as goal

abbrev pub invariant-loop-p : goal.invariant-loop-p
invariant-loop-p l = (l.range.first ≤ l.p) × (l.range.first ≤ l.range.past → l.p ≤ l.range.past) × Marked 512 (λ q. leb l.range.first q && ltb q l.p) l.initial.marks l.marks

abbrev pub decreases-loop-p : goal.decreases-loop-p
decreases-loop-p l = l.range.past - l.p
