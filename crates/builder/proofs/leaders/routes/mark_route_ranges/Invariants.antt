-- The invariant: the marks of those before r. Assumes nothing.
use Prim.Native.Nat.{◌≤◌, ◌-◌}
use Rattle.builder.specs.Code.{image_of}
use Rattle.graph.specs.Fold.{some}
use Rattle.graph.specs.Transfer.{size}
use Rattle.builder.specs.Marks.{Marked, route_range}
use Rattle.builder.proofs.leaders.routes.mark_route_ranges.Given as goal

abbrev pub invariant-loop-r : goal.invariant-loop-r
invariant-loop-r l = (l.r ≤ l.n) × Marked (size (image_of l.checked.code)) (λ p. some (λ i. route_range (image_of l.checked.code) i p) l.r) l.initial.marks l.marks

abbrev pub decreases-loop-r : goal.decreases-loop-r
decreases-loop-r l = l.n - l.r
