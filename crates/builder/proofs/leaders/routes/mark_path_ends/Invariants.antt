-- The invariant: the marks of those before k. Assumes nothing.
use Prim.Native.Nat.{◌≤◌, ◌-◌}
use Rattle.builder.specs.Code.{image_of}
use Rattle.graph.specs.Fold.{some}
use Rattle.graph.specs.Transfer.{size}
use Rattle.builder.specs.Marks.{Marked, path_mark}
use Rattle.builder.proofs.leaders.routes.mark_path_ends.Given as goal

abbrev pub invariant-loop-k : goal.invariant-loop-k
invariant-loop-k l = (l.k ≤ l.n) × Marked (size (image_of l.checked.code)) (λ p. some (λ i. path_mark (image_of l.checked.code) i p) l.k) l.initial.marks l.marks

abbrev pub decreases-loop-k : goal.decreases-loop-k
decreases-loop-k l = l.n - l.k
