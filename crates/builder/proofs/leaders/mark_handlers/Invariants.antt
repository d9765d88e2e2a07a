-- The invariant: the marks of those before h. Assumes nothing.
use Prim.Native.Nat.{◌≤◌, ◌-◌}
use Rattle.builder.specs.Code.{image_of}
use Rattle.graph.specs.Fold.{some}
use Rattle.graph.specs.Transfer.{size}
use Rattle.graph.specs.Leaders.{protect_mark}
use Rattle.builder.specs.Marks.{Marked}
use Rattle.builder.proofs.leaders.mark_handlers.Given as goal

abbrev pub invariant-loop-h : goal.invariant-loop-h
invariant-loop-h l = (l.h ≤ l.n) × Marked (size (image_of l.checked.code)) (λ p. some (λ i. protect_mark (image_of l.checked.code) i p) l.h) l.initial.marks l.marks

abbrev pub decreases-loop-h : goal.decreases-loop-h
decreases-loop-h l = l.n - l.h
