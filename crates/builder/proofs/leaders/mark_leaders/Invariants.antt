-- The entry first, handlers and routes last. The invariant: the cursor stands at q, and the marks are those of the instructions
-- before. Assumes nothing.
use mathlib.Core.Path.{◌≡◌}
use Prim.Native.Nat.{◌≤◌, ◌-◌}
use Rattle.builder.specs.Code.{image_of}
use Rattle.graph.specs.Fold.{some}
use Rattle.graph.specs.Transfer.{size}
use Rattle.builder.specs.Cursor.{cursor_at}
use Rattle.builder.specs.Marks.{Marked, visit_mark}
use Rattle.builder.proofs.leaders.mark_leaders.Given as goal

abbrev pub invariant-loop-q : goal.invariant-loop-q
invariant-loop-q l = (l.q ≤ l.n) × (l.c ≡ cursor_at (image_of l.checked.code) l.q) × Marked (size (image_of l.checked.code)) (λ p. some (λ i. visit_mark (image_of l.checked.code) i p) l.q) l.initial.marks l.marks

abbrev pub decreases-loop-q : goal.decreases-loop-q
decreases-loop-q l = l.n - l.q
