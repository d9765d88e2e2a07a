-- The invariant: the cursor stands at p, and the positions before p are clear. Assumes nothing.
use mathlib.Core.Path.{◌≡◌}
use Prim.Native.Nat.{◌-◌, ◌≤◌}
use Rattle.builder.specs.Code.{image_of}
use Rattle.image.specs.Refusal.{clear}
use Rattle.graph.specs.Fold.{checks}
use Rattle.graph.specs.Build.{continuation_check}
use Rattle.builder.specs.Cursor.{cursor_at}
use Rattle.builder.proofs.continuations.check_continuations.Given as goal

abbrev pub invariant-loop-p : goal.invariant-loop-p
invariant-loop-p l = (l.p ≤ l.n) × (l.c ≡ cursor_at (image_of l.checked.code) l.p) × (checks (continuation_check (image_of l.checked.code)) l.p ≡ clear)

abbrev pub decreases-loop-p : goal.decreases-loop-p
decreases-loop-p l = l.n - l.p
