-- The invariant: the handlers before h are clear. Assumes nothing.
use mathlib.Core.Path.{◌≡◌}
use Prim.Native.Nat.{◌-◌, ◌≤◌}
use Rattle.builder.specs.Code.{image_of}
use Rattle.image.specs.Refusal.{clear}
use Rattle.graph.specs.Fold.{checks}
use Rattle.graph.specs.Build.{handler_check}
use Rattle.builder.proofs.ranges.check_handlers.Given as goal

abbrev pub invariant-loop-h : goal.invariant-loop-h
invariant-loop-h l = (l.h ≤ l.n) × (checks (handler_check (image_of l.code)) l.h ≡ clear)

abbrev pub decreases-loop-h : goal.decreases-loop-h
decreases-loop-h l = l.n - l.h
