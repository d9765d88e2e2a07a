-- The invariant: the sources before i are starts. Assumes nothing.
use mathlib.Core.Path.{◌≡◌}
use Prim.Native.Nat.{◌-◌, ◌≤◌}
use Rattle.builder.specs.Code.{image_of}
use Rattle.image.specs.Refusal.{clear}
use Rattle.graph.specs.Fold.{checks}
use Rattle.graph.specs.Build.{source_check}
use Rattle.builder.proofs.checks.check_sources.Given as goal

abbrev pub invariant-loop-i : goal.invariant-loop-i
invariant-loop-i l = (l.i ≤ l.n) × (checks (source_check (image_of l.code)) l.i ≡ clear)

abbrev pub decreases-loop-i : goal.decreases-loop-i
decreases-loop-i l = l.n - l.i
