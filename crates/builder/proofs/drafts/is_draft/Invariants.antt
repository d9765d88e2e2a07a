-- `is_draft` meets its contract. The loop's invariant: no handler passed has the range. Assumes nothing.
use mathlib.Core.Path.{◌≡◌}
use mathlib.Core.Bool.{false}
use Prim.Native.Nat.{◌-◌, ◌≤◌}
use Rattle.image.specs.Image.{Image}
use Rattle.graph.specs.Fold.{some}
use Rattle.graph.specs.Regions.{same_range}
use Rattle.builder.specs.Drafts.{Extents}
use Rattle.builder.proofs.drafts.is_draft.Given as goal

abbrev pub invariant-loop-g : goal.invariant-loop-g
invariant-loop-g l = (l.g ≤ l.h) × ((m : Image) → Extents m l.starts l.ends → some (λ g'. same_range m g' l.h) l.g ≡ false)

abbrev pub decreases-loop-g : goal.decreases-loop-g
decreases-loop-g l = l.h - l.g
