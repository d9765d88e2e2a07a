-- `same_ranges` meets its contract. The loop's invariant: so many of the handlers passed have the range. Assumes nothing.
use mathlib.Core.Path.{◌≡◌}
use Prim.Native.Nat.{◌-◌, ◌≤◌}
use Rattle.image.specs.Image.{Image}
use Rattle.graph.specs.Fold.{count}
use Rattle.graph.specs.Regions.{same_range}
use Rattle.builder.specs.Drafts.{Extents}
use Rattle.builder.proofs.regions.same_ranges.Given as goal

abbrev pub invariant-loop-g : goal.invariant-loop-g
invariant-loop-g l = (l.g ≤ l.n) × (l.same ≤ l.g) × ((m : Image) → Extents m l.starts l.ends → l.same ≡ count (λ g'. same_range m g' l.h) l.g)

abbrev pub decreases-loop-g : goal.decreases-loop-g
decreases-loop-g l = l.n - l.g
