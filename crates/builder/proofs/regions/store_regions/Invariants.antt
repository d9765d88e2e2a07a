-- `store_regions` meets its contract. The loop's invariant: the regions passed are stored. Assumes nothing.
use Prim.Native.Nat.{◌-◌, ◌≤◌}
use Rattle.builder.specs.Code.{image_of}
use Rattle.image.specs.Image.{table}
use Rattle.graph.specs.Graph.{held}
use Rattle.graph.specs.Lent.{held_of}
use Rattle.graph.specs.Stored.{Stored}
use Rattle.graph.specs.Regions.{region_at}
use Rattle.builder.specs.Drafts.{with_regions}
use Rattle.builder.proofs.regions.store_regions.Given as goal

abbrev pub invariant-loop-r : goal.invariant-loop-r
invariant-loop-r l = (l.r ≤ l.count) × Stored l.initial.g l.g (held (with_regions (held_of l.initial.g).graph (table (region_at (image_of l.numbered.code)) l.r)))

abbrev pub decreases-loop-r : goal.decreases-loop-r
decreases-loop-r l = l.count - l.r
