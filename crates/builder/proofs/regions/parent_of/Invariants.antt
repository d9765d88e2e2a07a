-- `parent_of` meets its contract. The loop's invariant: it is the parent among the regions passed. Assumes nothing.
use Rattle.std.specs.Option.{option_to_list}
use mathlib.Core.Path.{◌≡◌}
use Prim.Native.Nat.{◌-◌, ◌≤◌}
use lib.ListN.{get_or}
use Rattle.image.specs.Image.{Image}
use Rattle.graph.specs.Regions.{drafts, parent_below}
use Rattle.builder.specs.Drafts.{Extents, Drafted}
use Rattle.builder.proofs.regions.parent_of.Given as goal

abbrev pub invariant-loop-k : goal.invariant-loop-k
invariant-loop-k l = (l.k ≤ l.count) × (get_or (option_to_list l.parent) 0 0 ≤ l.k) × ((m : Image) → Extents m l.starts l.ends → Drafted l.list l.count (drafts m) → option_to_list l.parent ≡ parent_below m l.r l.k)

abbrev pub decreases-loop-k : goal.decreases-loop-k
decreases-loop-k l = l.count - l.k
