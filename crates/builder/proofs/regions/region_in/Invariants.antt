-- `region_in` meets its contract. The loop's invariant: none of the drafts passed has the range. Assumes nothing.
use mathlib.Core.Path.{◌≡◌}
use Prim.Native.Nat.{◌+◌, ◌-◌, ◌≤◌}
use lib.ListN.{take, drop}
use Rattle.image.specs.Image.{Image}
use Rattle.graph.specs.Regions.{region_in}
use Rattle.builder.specs.Drafts.{Extents}
use Rattle.builder.proofs.regions.region_in.Given as goal

abbrev pub invariant-loop-k : goal.invariant-loop-k
invariant-loop-k l = let gs = take l.count l.list in
    (l.k ≤ l.count) × ((m : Image) → Extents m l.starts l.ends → region_in m gs l.h ≡ l.k + region_in m (drop l.k gs) l.h)

abbrev pub decreases-loop-k : goal.decreases-loop-k
decreases-loop-k l = l.count - l.k
