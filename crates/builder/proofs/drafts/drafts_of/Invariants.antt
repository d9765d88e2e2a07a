-- `drafts_of` meets its contract. The loop's invariant: these are the drafts of the handlers passed. Assumes nothing.
use mathlib.Core.Path.{◌≡◌}
use Prim.Native.Nat.{◌-◌, ◌≤◌}
use lib.ListN.{take}
use Rattle.image.specs.Image.{Image}
use Rattle.graph.specs.Regions.{drafts_below}
use Rattle.builder.specs.Drafts.{Extents, Counted}
use Rattle.builder.proofs.drafts.drafts_of.Given as goal

abbrev pub invariant-loop-h : goal.invariant-loop-h
invariant-loop-h l = (l.h ≤ l.n) × (l.count ≤ l.h) × Counted l.list l.count × ((m : Image) → Extents m l.starts l.ends → take l.count l.list ≡ drafts_below m l.h)

abbrev pub decreases-loop-h : goal.decreases-loop-h
decreases-loop-h l = l.n - l.h
