-- `place_of` meets its contract. The loop's invariant: the drafts passed stay before h. Assumes nothing.
use mathlib.Core.Path.{◌≡◌}
use mathlib.Core.List.{◌++◌}
use Prim.Native.Nat.{◌-◌, ◌≤◌}
use lib.ListN.{take, drop}
use Rattle.image.specs.Image.{Image}
use Rattle.graph.specs.Regions.{place}
use Rattle.builder.specs.Drafts.{Extents}
use Rattle.builder.proofs.drafts.place_of.Given as goal

abbrev pub invariant-loop-j : goal.invariant-loop-j
invariant-loop-j l = let gs = take l.count l.list in
    (l.j ≤ l.count) × ((m : Image) → Extents m l.starts l.ends → place m l.h gs ≡ take l.j gs ++ place m l.h (drop l.j gs))

abbrev pub decreases-loop-j : goal.decreases-loop-j
decreases-loop-j l = l.count - l.j
