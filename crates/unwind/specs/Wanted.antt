-- The ways of an addition in the order in which routes want them, by the numbers that are lent.
use Rattle.std.specs.Prelude.{cond, List, ◌++◌, map, ℕ, ◌+◌, ◌≤◌, eqb, length, get_or}
use Rattle.image.specs.Image.{RouteImage}
use Rattle.graph.specs.Graph.{Graph, block}
use Rattle.graph.specs.Fold.{flat, count}
use Rattle.graph.specs.BlockSet.{member}
use Rattle.unwind.specs.declared.tries.store.NodeRecord.{NodeRecord}
use Rattle.addition.specs.Lists.{joined}
use Rattle.unwind.specs.Nodes.{record_in}
use Rattle.unwind.specs.Placed.{set_at}
use Rattle.unwind.specs.Clones.{list_of}
use Rattle.addition.specs.Ways.{Way}
use Rattle.unwind.specs.Sources.{Exit}
use Rattle.unwind.specs.Gather.{record_exits}

-- an exit that route r wants
abbrev pub way_of : ℕ → Exit → Way
way_of r x = record { source = x.leap.source; route = r; calls = x.calls; end = x.leap.end }

-- where node i has block o of its funclet
unfoldable pub place_in : List ℕ → List ℕ → ℕ → ℕ → ℕ
place_in bases parts i o = cond (eqb (get_or bases i 0) 0) o (get_or bases i 0 + count (member (set_at parts i)) o)

module _ (m : RouteImage) (nodes edges ends heads landings : List ℕ) where
  -- the ways of a node out of block b, for route r
  unfoldable pub record_ways : ℕ → ℕ → NodeRecord → List Way
  record_ways r b x = map (way_of r) (record_exits m b edges ends heads landings x)

  -- of route r, over the blocks that it guards
  unfoldable pub guard_ways : List ℕ → List ℕ → ℕ → List Way
  guard_ways roots guards r = joined (λ b. record_ways r b (record_in nodes (get_or roots r 0))) (list_of (set_at guards r))

  -- of node i, over the blocks from which it returns
  unfoldable pub return_ways : List ℕ → List ℕ → List ℕ → ℕ → List Way
  return_ways bases parts returns i =
      joined (λ o. record_ways (record_in nodes i).route (place_in bases parts i o) (record_in nodes i)) (list_of (set_at returns i))

  -- all, of so many routes and nodes
  unfoldable pub lent_ways : List ℕ → List ℕ → List ℕ → List ℕ → List ℕ → ℕ → ℕ → List Way
  lent_ways roots guards bases parts returns routes n =
      flat (guard_ways roots guards) routes ++ flat (return_ways bases parts returns) n

-- the run of each block lies in the table
pub record RunsFit (g : Graph) : Type 0 where
  pub fits : (b : ℕ) → (block g b).first + (block g b).count ≤ length g.table
