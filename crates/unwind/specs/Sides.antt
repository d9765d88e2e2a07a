-- What routes and ends say of blocks, in scratch: the blocks that each route guards, and where each end lands.
use Rattle.std.specs.Prelude.{◌≡◌, List, ℕ, ◌<◌, get_or}
use Rattle.image.specs.Image.{RouteImage}
use Rattle.image.specs.Deal.{UnwindEnd, handler, propagate, resume, end_of, routes_of}
use Rattle.graph.specs.Graph.{Graph}
use Rattle.graph.specs.Route.{route_at}
use Rattle.addition.specs.Blocks.{block_of, guarded}
use Rattle.unwind.specs.Stands.{Has}
use Rattle.unwind.specs.Nodes.{branch_in, path_record}
use Rattle.unwind.specs.Placed.{set_at}

-- the block of a handler; the numbers that stand for no block are 65535 where it propagates, 65534 where it resumes
unfoldable pub landing : Graph → UnwindEnd → ℕ
landing g (handler h) = block_of g h
landing g propagate = 65535
landing g resume = 65534

-- those of the first n ends of the trie
pub record Lands (g : Graph) (m : RouteImage) (ends landings : List ℕ) (n : ℕ) : Type 0 where
  pub land : (k : ℕ) → k < n → get_or landings k 0 ≡ landing g (end_of (path_record m (branch_in ends k).what))

-- the blocks that the first n routes guard
pub record GuardsIn (g : Graph) (m : RouteImage) (guards : List ℕ) (n : ℕ) : Type 0 where
  pub has : (r : ℕ) → r < n → Has (set_at guards r) (guarded g (route_at (routes_of m) r))
