-- The tries of all routes in scratch.
use Rattle.std.specs.Prelude.{◌≡◌, List, ℕ, ◌+◌, ◌*◌, ◌≤◌, ◌<◌, length, get_or, take}
use Rattle.image.specs.Image.{RouteImage}
use Rattle.image.specs.Deal.{routes_of}
use Rattle.unwind.specs.declared.tries.store.Counts.{Counts}
use Rattle.addition.specs.Trie.{tries}
use Rattle.unwind.specs.Nodes.{nodes_in, Stored}

-- there is room for what the routes may want
pub record Scratch (m : RouteImage) (starts nodes edges ends stack roots : List ℕ) : Type 0 where
  pub starts_fit : length m.paths < length starts
  pub nodes_fit : 6 * (length m.routes + length m.steps) ≤ length nodes
  pub edges_fit : 3 * length m.steps ≤ length edges
  pub ends_fit : 3 * length m.paths ≤ length ends
  pub stack_fit : 3 * length m.steps ≤ length stack
  pub roots_fit : length m.routes ≤ length roots

-- THE TRIES: the first nodes are those of the definition, and so are the roots
pub record TriesIn (m : RouteImage) (nodes edges ends roots : List ℕ) (c : Counts) : Type 0 where
  pub nodes_are : nodes_in m nodes edges ends c.nodes ≡ (tries (routes_of m)).nodes
  pub roots_are : take (length m.routes) roots ≡ (tries (routes_of m)).roots
  pub roots_in : (r : ℕ) → r < length m.routes → get_or roots r 0 < c.nodes
  pub stored : Stored nodes edges ends c
  pub nodes_most : c.nodes ≤ 544
  pub edges_most : c.edges ≤ 512
  pub ends_most : c.ends ≤ 128
