-- The scratch of an addition: what it asks of the lengths of the slices that it is lent, and what holds of them on the way.
use Rattle.std.specs.Prelude.{◌≡◌, true, List, ℕ, ◌+◌, ◌*◌, ◌≤◌, ◌<◌, length, replicate}
use Rattle.image.specs.Refusal.{clear}
use Rattle.image.specs.Image.{RouteImage}
use Rattle.image.specs.Deal.{UnwindRoute, routes_of}
use Rattle.image.specs.Accepted.{AcceptedRoutes}
use Rattle.image.specs.declared.section.RouteLayout.{RouteLayout}
use Rattle.graph.specs.Graph.{Graph, Held}
use Rattle.graph.specs.Fold.{checks}
use Rattle.graph.specs.Search.{Linked, Roomy}
use Rattle.graph.specs.WellFormed.{well_formed}
use Rattle.unwind.specs.declared.tries.store.Counts.{Counts}
use Rattle.addition.specs.Part.{funclets}
use Rattle.addition.specs.Trie.{node_at, tries}
use Rattle.unwind.specs.Routed.{TriesIn}
use Rattle.unwind.specs.Placed.{Slots, Placed}
use Rattle.unwind.specs.Lent as lent
use Rattle.unwind.specs.Copies.{Bounded}
use Rattle.unwind.specs.Instances.{Instances}
use Rattle.addition.specs.Add.{node_check}

-- routes with no more than so many steps, paths and routes
pub record Few (y : RouteLayout) (steps paths routes : ℕ) : Type 0 where
  pub steps_few : y.steps.count ≤ steps
  pub paths_few : y.paths.count ≤ paths
  pub routes_few : y.routes.count ≤ routes

-- a graph with no more than so many blocks and edges
pub record Small (g : Graph) (blocks edges : ℕ) : Type 0 where
  pub blocks_few : length g.blocks ≤ blocks
  pub edges_few : length g.edges ≤ edges

-- the lengths of a frame for so many steps, paths, routes and blocks
pub record Sizes (steps paths routes blocks starts nodes edges ends slots parts guards exits : ℕ) : Type 0 where
  pub steps_most : steps ≤ 512
  pub paths_most : paths ≤ 128
  pub routes_most : routes ≤ 2 * steps
  pub blocks_most : blocks < exits
  pub starts_are : starts ≡ paths + 1
  pub nodes_are : nodes ≡ 6 * slots
  pub edges_are : edges ≡ 3 * steps
  pub ends_are : ends ≡ 3 * paths
  pub slots_are : slots ≡ routes + steps
  pub parts_are : parts ≡ 16 * slots
  pub guards_are : guards ≡ 16 * routes
  pub exits_are : exits ≡ 6 * (steps + paths)

-- THE FRAME of an addition: slices of these lengths, for no more than so many steps, paths, routes, blocks and edges; no block is
-- linked and no node placed
pub record Frame (y : RouteLayout) (g : Graph) (starts nodes edges ends stack roots head next bases heads parts guards landings exits : List ℕ) : Type 0 where
  pub steps : ℕ
  pub few : Few y steps (length landings) (length roots)
  pub small : Small g (length head) (length next)
  pub sizes : Sizes steps (length landings) (length roots) (length head) (length starts) (length nodes) (length edges) (length ends) (length bases) (length parts) (length guards) (length exits)
  pub stack_long : length stack ≡ length edges
  pub heads_long : length heads ≡ length bases
  pub unlinked : head ≡ replicate (length head) 0
  pub unplaced : exits ≡ replicate (length exits) 0

-- THE ROOM where the tries stand: for the links of the graph, of which there are none yet, for an instance of each node, and for
-- the exits of a block; where those go the first node of each slot stands before, of which there is none yet
pub record Room (g : Graph) (m : RouteImage) (edges ends head next bases heads parts guards landings exits : List ℕ) (c : Counts) : Type 0 where
  pub links : Roomy g head next
  pub unlinked : head ≡ replicate (length head) 0
  pub slots : Slots c.nodes bases heads parts
  pub guards_fit : 16 * length m.routes ≤ length guards
  pub landings_fit : c.ends ≤ length landings
  pub exits_fit : lent.Roomy edges ends exits
  pub firsts_fit : length g.blocks < length exits
  pub unplaced : exits ≡ replicate (length exits) 0

-- the checks of the nodes are clear
abbrev pub NodesPass : Graph → List UnwindRoute → Type 0
NodesPass g rs = checks (λ i. node_check g (node_at (tries rs).nodes i)) (length (tries rs).nodes) ≡ clear

-- instances that stand, and the room that is left then
pub record Placements (g : Graph) (m : RouteImage) (nodes edges ends roots head next bases heads parts guards landings exits : List ℕ) (c : Counts) : Type 0 where
  pub trie : TriesIn m nodes edges ends roots c
  pub checked : NodesPass g (routes_of m)
  pub links : Roomy g head next
  pub linked : Linked g head next 0
  pub slots : Slots c.nodes bases heads parts
  pub placed : Placed g (funclets (routes_of m)) (tries (routes_of m)).nodes bases heads parts c.nodes
  pub bounded : Bounded g (routes_of m)
  pub guards_fit : 16 * length m.routes ≤ length guards
  pub landings_fit : c.ends ≤ length landings
  pub exits_fit : lent.Roomy edges ends exits

-- routes whose instances are placed
pub record AtHand (h : Held) (m : RouteImage) (nodes edges ends roots head next bases heads parts returns guards landings exits : List ℕ) (c : Counts) : Type 0 where
  pub graphed : well_formed h ≡ true
  pub accepted : AcceptedRoutes m
  pub checked : NodesPass h.graph (routes_of m)
  pub instances : Instances h.graph m nodes edges ends roots bases heads parts returns guards landings c
  pub links : Roomy h.graph head next
  pub linked : Linked h.graph head next 0
  pub exits_fit : lent.Roomy edges ends exits
