-- Interning in scratch: what it asks and what it answers.
use Rattle.std.specs.Prelude.{◌≡◌, cond, List, [], ◌∷◌, map, ℕ, suc, ◌+◌, ◌-◌, ◌*◌, ◌≤◌, ◌<◌, eqb, length}
use Rattle.std.proofs.Math.Option.{Option}
use Rattle.image.specs.Image.{RouteImage}
use Rattle.image.specs.Deal.{UnwindPath}
use Rattle.image.specs.Accepted.{AcceptedRoutes}
use Rattle.unwind.specs.declared.tries.store.Counts.{Counts}
use Rattle.unwind.specs.declared.tries.paths.Group.{Group}
use Rattle.unwind.specs.declared.tries.keys.Key.{Key}
use Rattle.unwind.specs.declared.tries.nodes.Interned.{Interned}
use Rattle.addition.specs.Trie.{Node, Interned as Made, create, node_of, intern, longest}
use Rattle.unwind.specs.Nodes.{branch_in, branches, funclet_in, edge_of, nodes_in, Stored}
use Rattle.unwind.specs.Interning.{Starts, GroupIn, paths_of}
use Rattle.unwind.specs.Laid.{ends_list}
use Rattle.unwind.specs.Kept.{Grown}

-- interning with a bound on the steps left that is as large as it need be
unfoldable pub interned : ℕ → Option ℕ → List UnwindPath → List Node → Made
interned r f ps t = intern (longest ps) r f ps t

-- the steps of paths in all: interning them stores no more nodes, besides their own, and no more edges
unfoldable pub weight : List UnwindPath → ℕ
weight [] = 0
weight (p ∷ ps) = length p.steps + weight ps

-- all paths of a route
abbrev pub root_group : ℕ → ℕ → ℕ → Group
root_group r first count = record { route = r; first = first; count = count; from = 0; depth = 0 }

-- the paths that go on behind the calls and the funclet of a key
unfoldable pub group_behind : Group → Key → Group
group_behind g k =
    record {
      route = g.route;
      first = k.first;
      count = k.last - k.first + 1;
      from = k.step - g.depth;
      depth = g.depth + k.calls + 1;
    }

-- the funclet that a group's paths have entered last: the step that names it, plus 1, or 0 if there is none
unfoldable pub funclet_of : Group → ℕ
funclet_of g = cond (eqb g.depth 0) 0 (g.from + g.depth)

-- a group of an image that was read
pub record Grouped (m : RouteImage) (l : List ℕ) (g : Group) : Type 0 where
  pub accepted : AcceptedRoutes m
  pub starts : Starts m l
  pub within : GroupIn m g
  pub route : g.route < 32

-- there is room for so many nodes, edges and ends more, and for as many edges on the stack
pub record Room (nodes edges ends stack : List ℕ) (c : Counts) (top n e d : ℕ) : Type 0 where
  pub nodes_few : c.nodes + n ≤ 544
  pub edges_few : c.edges + e ≤ 512
  pub ends_few : c.ends + d ≤ 128
  pub stack_few : top + e ≤ 512
  pub nodes_fit : 6 * (c.nodes + n) ≤ length nodes
  pub edges_fit : 3 * (c.edges + e) ≤ length edges
  pub ends_fit : 3 * (c.ends + d) ≤ length ends
  pub stack_fit : 3 * (top + e) ≤ length stack

module _ (m : RouteImage) (g : Group) (nodes edges ends stack : List ℕ) (c : Counts) (top : ℕ) where
  -- the node whose edges are the n of the stack from `top` on is created
  pub record Closes (n : ℕ) (nodes' edges' ends' : List ℕ) (r : Interned) : Type 0 where
    pub trie : nodes_in m nodes' edges' ends' r.counts.nodes ≡ (create (node_of g.route (funclet_in m (funclet_of g)) (paths_of m g) (map (edge_of m) (branches stack top n))) (nodes_in m nodes edges ends c.nodes)).trie
    pub place : r.place ≡ (create (node_of g.route (funclet_in m (funclet_of g)) (paths_of m g) (map (edge_of m) (branches stack top n))) (nodes_in m nodes edges ends c.nodes)).place
    pub within : r.place < r.counts.nodes
    pub stored : Stored nodes' edges' ends' r.counts
    pub grown : Grown c 1 n (length (ends_list (paths_of m g))) r.counts

  -- the group is interned, and the stack is as it was below `top`
  pub record Interns (nodes' edges' ends' stack' : List ℕ) (r : Interned) : Type 0 where
    pub trie : nodes_in m nodes' edges' ends' r.counts.nodes ≡ (interned g.route (funclet_in m (funclet_of g)) (paths_of m g) (nodes_in m nodes edges ends c.nodes)).trie
    pub place : r.place ≡ (interned g.route (funclet_in m (funclet_of g)) (paths_of m g) (nodes_in m nodes edges ends c.nodes)).place
    pub within : r.place < r.counts.nodes
    pub stored : Stored nodes' edges' ends' r.counts
    pub grown : Grown c (suc (weight (paths_of m g))) (weight (paths_of m g)) (length (paths_of m g)) r.counts
    pub below : (k : ℕ) → k < top → branch_in stack' k ≡ branch_in stack k
