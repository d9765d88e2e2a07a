-- A node that is stored unless it stands already: what is asked, and what is answered.
use Rattle.std.specs.Prelude.{◌≡◌, List, ℕ, ◌+◌, ◌*◌, ◌≤◌, ◌<◌, length, Option, Some, None}
use Rattle.std.proofs.Math.Option as maybe
use Rattle.image.specs.Image.{RouteImage}
use Rattle.unwind.specs.declared.tries.store.NodeRecord.{NodeRecord}
use Rattle.unwind.specs.declared.tries.store.Counts.{Counts}
use Rattle.unwind.specs.declared.tries.nodes.Interned.{Interned}
use Rattle.addition.specs.Trie.{create}
use Rattle.unwind.specs.Nodes.{node_in, nodes_in, Stored, NodeSmall}

abbrev pub place_in : Option ℕ → maybe.Option ℕ
place_in (Some i) = maybe.some i
place_in None = maybe.none

abbrev pub interned_at : ℕ → Counts → Interned
interned_at place c = record { place = place; counts = c }

-- the edges and ends of x are laid behind those that are stored, and there is room for it
pub record Behind (nodes edges ends : List ℕ) (c : Counts) (x : NodeRecord) : Type 0 where
  pub small : NodeSmall x
  pub room : 6 * c.nodes + 6 ≤ length nodes
  pub first_edge : x.first_edge ≡ c.edges
  pub first_end : x.first_end ≡ c.ends
  pub edges_fit : 3 * (c.edges + x.edges) ≤ length edges
  pub ends_fit : 3 * (c.ends + x.ends) ≤ length ends

-- how much more is stored than before
pub record Grown (c : Counts) (nodes edges ends : ℕ) (c' : Counts) : Type 0 where
  pub nodes_most : c'.nodes ≤ c.nodes + nodes
  pub edges_most : c'.edges ≤ c.edges + edges
  pub ends_most : c'.ends ≤ c.ends + ends

pub record Kept (m : RouteImage) (nodes edges ends : List ℕ) (c : Counts) (x : NodeRecord) (nodes' : List ℕ) (r : Interned) : Type 0 where
  pub trie : nodes_in m nodes' edges ends r.counts.nodes ≡ (create (node_in m edges ends x) (nodes_in m nodes edges ends c.nodes)).trie
  pub place : r.place ≡ (create (node_in m edges ends x) (nodes_in m nodes edges ends c.nodes)).place
  pub within : r.place < r.counts.nodes
  pub stored : Stored nodes' edges ends r.counts
  pub grown : Grown c 1 x.edges x.ends r.counts
