-- Interning in scratch, step by step.
--     funclet_none, funclet_some, funclet_behind, funclet_small     the funclet that a group's paths have entered last
--     behind_laid, lower_laid, close_law     the node whose edges and ends are laid
-- Assumes nothing.
use mathlib.Core.Path.{◌≡◌, refl, sym, ap₂, subst, ◌∙◌}
use mathlib.Core.List.{List, map}
use mathlib.Core.Option.{some}
use Prim.Native.Nat.{ℕ, suc, ◌+◌, ◌-◌, ◌≤◌, ◌<◌}
use native.Mathlib.Decide.{ℕ_discrete}
use native.Mathlib.Omega.{arith}
use borrow.Author.Tests.{eq-eqb, ne_eqb}
use lib.ListN.{length}
use Rattle.image.specs.Image.{RouteImage}
use Rattle.unwind.specs.declared.tries.store.NodeRecord.{NodeRecord}
use Rattle.unwind.specs.declared.tries.store.Counts.{Counts}
use Rattle.unwind.specs.declared.tries.paths.Group.{Group}
use Rattle.unwind.specs.declared.tries.keys.Key.{Key}
use Rattle.unwind.specs.declared.tries.nodes.Interned.{Interned}
use Rattle.addition.specs.Trie.{Node, create, node_of}
use Rattle.unwind.specs.Nodes.{branches, funclet_in, edge_of, node_in, nodes_in, Stored}
use Rattle.unwind.specs.Interning.{paths_of}
use Rattle.unwind.specs.Keys.{key_in, Stands}
use Rattle.unwind.specs.Laid.{ends_list, EndsLaid, EdgesLaid}
use Rattle.unwind.specs.Kept.{Behind, Kept}
use Rattle.unwind.specs.Lower.{Lower}
use Rattle.unwind.specs.Interns.{group_behind, funclet_of, Grouped, Room, Closes}
use Rattle.unwind.proofs.TrieNodes.{nodes_still}

-- ---- the funclet of a group

pub funclet_none : (g : Group) → g.depth ≡ 0 → 0 ≡ funclet_of g
unfolding funclet_of
funclet_none g e = rw (eq-eqb g.depth 0 e)

pub funclet_some : (g : Group) → (g.depth ≡ 0 → ⊥) → g.from + g.depth ≡ funclet_of g
unfolding funclet_of
funclet_some g ne = rw (ne_eqb g.depth 0 ne)

pub funclet_small : (g : Group) → g.from + g.depth ≤ 512 → funclet_of g < 65536
funclet_small g h = elim (ℕ_discrete g.depth 0) [
  | yes e ↦ omega (arith, funclet_none g e)
  | no ne ↦ omega (arith, funclet_some g ne)
]

pub funclet_behind : (m : RouteImage) (g : Group) (k : Key) → Stands m g k → funclet_in m (funclet_of (group_behind g k)) ≡ some (key_in m k).what
unfolding group_behind funclet_in key_in
funclet_behind m g k stands =
    let deep : g.depth + k.calls + 1 ≡ 0 → ⊥ = λ e. omega arith in
    let there : k.step - g.depth + (g.depth + k.calls + 1) ≡ suc (k.step + k.calls) = omega (arith, stands.behind) in
    rw (← funclet_some (group_behind g k) deep, there)

-- ---- the node whose edges and ends are laid

module _ (m : RouteImage) (l : List ℕ) (g : Group) (grouped : Grouped m l g) (nodes edges ends stack : List ℕ) (c : Counts) (top n : ℕ)
    (stored : Stored nodes edges ends c) (room : Room nodes edges ends stack c top 1 n (length (ends_list (paths_of m g))))
    (edges' ends' : List ℕ) (f e d : ℕ) (is : f ≡ funclet_of g) (edges-laid : EdgesLaid m stack top n edges c.edges edges' e) (ends-laid : EndsLaid m g ends c.ends ends' d) where
  abbrev pub laid : NodeRecord
  laid =
      record { funclet = f; route = g.route; first_edge = c.edges; edges = e; first_end = c.ends; ends = d }

  pub behind_laid : length edges' ≡ length edges → length ends' ≡ length ends → Behind nodes edges' ends' c laid
  behind_laid p q =
      record {
        small = record {
          funclet = rw is (funclet_small g (omega (arith, grouped.within.steps, grouped.accepted.steps_most)));
          route = omega (arith, grouped.route);
          first_edge = omega (arith, room.edges_few);
          edges = omega (arith, edges-laid.most, room.edges_few);
          first_end = omega (arith, room.ends_few);
          ends = omega (arith, ends-laid.most, room.ends_few);
        };
        room = omega (arith, room.nodes_fit);
        first_edge = refl;
        first_end = refl;
        edges_fit = omega (arith, edges-laid.most, room.edges_fit, p);
        ends_fit = omega (arith, ends-laid.most, room.ends_fit, q);
      }

  node_is : node_in m edges' ends' laid ≡ node_of g.route (funclet_in m (funclet_of g)) (paths_of m g) (map (edge_of m) (branches stack top n))
  unfolding node_in node_of
  node_is = λ i.
      record {
        funclet = funclet_in m (is i);
        edges = edges-laid.run i;
        ends = ends-laid.run i;
        route = g.route;
      }

  still : nodes_in m nodes edges' ends' c.nodes ≡ nodes_in m nodes edges ends c.nodes
  still = nodes_still m nodes edges ends edges' ends' c stored edges-laid.others ends-laid.others

  pub lower_laid : Lower (nodes_in m nodes edges ends c.nodes) → Lower (nodes_in m nodes edges' ends' c.nodes)
  lower_laid low = subst Lower (sym still) low

  pub close_law : (nodes' : List ℕ) (r : Interned) → Kept m nodes edges' ends' c laid nodes' r → Closes m g nodes edges ends stack c top n nodes' edges' ends' r
  close_law nodes' r kept =
      record {
        trie = kept.trie ∙ ap₂ (λ (x : Node) (t : List Node). (create x t).trie) node_is still;
        place = kept.place ∙ ap₂ (λ (x : Node) (t : List Node). (create x t).place) node_is still;
        within = kept.within;
        stored = kept.stored;
        grown = record {
          nodes_most = kept.grown.nodes_most;
          edges_most = omega (arith, kept.grown.edges_most, edges-laid.most);
          ends_most = omega (arith, kept.grown.ends_most, ends-laid.most);
        };
      }
