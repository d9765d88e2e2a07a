-- 18, 19 and 20 of an addition, by what was placed and counted.
--     routes-same                  the route edges hang on the table and the blocks alone
--     blocks_stop                  too many blocks
--     placed_in, placed_few, bounded_in     where 18 lets pass: the instances, and how many blocks there are
--     edges_refused, hops_refused  too many edges, and too many hops or lists
--     sizes_clear                  neither
-- Assumes nothing.
use mathlib.Core.Path.{◌≡◌, refl, sym, ap, ap₂, ◌∙◌, subst}
use mathlib.Core.Bool.{false, ◌&&◌, and-false}
use mathlib.Core.Logic.{◌⊎◌, inl, inr}
use mathlib.Core.List.{List, [], ◌∷◌, ◌++◌}
use Prim.Native.Nat.{ℕ, ◌+◌, ◌≤◌, ◌<◌}
use native.Mathlib.Omega.{arith}
use borrow.Author.Tests.{le-leb, lt-leb, leb-true}
use lib.Dec.{leb}
use lib.ListN.{length, length-append, length-map}
use Rattle.image.specs.Refusal.{Refusal, refusal, Check, clear, ◌then◌, unless}
use Rattle.image.specs.Image.{RouteImage}
use Rattle.image.specs.Deal.{UnwindRoute, routes_of}
use Rattle.image.proofs.Checks.{unless_clear}
use Rattle.graph.specs.declared.record.Block.{Block}
use Rattle.graph.specs.declared.record.Edge.{Edge}
use Rattle.graph.specs.Graph.{Graph, block}
use Rattle.graph.specs.Fold.{flat}
use Rattle.unwind.specs.declared.emit.count.Sizes.{Sizes}
use Rattle.unwind.specs.declared.tries.store.Counts.{Counts}
use Rattle.addition.specs.Lists.{joined}
use Rattle.addition.specs.Blocks.{first_of, last_of}
use Rattle.addition.specs.Part.{funclets}
use Rattle.addition.specs.Trie.{Node, tries}
use Rattle.unwind.specs.Routed.{TriesIn}
use Rattle.addition.specs.Instance.{copied, clone_blocks, clone_edges}
use Rattle.unwind.specs.Placed.{Placed, PlacedAll}
use Rattle.addition.specs.Ways.{HopEnd, block as to_block, leave, Way, Leap, leap, ways, hops_of, route_edge, edge_to, route_edges}
use Rattle.unwind.specs.Sizes.{HopsSize}
use Rattle.unwind.specs.Copies.{Bounded}
use Rattle.unwind.specs.HopWords.{HopsFit}
use Rattle.addition.specs.Add.{extended, addition, size_check}
use Rattle.unwind.proofs.EdgeNumber.{edges_number}

-- ---- route edges

module _ (g : Graph) (bs : List Block) (es : List Edge) where
  to_same : (seen : List Leap) (w : Way) (e : HopEnd) → edge_to (extended g bs es) seen w e ≡ edge_to (extended g bs []) seen w e
  unfolding edge_to route_edge first_of last_of extended
  to_same seen w (to_block t) = refl
  to_same seen w leave = refl

  pub routes-same : (seen : List Leap) (ws : List Way) → route_edges (extended g bs es) seen ws ≡ route_edges (extended g bs []) seen ws
  unfolding route_edges
  routes-same seen [] = refl
  routes-same seen (w ∷ ws) = ap₂ (λ (a b : List Edge). a ++ b) (to_same seen w w.end) (routes-same (leap w ∷ seen) ws)

-- ---- what comes to how many

too_many : (a b : ℕ) → (2048 < a) ⊎ (4096 < b) → (leb a 2048 && leb b 4096) ≡ false
too_many a b (inl h) = rw (lt-leb a 2048 h)
too_many a b (inr h) = rw (lt-leb b 4096 h) (and-false (leb a 2048))

module _ (g : Graph) (rs : List UnwindRoute) where
  abbrev z : List Node
  z = (tries rs).nodes

  abbrev copies : List Block
  copies = clone_blocks g (funclets rs) z

  blocks_long : length (addition g rs).graph.blocks ≡ length g.blocks + length copies
  unfolding addition extended
  blocks_long = length-append g.blocks copies

  bounded_blocks : Bounded g rs → length (addition g rs).graph.blocks ≤ 1024
  unfolding clone_blocks
  bounded_blocks b = omega (arith, blocks_long, length-map (flat (copied g (funclets rs) z) (length z)) (block g), b.few)

  module _ (sz : Sizes) (counted : HopsSize (hops_of (ways g rs)) sz) (k : ℕ) (cloned : k ≡ length (clone_edges g (funclets rs) z)) where
    edges_long : length (addition g rs).graph.edges ≡ length g.edges + k + sz.blocks
    unfolding addition extended
    edges_long =
        let more : List Edge = clone_edges g (funclets rs) z in
        let routed : List Edge = route_edges (extended g copies []) [] (ways g rs) in
        omega (arith, length-append g.edges (more ++ routed), length-append more routed, edges_number (extended g copies []) (ways g rs), counted.blocks)

    hops_long : sz.hops ≡ length (addition g rs).hops
    unfolding addition
    hops_long = counted.hops

    lists_long : sz.lists ≡ length (joined (λ h. h.calls) (addition g rs).hops)
    unfolding addition
    lists_long = counted.lists

    module _ (bounded : Bounded g rs) where
      pub edges_refused : 4096 < length g.edges + k + sz.blocks → size_check (addition g rs) ≡ Check.refused (refusal 19 0 0)
      unfolding size_check
      edges_refused h =
          rw (
            le-leb (length (addition g rs).graph.blocks) 1024 (bounded_blocks bounded),
            lt-leb (length (addition g rs).graph.edges) 4096 (omega (arith, edges_long)),
          )

      module _ (edges_fit : length g.edges + k + sz.blocks ≤ 4096) where
        pub hops_refused : (2048 < sz.hops) ⊎ (4096 < sz.lists) → size_check (addition g rs) ≡ Check.refused (refusal 20 0 0)
        unfolding size_check
        hops_refused over =
            rw (
              le-leb (length (addition g rs).graph.blocks) 1024 (bounded_blocks bounded),
              le-leb (length (addition g rs).graph.edges) 4096 (omega (arith, edges_long)),
              too_many (length (addition g rs).hops) (length (joined (λ h. h.calls) (addition g rs).hops)) (rw (← hops_long, ← lists_long) over),
            )

        pub sizes_clear : sz.hops ≤ 2048 → sz.lists ≤ 4096 → (size_check (addition g rs) ≡ clear) × HopsFit (hops_of (ways g rs))
        unfolding size_check
        sizes_clear hops_fit lists-fit = (
          rw (
            le-leb (length (addition g rs).graph.blocks) 1024 (bounded_blocks bounded),
            le-leb (length (addition g rs).graph.edges) 4096 (omega (arith, edges_long)),
            le-leb (length (addition g rs).hops) 2048 (omega (arith, hops_long)),
            le-leb (length (joined (λ h. h.calls) (addition g rs).hops)) 4096 (omega (arith, lists_long)),
          ),
          record { hops = omega (arith, counted.hops); lists = omega (arith, counted.lists) },
        )

-- ---- what was placed

stops : (a b d : Check) (r : Refusal) → a ≡ Check.refused r → (a then b then d) ≡ Check.refused r
stops a b d r e = rw e

module _ (g : Graph) (m : RouteImage) (nodes edges ends roots bases heads parts : List ℕ) (c : Counts) (t : TriesIn m nodes edges ends roots c) where
  abbrev all : List Node
  all = (tries (routes_of m)).nodes

  few_check : (k : Check) → PlacedAll g m nodes c.nodes bases heads parts k → k ≡ unless (leb (length g.blocks + length (clone_blocks g (funclets (routes_of m)) all)) 1024) (refusal 18 0 0)
  few_check k p = p.check edges ends ∙ ap (λ (z : List Node). unless (leb (length g.blocks + length (clone_blocks g (funclets (routes_of m)) z)) 1024) (refusal 18 0 0)) t.nodes_are

  pub blocks_stop : (k : Check) (r : Refusal) → k ≡ Check.refused r → PlacedAll g m nodes c.nodes bases heads parts k → size_check (addition g (routes_of m)) ≡ k
  unfolding size_check
  blocks_stop k r e p =
      stops _ _ _ r (ap (λ (n : ℕ). unless (leb n 1024) (refusal 18 0 0)) (blocks_long g (routes_of m)) ∙ sym (few_check k p) ∙ e)
      ∙ sym e

  module _ (p : PlacedAll g m nodes c.nodes bases heads parts clear) where
    pub placed_in : Placed g (funclets (routes_of m)) all bases heads parts c.nodes
    placed_in = subst (λ (z : List Node). Placed g (funclets (routes_of m)) z bases heads parts c.nodes) t.nodes_are (p.placed edges ends refl)

    pub placed_few : length g.blocks + length (clone_blocks g (funclets (routes_of m)) all) ≤ 1024
    placed_few = leb-true _ 1024 (unless_clear _ (refusal 18 0 0) (sym (few_check clear p)))

    pub bounded_in : 0 < length g.blocks → Bounded g (routes_of m)
    unfolding clone_blocks
    bounded_in some' = record { some = some'; few = omega (arith, placed_few, length-map (flat (copied g (funclets (routes_of m)) all) (length all)) (block g)) }
