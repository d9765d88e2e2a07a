-- Rule 21 on a graph with more blocks and edges: what it asks of the edges.
--     Fine, fine_up                an edge whose ends exist, of a kind and a role in their sets
--     old_fine                     the edges of a graph that 21 lets pass are fine
--     ends_after, sets_after       where the new edges are, 21 asks no more of the edges
--     place_lt, moved_lt           the blocks of an instance exist afterwards
--     clone_fine                   the edges of clones are fine
use mathlib.Core.Path.{◌≡◌, sym, ◌∙◌, ap}
use mathlib.Core.Logic.{◌⊎◌, inl, inr}
use mathlib.Core.Bool.{Bool, true, false, ◌&&◌}
use mathlib.Core.List.Memᴰ
use mathlib.Core.List.{List, ◌++◌}
use Prim.Native.Nat.{ℕ, suc, ◌+◌, ◌≤◌, ◌<◌}
use native.Mathlib.Omega.{arith}
use borrow.Author.Tests.{lt-ltb, le-leb, leb-true}
use lib.Dec.{leb}
use lib.ListN.{length, length-append, length-map}
use Rattle.image.specs.Deal.{UnwindRoute}
use Rattle.graph.specs.declared.record.Block.{Block}
use Rattle.graph.specs.declared.record.Edge.{Edge}
use Rattle.graph.specs.Graph.{Graph, block as block_at, edge}
use Rattle.graph.specs.Fold.{flat, all}
use Rattle.graph.specs.WellFormed.{is_block, edge_ends_exist, in_sets}
use Rattle.addition.specs.Lists.{rank}
use Rattle.addition.specs.Part.{funclets}
use Rattle.addition.specs.Trie.{Node}
use Rattle.addition.specs.Instance.{blocks_of, later, copied, base, place, moved, clone_blocks, clone_edge, clone_edges}
use Rattle.addition.specs.Add.{extended}
use Rattle.addition.specs.Walk.{◌∈◌}
use Rattle.addition.proofs.Lists.{and_both, and_l, and_r, and_true, mem_at, at_lt, at_get_or, mem_get_or, at_rank, flat-suc, flat_le}
use Rattle.addition.proofs.Sound.{all_at, all_so, ends_exist}
use Rattle.addition.proofs.Instance.{first_or_later, blocks_lt, copied_later, place_first, place_later, moved_in, moved_either}
use Rattle.addition.proofs.NewEdges.{cloned}

-- an edge of a graph of n blocks
pub record Fine (n : ℕ) (d : Edge) : Type 0 where
  pub source : d.source < n
  pub target : d.target < n
  pub kind : d.kind ≤ 7
  pub role : d.role ≤ 11

fine_up : {d : Edge} (m n : ℕ) → m ≤ n → Fine m d → Fine n d
fine_up m n h x = record { source = omega arith; target = omega arith; kind = x.kind; role = x.role }

-- the kind and the role of edge e are in their sets
abbrev kinds : Graph → ℕ → Bool
kinds g e = leb (edge g e).kind 7 && leb (edge g e).role 11

sets_edges : (g : Graph) → in_sets g ≡ true → all (kinds g) (length g.edges) ≡ true
unfolding in_sets
sets_edges g e = search (and_l, and_r) depth 12

pub old_fine : (g : Graph) → edge_ends_exist g ≡ true → in_sets g ≡ true → (d : Edge) → d ∈ g.edges → Fine (length g.blocks) d
old_fine g e s d m =
    let i = mem_at m in
    let is : edge g i.0 ≡ d = at_get_or g.edges i.0 _ i.1 in
    let x = ends_exist g e d m in
    let p = and_both (leb (edge g i.0).kind 7) (leb (edge g i.0).role 11) (all_at (kinds g) (length g.edges) i.0 (sets_edges g s) (at_lt g.edges i.0 i.1)) in
    record {
      source = x.0;
      target = x.1;
      kind = leb-true _ _ (sym (ap (λ (y : Edge). leb y.kind 7) is) ∙ p.0);
      role = leb-true _ _ (sym (ap (λ (y : Edge). leb y.role 11) is) ∙ p.1);
    }

module _ (g : Graph) (bs : List Block) (es : List Edge) (ends : edge_ends_exist g ≡ true) (sets : in_sets g ≡ true)
    (new : (d : Edge) → d ∈ es → Fine (length g.blocks + length bs) d) where
  abbrev g' : Graph
  g' = extended g bs es

  all_fine : (i : ℕ) → i < length g'.edges → Fine (length g'.blocks) (edge g' i)
  unfolding extended
  all_fine i h = go (Memᴰ.append_cases g.edges (mem_get_or (g.edges ++ es) i _ h))
    where
      go : (edge g' i ∈ g.edges) ⊎ (edge g' i ∈ es) → Fine (length (g.blocks ++ bs)) (edge g' i)
      go (inl m) = fine_up (length g.blocks) _ (omega (arith, length-append g.blocks bs)) (old_fine g ends sets _ m)
      go (inr m) = fine_up (length g.blocks + length bs) _ (omega (arith, length-append g.blocks bs)) (new _ m)

  pub ends_after : edge_ends_exist g' ≡ true
  unfolding edge_ends_exist is_block
  ends_after = all_so _ (length g'.edges) (λ i h. and_true (lt-ltb _ _ (all_fine i h).source) (lt-ltb _ _ (all_fine i h).target))

  kinds_after : all (kinds g') (length g'.edges) ≡ true
  kinds_after = all_so (kinds g') (length g'.edges) (λ i h. and_true (le-leb _ _ (all_fine i h).kind) (le-leb _ _ (all_fine i h).role))

  pub sets_after : in_sets g' ≡ true
  unfolding in_sets extended
  sets_after = search (and_l, and_r, and_true, kinds_after, sets) depth 16

-- ---- the edges of clones

module _ (g : Graph) (rs : List UnwindRoute) (z : List Node) where
  abbrev fs : List ℕ
  fs = funclets rs

  abbrev blocks : ℕ
  blocks = length g.blocks + length (clone_blocks g fs z)

  pub place_lt : (i b : ℕ) → i < length z → b ∈ blocks_of g fs z i → place g fs z i b < blocks
  unfolding clone_blocks base
  place_lt i b h m = go (first_or_later g rs z i)
    where
      go : (later g fs z i ≡ true) ⊎ (later g fs z i ≡ false) → place g fs z i b < blocks
      go (inr l) = omega (arith, place_first g rs z i b l, blocks_lt g rs z i b m)
      go (inl l) =
          omega (
            arith,
            place_later g rs z i b l,
            at_lt (blocks_of g fs z i) (rank b (blocks_of g fs z i)) (at_rank m),
            ap length (copied_later g rs z i l),
            flat-suc (copied g fs z) i,
            flat_le (copied g fs z) (suc i) (length z) h,
            length-map (flat (copied g fs z) (length z)) (block_at g),
          )

  moved_lt : (i t : ℕ) → i < length z → t < length g.blocks → moved g fs z i t < blocks
  moved_lt i t h k = go (moved_either g rs z i t)
    where
      go : (t ∈ blocks_of g fs z i) ⊎ (moved g fs z i t ≡ t) → moved g fs z i t < blocks
      go (inl m) = omega (arith, moved_in g rs z i t m, place_lt i t h m)
      go (inr e) = omega arith

  pub clone_fine : edge_ends_exist g ≡ true → in_sets g ≡ true → (d : Edge) → d ∈ clone_edges g fs z → Fine blocks d
  unfolding clone_edge
  clone_fine ends sets d m =
      let x = cloned g rs z d m in
      let o = old_fine g ends sets x.edge x.stood in
      let is : d ≡ clone_edge g fs z x.node x.edge = x.is in
      record {
        source = omega (arith, ap (λ (y : Edge). y.source) is, place_lt x.node x.edge.source x.inside x.out);
        target = omega (arith, ap (λ (y : Edge). y.target) is, moved_lt x.node x.edge.target x.inside o.target);
        kind = omega (arith, ap (λ (y : Edge). y.kind) is, o.kind);
        role = omega (arith, ap (λ (y : Edge). y.role) is, o.role);
      }
