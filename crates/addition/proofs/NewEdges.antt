-- The edges that an addition makes: those of clones, and route edges.
--     Clone, copies, cloned        an edge of a clone is one out of the part, moved
--     Routed, new_routed           a route edge is that of a way
--     new_unwinds                  route edges are all unwind edges
use mathlib.Core.Path.{◌≡◌, refl, sym, ap, subst}
use mathlib.Core.Logic.{◌⊎◌, inl, inr}
use mathlib.Core.Bool.{Bool, true, false, cond}
use mathlib.Core.List.Memᴰ
use mathlib.Core.List.{List, [], ◌∷◌, map}
use Prim.Native.Nat.{ℕ, ◌<◌}
use borrow.Author.Tests.{eqb-true}
use lib.Dec.{eqb}
use lib.ListN.{length}
use Rattle.image.specs.Deal.{UnwindRoute}
use Rattle.graph.specs.declared.record.Edge.{Edge}
use Rattle.graph.specs.Graph.{Graph}
use Rattle.graph.specs.Flow.{Kind}
use Rattle.addition.specs.Lists.{joined}
use Rattle.addition.specs.Part.{funclets, outgoing}
use Rattle.addition.specs.Trie.{Node}
use Rattle.addition.specs.Instance.{blocks_of, later, copied, clone_edge, clone_edges}
use Rattle.addition.specs.Ways.{HopEnd, block, leave, Leap, leap, Way, wanted, route_edge, edge_to, route_edges}
use Rattle.addition.specs.Walk.{◌∈◌}
use Rattle.addition.proofs.Lists.{none_in, keep_mem, joined_mem, map_mem, flat_mem}
use Rattle.addition.proofs.Instance.{mem_copied}

-- ---- the edges of clones

-- the graph before, the routes and the nodes
module _ (g : Graph) (rs : List UnwindRoute) (z : List Node) where
  pub record Clone (d : Edge) : Type 0 where
    pub node : ℕ
    pub inside : node < length z
    pub later : later g (funclets rs) z node ≡ true
    pub edge : Edge
    pub stood : edge ∈ g.edges
    pub out : edge.source ∈ blocks_of g (funclets rs) z node
    pub is : d ≡ clone_edge g (funclets rs) z node edge

  -- the edges of node i's clone
  abbrev pub copies : ℕ → List Edge
  copies i = joined (λ b. map (clone_edge g (funclets rs) z i) (outgoing g b)) (copied g (funclets rs) z i)

  pub cloned : (d : Edge) → d ∈ clone_edges g (funclets rs) z → Clone d
  unfolding clone_edges outgoing
  cloned d m =
      let x = flat_mem copies (length z) m in
      let y = joined_mem (λ (b : ℕ). map (clone_edge g (funclets rs) z x.0) (outgoing g b)) (copied g (funclets rs) z x.0) x.2 in
      let c = mem_copied g rs z x.0 y.0 y.1 in
      let e = map_mem (clone_edge g (funclets rs) z x.0) (outgoing g y.0) y.2 in
      let o = keep_mem (λ (d : Edge). eqb d.source y.0) g.edges e.1 in
      record {
        node = x.0;
        inside = x.1;
        later = c.0;
        edge = e.0;
        stood = o.0;
        out = subst (λ (b : ℕ). b ∈ blocks_of g (funclets rs) z x.0) (sym (eqb-true _ _ o.1)) c.1;
        is = e.2;
      }

-- ---- route edges

-- the edge of a way to a block
pub record Routed (g : Graph) (ws : List Way) (d : Edge) : Type 0 where
  pub way : Way
  pub among : way ∈ ws
  pub to : ℕ
  pub end : way.end ≡ block to
  pub is : d ≡ route_edge g way.route way.source to

module _ (g : Graph) (d : Edge) where
  pub new_routed : (seen : List Leap) (ws : List Way) → d ∈ route_edges g seen ws → Routed g ws d
  unfolding route_edges edge_to
  new_routed seen [] m = absurd (none_in m)
  new_routed seen (w ∷ ws) m = go (Memᴰ.append_cases (edge_to g seen w w.end) m) (new_routed (leap w ∷ seen) ws)
    where
      made : (t : ℕ) → w.end ≡ block t → (x : Bool) → d ∈ cond x [] (route_edge g w.route w.source t ∷ []) → Routed g (w ∷ ws) d
      made t e true k = absurd (none_in k)
      made t e false k = record { way = w; among = Memᴰ.head refl; to = t; end = e; is = Memᴰ.eq_of_singleton k }

      first : (h : HopEnd) → w.end ≡ h → d ∈ edge_to g seen w h → Routed g (w ∷ ws) d
      first leave e k = absurd (none_in k)
      first (block t) e k = made t e (wanted w.source t seen) k

      go : (d ∈ edge_to g seen w w.end) ⊎ (d ∈ route_edges g (leap w ∷ seen) ws) → (d ∈ route_edges g (leap w ∷ seen) ws → Routed g ws d) → Routed g (w ∷ ws) d
      go (inl k) below = first w.end refl k
      go (inr k) below =
          let x = below k in
          record { way = x.way; among = Memᴰ.tail x.among; to = x.to; end = x.end; is = x.is }

  pub new_unwinds : (seen : List Leap) (ws : List Way) → d ∈ route_edges g seen ws → d.kind ≡ Kind.exception_unwind
  unfolding route_edge
  new_unwinds seen ws m = ap (λ (y : Edge). y.kind) (new_routed seen ws m).is
