-- `Emitter`: the ways out of protected blocks and returning blocks, the edges that they add, and the hops.
use Rattle.std.specs.Prelude.{Bool, false, cond, ◌||◌, List, [], ◌∷◌, ◌++◌, map, length}
use Prim.Native.Nat.{ℕ, suc, compare, Ordering}
use Rattle.std.proofs.Math.Dec.{compare_is_eq}
use Rattle.image.specs.Deal.{UnwindEnd, handler, propagate, resume, UnwindRoute}
use Rattle.graph.specs.declared.record.Edge.{Edge}
use Rattle.graph.specs.Graph.{Graph}
use Rattle.graph.specs.Fold.{flat}
use Rattle.graph.specs.Flow.{Kind, Role}
use Rattle.addition.specs.Lists.{joined}
use Rattle.addition.specs.Order.{compare_tags, sorted, ◌and_then◌}
use Rattle.addition.specs.Blocks.{first_of, last_of, block_of, guarded}
use Rattle.addition.specs.Part.{funclets}
use Rattle.addition.specs.Trie.{Node, node_at, tries}
use Rattle.addition.specs.Instance.{entry_of, returns_of}

-- where a hop goes: to a block, or out of the function
pub data HopEnd : Type 0 where
  block : ℕ → HopEnd
  leave : HopEnd

-- `UnwindHop`
pub record Hop : Type 0 where
  pub source : ℕ
  pub end : HopEnd
  pub calls : List (List ℕ)

-- a way that a route wants out of a block
pub record Way : Type 0 where
  pub source : ℕ
  pub route : ℕ
  pub calls : List ℕ
  pub end : HopEnd

-- the graph before, and the routes
module _ (g : Graph) (rs : List UnwindRoute) where
  abbrev nodes : List Node
  nodes = (tries rs).nodes

  abbrev entry_at : ℕ → ℕ
  entry_at = entry_of g (funclets rs) nodes

  unfoldable pub end_at : ℕ → UnwindEnd → HopEnd
  end_at b (handler h) = block (block_of g h)
  end_at b propagate = leave
  end_at b resume = block b

  -- `ways`: from one block, those of one node, for one route
  unfoldable pub ways_from : ℕ → ℕ → Node → List Way
  ways_from r b n =
      map (λ d. record { source = b; route = r; calls = d.calls; end = block (entry_at d.what) }) n.edges
      ++ map (λ d. record { source = b; route = r; calls = d.calls; end = end_at b d.what }) n.ends

  -- the routes in order over their protected blocks, then the nodes in order over their returning blocks
  unfoldable pub route_ways : ℕ → List UnwindRoute → List ℕ → List Way
  route_ways r [] is = []
  route_ways r (u ∷ us) [] = []
  route_ways r (u ∷ us) (i ∷ is) = joined (λ b. ways_from r b (node_at nodes i)) (guarded g u) ++ route_ways (suc r) us is

  unfoldable pub node_ways : ℕ → List Way
  node_ways i = joined (λ b. ways_from (node_at nodes i).route b (node_at nodes i)) (returns_of g (funclets rs) nodes i)

  unfoldable pub ways : List Way
  ways = route_ways 0 rs (tries rs).roots ++ flat node_ways (length nodes)

-- by source, then end block with leave last
unfoldable pub compare_hop_ends : HopEnd → HopEnd → Ordering
compare_hop_ends (block a) (block b) = compare a b
compare_hop_ends (block a) leave = Ordering.lt
compare_hop_ends leave (block b) = Ordering.gt
compare_hop_ends leave leave = Ordering.eq

-- a source and an end
pub record Leap : Type 0 where
  pub source : ℕ
  pub end : HopEnd

abbrev pub leap : Way → Leap
leap w = record { source = w.source; end = w.end }

unfoldable pub compare_leaps : Leap → Leap → Ordering
compare_leaps x y = compare x.source y.source and_then compare_hop_ends x.end y.end

-- the lists of the ways that make one leap; 'The lists are sorted and distinct.'
unfoldable pub lists_of : List Way → Leap → List (List ℕ)
lists_of ws k = sorted compare_tags (joined (λ w. cond (compare_is_eq (compare_leaps (leap w) k)) (w.calls ∷ []) []) ws)

-- 'one hop for each source block and end'; 'sorted by source block and end'
unfoldable pub hops_of : List Way → List Hop
hops_of ws =
    map (λ k. record { source = k.source; end = k.end; calls = lists_of ws k }) (sorted compare_leaps (map leap ws))

-- 'One call adds a source-target pair as an edge at most once; its route is the first to want it.'
unfoldable pub wanted : ℕ → ℕ → List Leap → Bool
wanted s t [] = false
wanted s t (k ∷ l) = compare_is_eq (compare_leaps (record { source = s; end = block t }) k) || wanted s t l

-- the graph is the one with the copies in it: an edge carries the last address of its source and the first of its target
unfoldable pub route_edge : Graph → ℕ → ℕ → ℕ → Edge
route_edge g r s t =
    record { source = s; target = t; kind = Kind.exception_unwind; role = Role.route; number = r; key = 0; source_address = (last_of g s).address; target_address = (first_of g t).address }

unfoldable pub edge_to : Graph → List Leap → Way → HopEnd → List Edge
edge_to g seen w (block t) = cond (wanted w.source t seen) [] (route_edge g w.route w.source t ∷ [])
edge_to g seen w leave = []

unfoldable pub route_edges : Graph → List Leap → List Way → List Edge
route_edges g seen [] = []
route_edges g seen (w ∷ ws) = edge_to g seen w w.end ++ route_edges g (leap w ∷ seen) ws
