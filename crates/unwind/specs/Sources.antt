-- Hops, one source after the other: as they are counted, and stored.
use Rattle.std.specs.Prelude.{Bool, true, false, cond, not, ◌&&◌, List, [], ◌∷◌, ◌++◌, map, eqb, get_or}
use Prim.Native.Nat.{ℕ, Ordering}
use Rattle.std.proofs.Math.Dec.{compare_is_eq}
use Rattle.image.specs.Deal.{UnwindRoute}
use Rattle.graph.specs.Graph.{Graph}
use Rattle.graph.specs.Fold.{among}
use Rattle.graph.specs.Route.{route_at}
use Rattle.addition.specs.Lists.{keep}
use Rattle.addition.specs.Order.{compare_tags, sorted, ◌and_then◌}
use Rattle.addition.specs.Blocks.{guarded}
use Rattle.addition.specs.Part.{funclets, returning}
use Rattle.addition.specs.Trie.{Node, node_at, tries}
use Rattle.addition.specs.Instance.{blocks_of, later, entry_of}
use Rattle.addition.specs.Ways.{HopEnd, block, leave, Hop, Way, end_at, Leap, leap, compare_leaps}

-- a way without its route
pub record Exit : Type 0 where
  pub leap : Leap
  pub calls : List ℕ

abbrev pub exit : Way → Exit
exit w = record { leap = leap w; calls = w.calls }

unfoldable pub compare_exits : Exit → Exit → Ordering
compare_exits x y = compare_leaps x.leap y.leap and_then compare_tags x.calls y.calls

-- the exits of the ways out of block b, sorted
abbrev pub is_from : ℕ → Exit → Bool
is_from b x = eqb x.leap.source b

unfoldable pub exits_at : List Exit → ℕ → List Exit
exits_at xs b = sorted compare_exits (keep (is_from b) xs)

-- ---- the exits of one block

module _ (g : Graph) (rs : List UnwindRoute) where
  abbrev nodes : List Node
  nodes = (tries rs).nodes

  -- those of a node
  unfoldable pub exits_from : ℕ → Node → List Exit
  exits_from b n =
      map (λ d. record { leap = record { source = b; end = block (entry_of g (funclets rs) nodes d.what) }; calls = d.calls }) n.edges
      ++ map (λ d. record { leap = record { source = b; end = end_at g rs b d.what }; calls = d.calls }) n.ends

  -- of a block that stood: those of route r, and of node i, which has the original blocks
  unfoldable pub route_exits : ℕ → ℕ → List Exit
  route_exits b r = cond (among (guarded g (route_at rs r)) b) (exits_from b (node_at nodes (get_or (tries rs).roots r 0))) []

  unfoldable pub node_exits : ℕ → ℕ → List Exit
  node_exits b i =
      cond (not (later g (funclets rs) nodes i) && among (keep (returning g) (blocks_of g (funclets rs) nodes i)) b) (exits_from b (node_at nodes i)) []

  -- of the copy b of block o, which is node i's
  unfoldable pub copy_exits : ℕ → ℕ → ℕ → List Exit
  copy_exits b i o = cond (returning g o) (exits_from b (node_at nodes i)) []

-- ---- hops of sorted exits

abbrev pub leap_of : Hop → Leap
leap_of h = record { source = h.source; end = h.end }

abbrev pub first_hop : Exit → Hop
first_hop x = record { source = x.leap.source; end = x.leap.end; calls = x.calls ∷ [] }

abbrev pub with_list : Hop → List ℕ → Hop
with_list h t = record { source = h.source; end = h.end; calls = h.calls ++ (t ∷ []) }

-- one more exit: a list of the last hop if that makes the same leap, else a hop behind it
unfoldable pub hops_then : List Hop → Exit → List Hop
hops_then [] x = first_hop x ∷ []
hops_then (h ∷ []) x = cond (compare_is_eq (compare_leaps (leap_of h) x.leap)) (with_list h x.calls ∷ []) (h ∷ first_hop x ∷ [])
hops_then (h ∷ k ∷ l) x = h ∷ hops_then (k ∷ l) x

unfoldable pub hops_on : List Hop → List Exit → List Hop
hops_on hs [] = hs
hops_on hs (x ∷ l) = hops_on (hops_then hs x) l

-- to a block
unfoldable pub to_block : HopEnd → Bool
to_block (block t) = true
to_block leave = false
