-- The hops of the addition are the ways of nodes.
--     hop_way, way_hop             a hop with one of its lists is a way, and every way a hop
--     way_turn, turn_way           the ways of a node out of a block
--     route_way, way_route         those of the routes, from their guarded blocks
--     node_way, way_node           those of the nodes, from their returns
--     ways_split, route_in, node_in       all ways
use mathlib.Core.Path.{◌≡◌, refl, sym, ◌∙◌, ap, subst}
use mathlib.Core.Logic.{◌⊎◌, inl, inr}
use mathlib.Core.Bool.{Bool, true, false, cond}
use mathlib.Core.List.Memᴰ
use mathlib.Core.List.{List, [], ◌∷◌, map}
use mathlib.Core.Option.{some}
use Prim.Native.Nat.{ℕ, suc, ◌<◌}
use lib.Dec.{compare_is_eq}
use lib.ListN.{length}
use Rattle.image.specs.Deal.{UnwindEnd, handler, propagate, resume, UnwindRoute}
use Rattle.graph.specs.Graph.{Graph}
use Rattle.graph.specs.Fold.{flat}
use Rattle.addition.specs.Lists.{joined}
use Rattle.addition.specs.Order.{Tagged, compare_tags, sorted}
use Rattle.addition.specs.Blocks.{block_of, guarded}
use Rattle.addition.specs.Part.{funclets}
use Rattle.addition.specs.Trie.{Node, node_at, tries}
use Rattle.addition.specs.Instance.{entry_of, returns_of}
use Rattle.addition.specs.Ways.{HopEnd, block, Hop, Way, end_at, ways_from, route_ways, node_ways, ways, Leap, leap, compare_leaps, lists_of, hops_of}
use Rattle.addition.specs.Walk.{◌∈◌, Takes}
use Rattle.addition.proofs.Lists.{at, none_in, mem_joined, joined_mem, mem_map, map_mem, mem_flat, flat_mem, at_lt, at_get_or}
use Rattle.addition.proofs.Order.{exact_tags, exact_leaps, mem_sorted, sorted_mem}
use Rattle.addition.proofs.Trie.{Says}
use Rattle.addition.proofs.Intern.{Rooted, no_more, rooted}
use Rattle.addition.proofs.Walks.{Turn, entering, handling, leaving, resuming}

-- ---- hops and ways

abbrev list_of : Leap → Way → List (List ℕ)
list_of k w = cond (compare_is_eq (compare_leaps (leap w) k)) (w.calls ∷ []) []

abbrev hop_at_law : List Way → Leap → Hop
hop_at_law ws k = record { source = k.source; end = k.end; calls = lists_of ws k }

-- a way that makes a leap with these calls
pub record Made (ws : List Way) (b : ℕ) (c : List ℕ) (e : HopEnd) : Type 0 where
  pub way : Way
  pub among : way ∈ ws
  pub from : way.source ≡ b
  pub calls : way.calls ≡ c
  pub to : way.end ≡ e

module _ (g : Graph) (rs : List UnwindRoute) (ws : List Way) where
  pub way_hop : (b : ℕ) (c : List ℕ) (e : HopEnd) → Made ws b c e → Takes g rs (hops_of ws) b c e
  unfolding hops_of lists_of
  way_hop b c e x =
      let w : Way = x.way in
      record {
        hop = hop_at_law ws (leap w);
        returned = mem_map (hop_at_law ws) (mem_sorted compare_leaps exact_leaps (mem_map leap x.among));
        from = x.from;
        to = x.to;
        list = Memᴰ.cast (sym x.calls) (mem_sorted compare_tags exact_tags (mem_joined (list_of (leap w)) x.among (rw (exact_leaps.self (leap w)) (Memᴰ.head refl))));
      }

  pub hop_way : (b : ℕ) (c : List ℕ) (e : HopEnd) → Takes g rs (hops_of ws) b c e → Made ws b c e
  unfolding hops_of lists_of
  hop_way b c e t =
      let k = map_mem (hop_at_law ws) (sorted compare_leaps (map leap ws)) t.returned in
      let h : t.hop ≡ hop_at_law ws k.0 = k.2 in
      let m = joined_mem (list_of k.0) ws (sorted_mem compare_tags _ (subst (λ (x : Hop). c ∈ x.calls) h t.list)) in
      let y = pick m.0 k.0 (compare_is_eq (compare_leaps (leap m.0) k.0)) refl m.2 in
      let same : leap m.0 ≡ k.0 = exact_leaps.tells (leap m.0) k.0 y.0 in
      record {
        way = m.0;
        among = m.1;
        from = ap (λ (x : Leap). x.source) same ∙ sym (ap (λ (x : Hop). x.source) h) ∙ t.from;
        calls = sym y.1;
        to = ap (λ (x : Leap). x.end) same ∙ sym (ap (λ (x : Hop). x.end) h) ∙ t.to;
      }
    where
      pick : (w : Way) (k : Leap) (x : Bool) → compare_is_eq (compare_leaps (leap w) k) ≡ x → c ∈ cond x (w.calls ∷ []) [] → (compare_is_eq (compare_leaps (leap w) k) ≡ true) × (c ≡ w.calls)
      pick w k true q i = (q, Memᴰ.eq_of_singleton i)
      pick w k false q i = absurd (none_in i)

-- ---- the ways of a node

module _ (g g' : Graph) (rs : List UnwindRoute) (hs : List Hop) where
  abbrev z : List Node
  z = (tries rs).nodes

  abbrev entry : ℕ → ℕ
  entry = entry_of g (funclets rs) z

  abbrev returns : ℕ → List ℕ
  returns = returns_of g (funclets rs) z

  abbrev pub Turns-to : ℕ → Node → List ℕ → HopEnd → Type 0
  Turns-to = Turn g' rs hs z entry returns (block_of g)

  abbrev on : ℕ → ℕ → Tagged ℕ → Way
  on r b d = record { source = b; route = r; calls = d.calls; end = block (entry d.what) }

  abbrev off : ℕ → ℕ → Tagged UnwindEnd → Way
  off r b d = record { source = b; route = r; calls = d.calls; end = end_at g rs b d.what }

  off_way : (r b : ℕ) (n : Node) (c : List ℕ) (e : HopEnd) (d : Tagged UnwindEnd) → d ∈ n.ends → c ≡ d.calls → e ≡ end_at g rs b d.what → Made (ways_from g rs r b n) b c e
  unfolding ways_from
  off_way r b n c e d m p q =
      record { way = off r b d; among = Memᴰ.append_right (map (on r b) n.edges) (mem_map (off r b) m); from = refl; calls = sym p; to = sym q }

  pub turn_way : (r b : ℕ) (n : Node) (c : List ℕ) (e : HopEnd) → Turns-to b n c e → Made (ways_from g rs r b n) b c e
  unfolding ways_from end_at
  turn_way r b n c e (entering d m p q) = record { way = on r b d; among = Memᴰ.append_left _ (mem_map (on r b) m); from = refl; calls = sym p; to = sym q }
  turn_way r b n c e (handling d h m p w q) = off_way r b n c e d m p (q ∙ sym (ap (end_at g rs b) w))
  turn_way r b n c e (leaving d m p w q) = off_way r b n c e d m p (q ∙ sym (ap (end_at g rs b) w))
  turn_way r b n c e (resuming d m p w q) = off_way r b n c e d m p (q ∙ sym (ap (end_at g rs b) w))

  pub way_turn : (r b : ℕ) (n : Node) (w : Way) → w ∈ ways_from g rs r b n → (w.source ≡ b) × Turns-to b n w.calls w.end
  unfolding ways_from end_at
  way_turn r b n w m = go (Memᴰ.append_cases (map (on r b) n.edges) m)
    where
      end_turn : (d : Tagged UnwindEnd) → d ∈ n.ends → w ≡ off r b d → (x : UnwindEnd) → d.what ≡ x → Turns-to b n w.calls w.end
      end_turn d k e (handler h) q = handling d h k (ap (λ (v : Way). v.calls) e) q (ap (λ (v : Way). v.end) e ∙ ap (end_at g rs b) q)
      end_turn d k e propagate q = leaving d k (ap (λ (v : Way). v.calls) e) q (ap (λ (v : Way). v.end) e ∙ ap (end_at g rs b) q)
      end_turn d k e resume q = resuming d k (ap (λ (v : Way). v.calls) e) q (ap (λ (v : Way). v.end) e ∙ ap (end_at g rs b) q)

      go : (w ∈ map (on r b) n.edges) ⊎ (w ∈ map (off r b) n.ends) → (w.source ≡ b) × Turns-to b n w.calls w.end
      go (inl k) =
          let x = map_mem (on r b) n.edges k in
          (ap (λ (v : Way). v.source) x.2, entering x.0 x.1 (ap (λ (v : Way). v.calls) x.2) (ap (λ (v : Way). v.end) x.2))
      go (inr k) =
          let x = map_mem (off r b) n.ends k in
          (ap (λ (v : Way). v.source) x.2, end_turn x.0 x.1 x.2 x.0.what refl)

  -- ---- the ways of the routes and of the nodes

  node_at_law : (i : ℕ) {n : Node} → at z i ≡ some n → node_at z i ≡ n
  unfolding node_at
  node_at_law i e = at_get_or z i _ e

  pub record OfRoute (us : List UnwindRoute) (w : Way) : Type 0 where
    pub route : UnwindRoute
    pub listed : route ∈ us
    pub block : ℕ
    pub inside : block ∈ guarded g route
    pub number : ℕ
    pub node : ℕ
    pub state : Node
    pub here : at z node ≡ some state
    pub says : Says z state route.paths
    pub among : w ∈ ways_from g rs number block state

  pub route_way : (r : ℕ) {us : List UnwindRoute} {is : List ℕ} → Rooted rs z us is → (w : Way) → w ∈ route_ways g rs r us is → OfRoute us w
  unfolding route_ways
  route_way r no_more w m = absurd (none_in m)
  route_way r (rooted {u = u} {i = i} {us = us} {is = is} n here says more) w m =
      go (Memᴰ.append_cases (joined from (guarded g u)) m) (route_way (suc r) more w)
    where
      from : ℕ → List Way
      from b = ways_from g rs r b (node_at z i)

      go : (w ∈ joined from (guarded g u)) ⊎ (w ∈ route_ways g rs (suc r) us is) → (w ∈ route_ways g rs (suc r) us is → OfRoute us w) → OfRoute (u ∷ us) w
      go (inl k) below =
          let x = joined_mem from (guarded g u) k in
          record {
            route = u;
            listed = Memᴰ.head refl;
            block = x.0;
            inside = x.1;
            number = r;
            node = i;
            state = n;
            here = here;
            says = says;
            among = subst (λ (y : Node). w ∈ ways_from g rs r x.0 y) (node_at_law i here) x.2;
          }
      go (inr k) below =
          let x = below k in
          record {
            route = x.route;
            listed = Memᴰ.tail x.listed;
            block = x.block;
            inside = x.inside;
            number = x.number;
            node = x.node;
            state = x.state;
            here = x.here;
            says = x.says;
            among = x.among;
          }

  -- the root of a route, whose ways leave each of its guarded blocks
  pub record RootOf (u : UnwindRoute) (ws : List Way) : Type 0 where
    pub node : ℕ
    pub state : Node
    pub here : at z node ≡ some state
    pub says : Says z state u.paths
    pub number : ℕ
    pub all : (b : ℕ) → b ∈ guarded g u → (w : Way) → w ∈ ways_from g rs number b state → w ∈ ws

  pub way_route : (r : ℕ) {us : List UnwindRoute} {is : List ℕ} → Rooted rs z us is → (u : UnwindRoute) → u ∈ us → RootOf u (route_ways g rs r us is)
  unfolding route_ways
  way_route r no_more u m = absurd (none_in m)
  way_route r (rooted {u = v} {i = i} {us = us} {is = is} n here says more) u (Memᴰ.head e) =
      record {
        node = i;
        state = n;
        here = here;
        says = subst (λ (x : UnwindRoute). Says z n x.paths) (sym e) says;
        number = r;
        all = λ b m w k.
            Memᴰ.append_left (route_ways g rs (suc r) us is)
            (mem_joined (λ (b : ℕ). ways_from g rs r b (node_at z i)) (subst (λ (x : UnwindRoute). b ∈ guarded g x) e m) (subst (λ (y : Node). w ∈ ways_from g rs r b y) (sym (node_at_law i here)) k));
      }
  way_route r (rooted {u = v} {i = i} {us = us} {is = is} n here says more) u (Memᴰ.tail m) =
      let x = way_route (suc r) more u m in
      record {
        node = x.node;
        state = x.state;
        here = x.here;
        says = x.says;
        number = x.number;
        all = λ b k w j. Memᴰ.append_right (joined (λ (b : ℕ). ways_from g rs r b (node_at z i)) (guarded g v)) (x.all b k w j);
      }

  pub way_node : (i b : ℕ) (n : Node) → at z i ≡ some n → b ∈ returns i → (w : Way) → w ∈ ways_from g rs n.route b n → w ∈ flat (node_ways g rs) (length z)
  unfolding node_ways
  way_node i b n here m w k =
      mem_flat (node_ways g rs) (length z) i (at_lt z i here)
      (mem_joined (λ (b : ℕ). ways_from g rs (node_at z i).route b (node_at z i)) m (subst (λ (y : Node). w ∈ ways_from g rs y.route b y) (sym (node_at_law i here)) k))

  pub record OfNode (w : Way) : Type 0 where
    pub node : ℕ
    pub inside : node < length z
    pub block : ℕ
    pub return : block ∈ returns node
    pub among : w ∈ ways_from g rs (node_at z node).route block (node_at z node)

  pub node_way : (w : Way) → w ∈ flat (node_ways g rs) (length z) → OfNode w
  unfolding node_ways
  node_way w m =
      let x = flat_mem (node_ways g rs) (length z) m in
      let y = joined_mem (λ (b : ℕ). ways_from g rs (node_at z x.0).route b (node_at z x.0)) (returns x.0) x.2 in
      record { node = x.0; inside = x.1; block = y.0; return = y.1; among = y.2 }

  -- ---- all ways

  pub ways_split : (w : Way) → w ∈ ways g rs → (w ∈ route_ways g rs 0 rs (tries rs).roots) ⊎ (w ∈ flat (node_ways g rs) (length z))
  unfolding ways
  ways_split w m = Memᴰ.append_cases (route_ways g rs 0 rs (tries rs).roots) m

  pub route_in : (w : Way) → w ∈ route_ways g rs 0 rs (tries rs).roots → w ∈ ways g rs
  unfolding ways
  route_in w m = Memᴰ.append_left (flat (node_ways g rs) (length z)) m

  pub node_in : (w : Way) → w ∈ flat (node_ways g rs) (length z) → w ∈ ways g rs
  unfolding ways
  node_in w m = Memᴰ.append_right (route_ways g rs 0 rs (tries rs).roots) m
