-- The call lists of an addition: none has more tags than an image has steps.
--     Brief, Narrow, Narrows       paths of so many steps at most, and nodes whose lists have so many tags at most
--     intern_narrow, tries_narrow  interning such paths gives such nodes
--     way_short                    the ways out of such nodes
--     routes_brief                 the paths of routes that were read
--     hops_short                   THE LISTS OF THE HOPS ARE SHORT
-- Assumes nothing.
use mathlib.Core.Path.{◌≡◌, refl, sym, subst}
use mathlib.Core.Logic.{◌⊎◌, inl, inr}
use mathlib.Core.List.Memᴰ
use mathlib.Core.List.{List, [], ◌∷◌, map, zip_with}
use mathlib.Core.Option.{Option, none, some}
use Prim.Native.Nat.{ℕ, zero, suc, ◌+◌, ◌≤◌}
use native.Mathlib.Omega.{arith}
use lib.ListN.{length, take, drop, length-append, length-map, length-take, length-drop}
use Rattle.image.specs.Image.{RouteImage}
use Rattle.image.specs.Accepted.{AcceptedRoutes}
use Rattle.image.specs.declared.record.Path.{Path}
use Rattle.image.specs.declared.record.Route.{Route}
use Rattle.image.specs.declared.record.Step.{Step}
use Rattle.image.specs.Deal.{UnwindStep, funclet, call, UnwindEnd, UnwindPath, UnwindRoute, deal, step_of, end_of, paths_of, routes_of}
use Rattle.graph.specs.Graph.{Graph}
use Rattle.graph.specs.Fold.{flat}
use Rattle.addition.specs.Lists.{joined}
use Rattle.addition.specs.Order.{Tagged, compare_tagged}
use Rattle.addition.specs.Blocks.{guarded}
use Rattle.addition.specs.Part.{funclets}
use Rattle.addition.specs.Instance.{entry_of, returns_of}
use Rattle.addition.specs.Trie.{Node, ends_of, groups, rest, Interned, place_of, created, create, intern_each, node_of, intern, longest, intern_routes, tries, node_at}
use Rattle.addition.specs.Walk.{◌∈◌}
use Rattle.addition.specs.Ways.{HopEnd, Way, end_at, ways_from, route_ways, node_ways, ways, hops_of}
use Rattle.addition.proofs.Lists.{none_in, joined_mem, map_mem, flat_mem}
use Rattle.addition.proofs.Order.{sorted_mem}
use Rattle.addition.proofs.Paths.{path, steps_of, ends_mem, rest_mem, groups_mem}
use Rattle.addition.proofs.HopWays.{ways_split, hop_way}
use Rattle.text.proofs.HopTextLaws.{Short}

steps_long : (l : List ℕ) (f : ℕ) (s : List UnwindStep) → length (steps_of l f s) ≡ length l + suc (length s)
steps_long l f s = omega (arith, length-append (map call l) (funclet f ∷ s), length-map l call)

module _ (most : ℕ) where
  pub record Brief (ps : List UnwindPath) : Type 0 where
    pub brief : (p : UnwindPath) → p ∈ ps → length p.steps ≤ most

  pub record Narrow (n : Node) : Type 0 where
    pub edges : (d : Tagged ℕ) → d ∈ n.edges → length d.calls ≤ most
    pub ends : (d : Tagged UnwindEnd) → d ∈ n.ends → length d.calls ≤ most

  pub record Narrows (t : List Node) : Type 0 where
    pub narrow : (n : Node) → n ∈ t → Narrow n

  -- ---- the ends and groups of paths

  ends_brief : (ps : List UnwindPath) → Brief ps → (d : Tagged UnwindEnd) → d ∈ ends_of ps → length d.calls ≤ most
  ends_brief ps b d m = omega (arith, b.brief (path (map call d.calls) d.what) (ends_mem ps d m), length-map d.calls call)

  rest_brief : (ps : List UnwindPath) (k : Tagged ℕ) → Brief ps → Brief (rest k ps)
  rest_brief ps k b =
      record { brief = λ q m. omega (arith, b.brief (path (steps_of k.calls k.what q.steps) q.end) (rest_mem ps k q m), steps_long k.calls k.what q.steps) }

  group_brief : (ps : List UnwindPath) (k : Tagged ℕ) → Brief ps → k ∈ groups ps → length k.calls ≤ most
  group_brief ps k b m =
      let q = groups_mem ps k m in
      omega (arith, b.brief (path (steps_of k.calls k.what q.0.steps) q.0.end) (rest_mem ps k q.0 q.1), steps_long k.calls k.what q.0.steps)

  -- ---- interning

  create_narrow : (n : Node) (t : List Node) → Narrow n → Narrows t → Narrows (create n t).trie
  unfolding create created
  create_narrow n t x all = go (place_of n t)
    where
      in_two : (m : Node) → (m ∈ t) ⊎ (m ∈ n ∷ []) → Narrow m
      in_two m (inl k) = all.narrow m k
      in_two m (inr (Memᴰ.head e)) = subst Narrow (sym e) x
      in_two m (inr (Memᴰ.tail k)) = absurd (none_in k)

      go : (o : Option ℕ) → Narrows (created n t o).trie
      go none = record { narrow = λ m k. in_two m (Memᴰ.append_cases t k) }
      go (some i) = all

  abbrev Intern : Type 0
  Intern = Option ℕ → List UnwindPath → List Node → Interned

  -- it keeps nodes narrow
  abbrev Keeps : Intern → Type 0
  Keeps go = (f : Option ℕ) (ps : List UnwindPath) (t : List Node) → Brief ps → Narrows t → Narrows (go f ps t).trie

  each_narrow : (go : Intern) → Keeps go → (ps : List UnwindPath) → Brief ps → (ks : List (Tagged ℕ)) (t : List Node) → Narrows t → Narrows (intern_each go ps ks t).trie
  unfolding intern_each
  each_narrow go keeps ps b [] t all = all
  each_narrow go keeps ps b (k ∷ ks) t all = each_narrow go keeps ps b ks (go (some k.what) (rest k ps) t).trie (keeps (some k.what) (rest k ps) t (rest_brief ps k b) all)

  each_edge : (go : Intern) (ps : List UnwindPath) (ks : List (Tagged ℕ)) (t : List Node) → ((k : Tagged ℕ) → k ∈ ks → length k.calls ≤ most) → (d : Tagged ℕ) → d ∈ (intern_each go ps ks t).edges → length d.calls ≤ most
  unfolding intern_each
  each_edge go ps [] t short d m = absurd (none_in m)
  each_edge go ps (k ∷ ks) t short d (Memᴰ.head e) = rw e (short k (Memᴰ.head refl))
  each_edge go ps (k ∷ ks) t short d (Memᴰ.tail m) = each_edge go ps ks (go (some k.what) (rest k ps) t).trie (λ j n. short j (Memᴰ.tail n)) d m

  node_narrow : (r : ℕ) (f : Option ℕ) (ps : List UnwindPath) (es : List (Tagged ℕ)) → Brief ps → ((d : Tagged ℕ) → d ∈ es → length d.calls ≤ most) → Narrow (node_of r f ps es)
  unfolding node_of
  node_narrow r f ps es b short = record { edges = λ d m. short d (sorted_mem (compare_tagged _) es m); ends = ends_brief ps b }

  pub intern_narrow : (k r : ℕ) → Keeps (intern k r)
  unfolding intern
  intern_narrow zero r f ps t b all = create_narrow (node_of r f ps []) t (node_narrow r f ps [] b (λ d m. absurd (none_in m))) all
  intern_narrow (suc k) r f ps t b all =
      let c = intern_each (intern k r) ps (groups ps) t in
      create_narrow (node_of r f ps c.edges) c.trie
      (node_narrow r f ps c.edges b (each_edge (intern k r) ps (groups ps) t (λ g m. group_brief ps g b m)))
      (each_narrow (intern k r) (intern_narrow k r) ps b (groups ps) t all)

  routes_narrow : (r : ℕ) (us : List UnwindRoute) (t : List Node) → ((u : UnwindRoute) → u ∈ us → Brief u.paths) → Narrows t → Narrows (intern_routes r us t).nodes
  unfolding intern_routes
  routes_narrow r [] t b all = all
  routes_narrow r (u ∷ us) t b all =
      routes_narrow (suc r) us (intern (longest u.paths) r none u.paths t).trie (λ v m. b v (Memᴰ.tail m))
      (intern_narrow (longest u.paths) r none u.paths t (b u (Memᴰ.head refl)) all)

  pub tries_narrow : (us : List UnwindRoute) → ((u : UnwindRoute) → u ∈ us → Brief u.paths) → Narrows (tries us).nodes
  unfolding tries
  tries_narrow us b = routes_narrow 0 us [] b (record { narrow = λ n m. absurd (none_in m) })

  at_narrow : (z : List Node) → Narrows z → (i : ℕ) → Narrow (node_at z i)
  unfolding node_at
  at_narrow [] all i = record { edges = λ d m. absurd (none_in m); ends = λ d m. absurd (none_in m) }
  at_narrow (n ∷ z) all zero = all.narrow n (Memᴰ.head refl)
  at_narrow (n ∷ z) all (suc i) = at_narrow z (record { narrow = λ m k. all.narrow m (Memᴰ.tail k) }) i

  -- ---- ways

  module _ (g : Graph) (rs : List UnwindRoute) where
    abbrev on : ℕ → ℕ → Tagged ℕ → Way
    on r b d = record { source = b; route = r; calls = d.calls; end = HopEnd.block (entry_of g (funclets rs) (tries rs).nodes d.what) }

    abbrev off : ℕ → ℕ → Tagged UnwindEnd → Way
    off r b d = record { source = b; route = r; calls = d.calls; end = end_at g rs b d.what }

    from_short : (r b : ℕ) (n : Node) → Narrow n → (w : Way) → w ∈ ways_from g rs r b n → length w.calls ≤ most
    unfolding ways_from
    from_short r b n x w m = go (Memᴰ.append_cases (map (on r b) n.edges) m)
      where
        go : (w ∈ map (on r b) n.edges) ⊎ (w ∈ map (off r b) n.ends) → length w.calls ≤ most
        go (inl k) = let y = map_mem (on r b) n.edges k in rw y.2 (x.edges y.0 y.1)
        go (inr k) = let y = map_mem (off r b) n.ends k in rw y.2 (x.ends y.0 y.1)

    module _ (all : Narrows (tries rs).nodes) where
      abbrev node : ℕ → Node
      node i = node_at (tries rs).nodes i

      route_short : (r : ℕ) (us : List UnwindRoute) (is : List ℕ) (w : Way) → w ∈ route_ways g rs r us is → length w.calls ≤ most
      unfolding route_ways
      route_short r [] is w m = absurd (none_in m)
      route_short r (u ∷ us) [] w m = absurd (none_in m)
      route_short r (u ∷ us) (i ∷ is) w m = go (Memᴰ.append_cases (joined (λ (b : ℕ). ways_from g rs r b (node i)) (guarded g u)) m) (route_short (suc r) us is w)
        where
          go : (w ∈ joined (λ (b : ℕ). ways_from g rs r b (node i)) (guarded g u)) ⊎ (w ∈ route_ways g rs (suc r) us is) → (w ∈ route_ways g rs (suc r) us is → length w.calls ≤ most) → length w.calls ≤ most
          go (inl k) below = let x = joined_mem (λ (b : ℕ). ways_from g rs r b (node i)) (guarded g u) k in from_short r x.0 (node i) (at_narrow (tries rs).nodes all i) w x.2
          go (inr k) below = below k

      node_short : (w : Way) → w ∈ flat (node_ways g rs) (length (tries rs).nodes) → length w.calls ≤ most
      unfolding node_ways
      node_short w m =
          let x = flat_mem (node_ways g rs) (length (tries rs).nodes) m in
          let i = x.0 in
          let y = joined_mem (λ (b : ℕ). ways_from g rs (node i).route b (node i)) (returns_of g (funclets rs) (tries rs).nodes i) x.2 in
          from_short (node i).route y.0 (node i) (at_narrow (tries rs).nodes all i) w y.2

      pub way_short : (w : Way) → w ∈ ways g rs → length w.calls ≤ most
      way_short w m = go (ways_split g g rs [] w m)
        where
          go : (w ∈ route_ways g rs 0 rs (tries rs).roots) ⊎ (w ∈ flat (node_ways g rs) (length (tries rs).nodes)) → length w.calls ≤ most
          go (inl k) = route_short 0 rs (tries rs).roots w k
          go (inr k) = node_short w k

-- ---- the paths of routes that were read

-- of what is dealt, each hand is a part
dealt : {A : Type 0} (ns : List ℕ) (xs : List A) (hand : List A) → hand ∈ deal ns xs → (length hand ≤ length xs) × ((a : A) → a ∈ hand → a ∈ xs)
unfolding deal
dealt [] xs hand m = absurd (none_in m)
dealt (n ∷ ns) xs hand (Memᴰ.head e) = (rw e (omega (arith, length-take n xs)), λ a k. take_mem n xs a (subst (λ (l : List _). a ∈ l) e k))
  where
    take_mem : {A : Type 0} (n : ℕ) (xs : List A) (a : A) → a ∈ take n xs → a ∈ xs
    take_mem zero xs a k = absurd (none_in k)
    take_mem (suc n) [] a k = k
    take_mem (suc n) (x ∷ xs) a (Memᴰ.head p) = Memᴰ.head p
    take_mem (suc n) (x ∷ xs) a (Memᴰ.tail k) = Memᴰ.tail (take_mem n xs a k)
dealt (n ∷ ns) xs hand (Memᴰ.tail m) =
    let below = dealt ns (drop n xs) hand m in
    (omega (arith, below.0, length-drop n xs), λ a k. drop_mem n xs a (below.1 a k))
  where
    drop_mem : {A : Type 0} (n : ℕ) (xs : List A) (a : A) → a ∈ drop n xs → a ∈ xs
    drop_mem zero xs a k = k
    drop_mem (suc n) [] a k = k
    drop_mem (suc n) (x ∷ xs) a k = Memᴰ.tail (drop_mem n xs a k)

zip_mem : {A B C : Type 0} (f : A → B → C) (xs : List A) (ys : List B) (c : C) → c ∈ zip_with f xs ys → (a : A) × (b : B) × (b ∈ ys) × (c ≡ f a b)
unfolding zip_with
zip_mem f [] ys c m = absurd (none_in m)
zip_mem f (a ∷ xs) [] c m = absurd (none_in m)
zip_mem f (a ∷ xs) (b ∷ ys) c (Memᴰ.head e) = (a, b, Memᴰ.head refl, e)
zip_mem f (a ∷ xs) (b ∷ ys) c (Memᴰ.tail m) = let x = zip_mem f xs ys c m in (x.0, x.1, Memᴰ.tail x.2, x.3)

paths_brief : (m : RouteImage) → Brief (length m.steps) (paths_of m)
unfolding paths_of
paths_brief m =
    record {
      brief = λ p k.
          let x = zip_mem (λ (q : Path) (s : List Step). record { steps = map step_of s; end = end_of q }) m.paths (deal (map (λ (q : Path). q.steps) m.paths) m.steps) p k in
          rw x.3 (omega (arith, length-map x.1 step_of, (dealt (map (λ (q : Path). q.steps) m.paths) m.steps x.1 x.2).0));
    }

pub routes_brief : (m : RouteImage) (u : UnwindRoute) → u ∈ routes_of m → Brief (length m.steps) u.paths
unfolding routes_of
routes_brief m u k =
    let x = zip_mem (λ (r : Route) (p : List UnwindPath). record { start = r.start; end = r.end; paths = p }) m.routes (deal (map (λ (r : Route). r.paths) m.routes) (paths_of m)) u k in
    record {
      brief = λ p n. (paths_brief m).brief p ((dealt (map (λ (r : Route). r.paths) m.routes) (paths_of m) x.1 x.2).1 p (subst (λ (v : UnwindRoute). p ∈ v.paths) x.3 n));
    }

pub hops_short : (g : Graph) (m : RouteImage) → AcceptedRoutes m → Short (hops_of (ways g (routes_of m)))
hops_short g m ok =
    record {
      short = λ h k tags t.
          let rs = routes_of m in
          let x = hop_way g rs (ways g rs) h.source tags h.end (record { hop = h; returned = k; from = refl; to = refl; list = t }) in
          rw (sym x.calls) (omega (arith, ok.steps_most, way_short (length m.steps) g rs (tries_narrow (length m.steps) rs (routes_brief m)) x.way x.among));
    }
