-- Interning: `intern` gives nodes that spell the paths, and `tries` the roots of all routes.
--     Fit, Fits                    a node's children stand before it and enter funclets, it names only what the routes name,
--                                  and a funclet's node spells something
--     Known, Behind                paths that name only what the routes name; a funclet that some path is left behind
--     Interns, create_law, intern_law     interning
--     Rooted, tries_law            all routes: the root of each spells its paths
use mathlib.Core.Path.{◌≡◌, refl, sym, ◌∙◌, ap, subst}
use mathlib.Core.Bool.{Bool, true, false, cond, ◌&&◌, false≢true}
use mathlib.Core.List.Memᴰ
use mathlib.Core.List.{List, [], ◌∷◌, ◌++◌, map}
use mathlib.Core.Option
use mathlib.Core.Option.{Option, none, some, none-ne-some}
use Prim.Native.Nat.{ℕ, zero, suc, compare, ◌≤◌, ◌<◌}
use native.Mathlib.Nat.{le_of_suc-le-suc}
use native.Mathlib.Decide.{dec_lt}
use native.Mathlib.Omega.{arith}
use borrow.Author.Tests.{eqb-true}
use lib.ListN.{length, length-append}
use Rattle.image.specs.Deal.{funclet, call, UnwindEnd, handler, UnwindPath, UnwindRoute}
use Rattle.addition.specs.Order.{Tagged, tagged, compare_tagged, compare_ends, sorted, same}
use Rattle.addition.specs.Trie.{Node, groups, rest, same_funclet, same_node, place_of, Interned, created, create, Children, intern_each, node_of, intern, longest, Tries, intern_routes, tries}
use Rattle.addition.specs.Walk.{◌∈◌, Funclet, Handler}
use Rattle.addition.proofs.Lists.{at, and_both, none_in, at_lt, lt_at, at_append, at_last}
use Rattle.addition.proofs.Order.{sorted_mem, same_eq}
use Rattle.addition.proofs.Trie.{◌⊑◌, ⊑_refl, ⊑_trans, Spelled, Says, Child, child_up, Leads, node_says}
use Rattle.addition.proofs.Paths.{exact_key, exact_end, ends_mem, rest_mem, groups_mem}

-- ---- what holds of every node

module _ (rs : List UnwindRoute) where
  pub record Fit (t : List Node) (i : ℕ) (n : Node) : Type 0 where
    pub lower : (d : Tagged ℕ) → d ∈ n.edges → d.what < i
    pub child : (d : Tagged ℕ) → d ∈ n.edges → (m : Node) × (f : ℕ) × (at t d.what ≡ some m) × (m.funclet ≡ some f)
    pub named : (f : ℕ) → n.funclet ≡ some f → Funclet rs f
    pub handled : (d : Tagged UnwindEnd) (h : ℕ) → d ∈ n.ends → d.what ≡ handler h → Handler rs h
    pub alive : (f : ℕ) → n.funclet ≡ some f → (z : List Node) → t ⊑ z → (p : UnwindPath) × Spelled z n p.steps p.end

  pub record Fits (t : List Node) : Type 0 where
    pub fit : (i : ℕ) (n : Node) → at t i ≡ some n → Fit t i n

  fit_up : {t u : List Node} {i : ℕ} {n : Node} → t ⊑ u → Fit t i n → Fit u i n
  fit_up up x =
      record {
        lower = x.lower;
        child = λ d m. let c = x.child d m in (c.0, c.1, up.still _ _ c.2, c.3);
        named = x.named;
        handled = x.handled;
        alive = λ f e z above. x.alive f e z (⊑_trans up above);
      }

  -- paths that name only what the routes name
  pub record Known (ps : List UnwindPath) : Type 0 where
    pub funclets : (p : UnwindPath) (f : ℕ) → p ∈ ps → funclet f ∈ p.steps → Funclet rs f
    pub handlers : (p : UnwindPath) (h : ℕ) → p ∈ ps → p.end ≡ handler h → Handler rs h

  known_rest : {ps : List UnwindPath} (k : Tagged ℕ) → Known ps → Known (rest k ps)
  known_rest {ps} k known =
      record {
        funclets = λ q f m i. known.funclets _ f (rest_mem ps k q m) (Memᴰ.append_right (map call k.calls) (Memᴰ.tail i));
        handlers = λ q h m e. known.handlers _ h (rest_mem ps k q m) e;
      }

  -- a funclet that some path is left behind
  pub record Behind (f : Option ℕ) (ps : List UnwindPath) : Type 0 where
    pub named : (a : ℕ) → f ≡ some a → Funclet rs a
    pub some_path : (a : ℕ) → f ≡ some a → (p : UnwindPath) × (p ∈ ps)

  behind-rest : (ps : List UnwindPath) (k : Tagged ℕ) → Known ps → k ∈ groups ps → Behind (some k.what) (rest k ps)
  behind-rest ps k known m =
      let q = groups_mem ps k m in
      let f = known.funclets _ k.what (rest_mem ps k q.0 q.1) (Memᴰ.append_right (map call k.calls) (Memᴰ.head refl)) in
      record { named = λ a e. let x : k.what ≡ a = cc in subst (Funclet rs) x f; some_path = λ a e. q }

  pub record Interns (t : List Node) (f : Option ℕ) (ps : List UnwindPath) (r : Interned) : Type 0 where
    pub grows : t ⊑ r.trie
    pub node : Node
    pub here : at r.trie r.place ≡ some node
    pub is : node.funclet ≡ f
    pub says : (z : List Node) → r.trie ⊑ z → Says z node ps
    pub fits : Fits r.trie

  -- ---- creating a node

  pub record Finds (n : Node) (t : List Node) (i : ℕ) : Type 0 where
    pub node : Node
    pub here : at t i ≡ some node
    pub funclet : node.funclet ≡ n.funclet
    pub edges : node.edges ≡ n.edges
    pub ends : node.ends ≡ n.ends

  same_funclet_law : (a b : Option ℕ) → same_funclet a b ≡ true → a ≡ b
  unfolding same_funclet
  same_funclet_law none none e = refl
  same_funclet_law none (some b) e = absurd (false≢true e)
  same_funclet_law (some a) none e = absurd (false≢true e)
  same_funclet_law (some a) (some b) e = ap some (eqb-true a b e)

  finds : (n : Node) (t : List Node) (i : ℕ) → place_of n t ≡ some i → Finds n t i
  unfolding place_of same_node at
  finds n [] i e = absurd (none-ne-some i e)
  finds n (m ∷ t) i e = go (same_node n m) refl e (place_of n t) refl (finds n t)
    where
      go : (b : Bool) → same_node n m ≡ b → cond b (some 0) (Option.map suc (place_of n t)) ≡ some i → (o : Option ℕ) → place_of n t ≡ o → ((j : ℕ) → place_of n t ≡ some j → Finds n t j) → Finds n (m ∷ t) i
      go true b p o q below =
          let z : 0 ≡ i = cc in
          let x = and_both (same_funclet n.funclet m.funclet && same (compare_tagged compare) n.edges m.edges) (same (compare_tagged compare_ends) n.ends m.ends) b in
          let y = and_both (same_funclet n.funclet m.funclet) (same (compare_tagged compare) n.edges m.edges) x.0 in
          record {
            node = m;
            here = rw (sym z);
            funclet = sym (same_funclet_law n.funclet m.funclet y.0);
            edges = sym (same_eq (compare_tagged compare) exact_key n.edges m.edges y.1);
            ends = sym (same_eq (compare_tagged compare_ends) exact_end n.ends m.ends x.1);
          }
      go false b p none q below = let e : none ≡ some i = cc in absurd (none-ne-some i e)
      go false b p (some j) q below =
          let z : suc j ≡ i = cc in
          let x = below j q in
          record { node = x.node; here = rw (sym z) x.here; funclet = x.funclet; edges = x.edges; ends = x.ends }

  module _ (t : List Node) (r : ℕ) (f : Option ℕ) (ps : List UnwindPath) (es : List (Tagged ℕ)) (fits : Fits t)
      (leads : Leads t ps (groups ps) es) (known : Known ps) (behind : Behind f ps) where
    abbrev new : Node
    new = node_of r f ps es

    grown : t ⊑ t ++ (new ∷ [])
    grown = record { still = λ i n e. at_append t (new ∷ []) i e }

    new_fit : Fit (t ++ (new ∷ [])) (length t) new
    unfolding node_of
    new_fit =
        record {
          lower = λ d m. at_lt t d.what (leads.only d (in_es d m)).2.here;
          child = λ d m. let c = (leads.only d (in_es d m)).2 in (c.node, (leads.only d (in_es d m)).0.what, grown.still _ _ c.here, c.enters);
          named = behind.named;
          handled = λ d h m e. known.handlers _ h (ends_mem ps d m) e;
          alive = λ a e z above.
              let p = behind.some_path a e in
              (p.0, (node_says t ps es leads new refl refl z (⊑_trans grown above) p.0).0 p.1);
        }
      where
        in_es : (d : Tagged ℕ) → d ∈ sorted (compare_tagged compare) es → d ∈ es
        in_es d m = sorted_mem (compare_tagged compare) es m

    new_fits : Fits (t ++ (new ∷ []))
    new_fits = record { fit = λ i n e. go i n e (dec_lt i (length t)) }
      where
        go : (i : ℕ) (n : Node) → at (t ++ (new ∷ [])) i ≡ some n → Dec (i < length t) → Fit (t ++ (new ∷ [])) i n
        go i n e (yes h) =
            let m = lt_at t i h in
            let e' = at_append t (new ∷ []) i m.1 in
            let s : m.0 ≡ n = cc in
            fit_up grown (subst (Fit t i) s (fits.fit i m.0 m.1))
        go i n e (no h) =
            let top = at_lt (t ++ (new ∷ [])) i e in
            let j : length t ≡ i = omega (arith, top, length-append t (new ∷ [])) in
            let e' = at_last t new in
            let s : new ≡ n = let x : some new ≡ some n = sym e' ∙ ap (at (t ++ (new ∷ []))) j ∙ e in cc in
            subst (λ (k : ℕ). Fit (t ++ (new ∷ [])) k n) j (subst (Fit (t ++ (new ∷ [])) (length t)) s new_fit)

    create_law : Interns t f ps (create new t)
    unfolding create created node_of
    create_law = go (place_of new t) refl
      where
        go : (o : Option ℕ) → place_of new t ≡ o → Interns t f ps (created new t o)
        go none e =
            record {
              grows = grown;
              node = new;
              here = at_last t new;
              is = refl;
              says = λ z above. node_says t ps es leads new refl refl z (⊑_trans grown above);
              fits = new_fits;
            }
        go (some i) e =
            let x = finds new t i e in
            record {
              grows = ⊑_refl;
              node = x.node;
              here = x.here;
              is = x.funclet;
              says = λ z above. node_says t ps es leads x.node x.edges x.ends z above;
              fits = fits;
            }

  -- ---- the groups, one after the other

  pub record Eaches (t : List Node) (ps : List UnwindPath) (ks : List (Tagged ℕ)) (c : Children) : Type 0 where
    pub grows : t ⊑ c.trie
    pub leads : Leads c.trie ps ks c.edges
    pub fits : Fits c.trie

  abbrev Intern : Type 0
  Intern = Option ℕ → List UnwindPath → List Node → Interned

  -- a group's node first, then those of the other groups
  first_group : (ps : List UnwindPath) (k : Tagged ℕ) (ks : List (Tagged ℕ)) (t : List Node) (i : Interned) (c : Children)
      → Interns t (some k.what) (rest k ps) i → Eaches i.trie ps ks c
      → Eaches t ps (k ∷ ks) (record { edges = tagged k.calls i.place ∷ c.edges; trie = c.trie })
  first_group ps k ks t i c x y =
      record {
        grows = ⊑_trans x.grows y.grows;
        leads = record { has = has; only = only };
        fits = y.fits;
      }
    where
      d₀ : Tagged ℕ
      d₀ = tagged k.calls i.place

      child : Child c.trie ps k d₀
      child = child_up y.grows (record { calls = refl; node = x.node; here = x.here; enters = x.is; says = x.says })

      has : (k' : Tagged ℕ) → k' ∈ k ∷ ks → (d : Tagged ℕ) × (d ∈ d₀ ∷ c.edges) × Child c.trie ps k' d
      has k' (Memᴰ.head e) = (d₀, Memᴰ.head refl, subst (λ (q : Tagged ℕ). Child c.trie ps q d₀) (sym e) child)
      has k' (Memᴰ.tail m) = let h = y.leads.has k' m in (h.0, Memᴰ.tail h.1, h.2)

      only : (d : Tagged ℕ) → d ∈ d₀ ∷ c.edges → (k' : Tagged ℕ) × (k' ∈ k ∷ ks) × Child c.trie ps k' d
      only d (Memᴰ.head e) = (k, Memᴰ.head refl, subst (Child c.trie ps k) (sym e) child)
      only d (Memᴰ.tail m) = let h = y.leads.only d m in (h.0, Memᴰ.tail h.1, h.2)

  each_law : (go : Intern) (ps : List UnwindPath) (ks : List (Tagged ℕ)) (t : List Node)
      → ((k : Tagged ℕ) → k ∈ ks → (u : List Node) → Fits u → Interns u (some k.what) (rest k ps) (go (some k.what) (rest k ps) u))
      → Fits t → Eaches t ps ks (intern_each go ps ks t)
  unfolding intern_each
  each_law go ps [] t law fits =
      record { grows = ⊑_refl; leads = record { has = λ k m. absurd (none_in m); only = λ d m. absurd (none_in m) }; fits = fits }
  each_law go ps (k ∷ ks) t law fits =
      let x = law k (Memᴰ.head refl) t fits in
      first_group ps k ks t (go (some k.what) (rest k ps) t) _ x
      (each_law go ps ks (go (some k.what) (rest k ps) t).trie (λ k' m. law k' (Memᴰ.tail m)) x.fits)

  -- ---- interning

  abbrev Short : ℕ → List UnwindPath → Type 0
  Short n ps = (p : UnwindPath) → p ∈ ps → length p.steps ≤ n

  shorter : (n : ℕ) (ps : List UnwindPath) (k : Tagged ℕ) → Short n ps → (q : UnwindPath) → q ∈ rest k ps → length q.steps < n
  shorter n ps k short q m =
      omega (arith, short _ (rest_mem ps k q m), length-append (map call k.calls) (funclet k.what ∷ q.steps))

  intern_law : (n r : ℕ) (f : Option ℕ) (ps : List UnwindPath) (t : List Node) → Short n ps → Known ps → Behind f ps → Fits t
      → Interns t f ps (intern n r f ps t)
  unfolding intern
  intern_law zero r f ps t short known behind fits =
      create_law t r f ps [] fits
      (record {
        has = λ k m. let q = groups_mem ps k m in absurd (let x = shorter 0 ps k short q.0 q.1 in omega arith);
        only = λ d m. absurd (none_in m);
      })
      known behind
  intern_law (suc n) r f ps t short known behind fits =
      let c =
      each_law (intern n r) ps (groups ps) t
      (λ k m u fit-u. intern_law n r (some k.what) (rest k ps) u (λ q i. le_of_suc-le-suc (shorter (suc n) ps k short q i)) (known_rest k known) (behind-rest ps k known m) fit-u)
      fits in
      let x = create_law (intern_each (intern n r) ps (groups ps) t).trie r f ps (intern_each (intern n r) ps (groups ps) t).edges c.fits c.leads known behind in
      record {
        grows = ⊑_trans c.grows x.grows;
        node = x.node;
        here = x.here;
        is = x.is;
        says = x.says;
        fits = x.fits;
      }

  -- ---- all routes

  -- the roots of the routes, in order
  pub data Rooted (z : List Node) : List UnwindRoute → List ℕ → Type 0 where
    no_more : Rooted z [] []
    rooted : {u : UnwindRoute} {i : ℕ} {us : List UnwindRoute} {is : List ℕ} (n : Node) → at z i ≡ some n → Says z n u.paths → Rooted z us is → Rooted z (u ∷ us) (i ∷ is)

  pub record Routes (t : List Node) (us : List UnwindRoute) (x : Tries) : Type 0 where
    pub grows : t ⊑ x.nodes
    pub fits : Fits x.nodes
    pub roots : Rooted x.nodes us x.roots

  longest_short : (ps : List UnwindPath) → Short (longest ps) ps
  unfolding longest
  longest_short (q ∷ ps) p (Memᴰ.head e) = rw e (omega arith)
  longest_short (q ∷ ps) p (Memᴰ.tail m) = omega (arith, longest_short ps p m)
  longest_short [] p x' = elim x' [ ]

  routes_law : (r : ℕ) (us : List UnwindRoute) (t : List Node) → ((u : UnwindRoute) → u ∈ us → u ∈ rs) → Fits t → Routes t us (intern_routes r us t)
  unfolding intern_routes
  routes_law r [] t within fits = record { grows = ⊑_refl; fits = fits; roots = no_more }
  routes_law r (u ∷ us) t within fits =
      let here : u ∈ rs = within u (Memᴰ.head refl) in
      let known : Known u.paths =
      record {
        funclets = λ p f m i. record { route = u; path = p; listed = here; written = m; named = i };
        handlers = λ p h m e. record { route = u; path = p; listed = here; written = m; named = e };
      } in
      let behind : Behind none u.paths = record { named = λ a e. absurd (none-ne-some a e); some_path = λ a e. absurd (none-ne-some a e) } in
      let x = intern_law (longest u.paths) r none u.paths t (longest_short u.paths) known behind fits in
      let y = routes_law (suc r) us (intern (longest u.paths) r none u.paths t).trie (λ v m. within v (Memᴰ.tail m)) x.fits in
      record {
        grows = ⊑_trans x.grows y.grows;
        fits = y.fits;
        roots = rooted x.node (y.grows.still _ _ x.here) (x.says _ y.grows) y.roots;
      }

  pub tries_law : Routes [] rs (tries rs)
  unfolding tries at
  tries_law = routes_law 0 rs [] (λ u m. m) (record { fit = λ i n e. absurd (none-ne-some n e) })
