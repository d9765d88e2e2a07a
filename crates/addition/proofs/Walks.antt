-- The walk theorem, from a dozen laws on nodes, ways and instances.
--     Turn                         a way of a node out of a block
--     Fires                        a block whose hops are the ways of a node: a guarded block of a route, or a return
--     Laws                         what an engine of unwinding must give
--     spell_walk                   what a node spells, some walk from a block that fires it spells
--     walk_spell                   what a walk spells, the node that its block fires spells
--     exactly, ends                demand 3
use mathlib.Core.Path.{◌≡◌, refl, sym, ◌∙◌, ap, subst}
use mathlib.Core.Logic.{◌↔◌}
use mathlib.Core.List.{List, map}
use mathlib.Core.Option.{some}
use Prim.Native.Nat.{ℕ}
use native.Mathlib.Omega.{arith}
use Rattle.image.specs.Deal.{UnwindStep, call, UnwindEnd, handler, propagate, resume, UnwindPath, UnwindRoute}
use Rattle.graph.specs.Graph.{Graph}
use Rattle.addition.specs.Order.{Tagged}
use Rattle.addition.specs.Blocks.{first_of}
use Rattle.addition.specs.Trie.{Node}
use Rattle.addition.specs.Ways.{HopEnd, block, leave, Hop}
use Rattle.addition.specs.Walk.{◌∈◌, Funclet, Reach, Returning, Covers, Guarded, Lists, Takes, Ends, resumes, leaves, handles, Enters, Walk, over, through, May, once, again}
use Rattle.addition.proofs.Lists.{at}
use Rattle.addition.proofs.Paths.{steps_of}
use Rattle.addition.proofs.Trie.{⊑_refl, Spelled, stops, goes, Says}
use Rattle.addition.proofs.Intern.{Fits}

-- the graph and the hops afterwards, the routes, the nodes, and for each node its entry and its returns
module _ (g : Graph) (rs : List UnwindRoute) (hs : List Hop) (z : List Node) (entry : ℕ → ℕ) (returns : ℕ → List ℕ) (land : ℕ → ℕ) where
  pub data Turn (b : ℕ) (n : Node) (c : List ℕ) (e : HopEnd) : Type 0 where
    entering : (d : Tagged ℕ) → d ∈ n.edges → c ≡ d.calls → e ≡ block (entry d.what) → Turn b n c e
    handling : (d : Tagged UnwindEnd) (h : ℕ) → d ∈ n.ends → c ≡ d.calls → d.what ≡ handler h → e ≡ block (land h) → Turn b n c e
    leaving : (d : Tagged UnwindEnd) → d ∈ n.ends → c ≡ d.calls → d.what ≡ propagate → e ≡ leave → Turn b n c e
    resuming : (d : Tagged UnwindEnd) → d ∈ n.ends → c ≡ d.calls → d.what ≡ resume → e ≡ block b → Turn b n c e

  pub data Fires (b i : ℕ) (n : Node) : Type 0 where
    at_root : (u : UnwindRoute) → u ∈ rs → Covers g u b → Guarded g rs b → Says z n u.paths → Fires b i n
    at_return : b ∈ returns i → Fires b i n

  abbrev Turns : ℕ → Node → Type 0
  Turns b n = (c : List ℕ) (e : HopEnd) → Turn b n c e → Takes g rs hs b c e

  pub record Root (u : UnwindRoute) (b : ℕ) : Type 0 where
    pub node : ℕ
    pub state : Node
    pub here : at z node ≡ some state
    pub says : Says z state u.paths
    pub takes : Turns b state

  pub record Turned (b : ℕ) (c : List ℕ) (e : HopEnd) : Type 0 where
    pub node : ℕ
    pub state : Node
    pub here : at z node ≡ some state
    pub fires : Fires b node state
    pub turn : Turn b state c e

  pub record Laws : Type 0 where
    pub fits : Fits rs z
    -- every hop is a way of a node that its source fires, and every such way is a hop
    pub turned : (b : ℕ) (c : List ℕ) (e : HopEnd) → Takes g rs hs b c e → Turned b c e
    pub root : (u : UnwindRoute) (b : ℕ) → u ∈ rs → Covers g u b → Guarded g rs b → Root u b
    pub return : (i : ℕ) (n : Node) (b : ℕ) → at z i ≡ some n → b ∈ returns i → Turns b n
    -- the part of an instance, its first address and its returns
    pub address : (i : ℕ) (n : Node) (f : ℕ) → at z i ≡ some n → n.funclet ≡ some f → (first_of g (entry i)).address ≡ f
    pub part : (i : ℕ) (n : Node) (f y : ℕ) → at z i ≡ some n → n.funclet ≡ some f → Reach g rs f (entry i) y → Returning g y → y ∈ returns i
    pub reach : (i : ℕ) (n : Node) (f y : ℕ) → at z i ≡ some n → n.funclet ≡ some f → y ∈ returns i → Reach g rs f (entry i) y × Returning g y
    pub some_return : (i : ℕ) (n : Node) (f : ℕ) → at z i ≡ some n → n.funclet ≡ some f → (y : ℕ) × (y ∈ returns i)
    -- a return belongs to one node, and is no guarded block
    pub owner : (i j : ℕ) (n m : Node) (y : ℕ) → at z i ≡ some n → at z j ≡ some m → y ∈ returns i → y ∈ returns j → i ≡ j
    pub unguarded : (i : ℕ) (n : Node) (y : ℕ) → at z i ≡ some n → y ∈ returns i → Guarded g rs y → ⊥
    -- no way leads back to its source but Resume, and a handler's block starts no funclet
    pub onward : (b i : ℕ) (n : Node) (d : Tagged ℕ) → at z i ≡ some n → Fires b i n → d ∈ n.edges → entry d.what ≡ b → ⊥
    pub landing : (b i : ℕ) (n : Node) (d : Tagged UnwindEnd) (h : ℕ) → at z i ≡ some n → Fires b i n → d ∈ n.ends → d.what ≡ handler h → land h ≡ b → ⊥
    pub lands : (i : ℕ) (n : Node) (d : Tagged UnwindEnd) (h : ℕ) → at z i ≡ some n → d ∈ n.ends → d.what ≡ handler h → ((first_of g (land h)).address ≡ h) × (Funclet rs h → ⊥)

  no_leave : {x : ℕ} → block x ≡ leave → ⊥
  no_leave e = let q : ◌≡◌ {A = ℕ} 0 1 = cc in omega arith

  module _ (laws : Laws) where
    -- ---- what a node spells, a walk spells

    ends_at_law : (b i : ℕ) (n : Node) → at z i ≡ some n → Fires b i n → Turns b n → (d : Tagged UnwindEnd) → d ∈ n.ends → (w : UnwindEnd) → d.what ≡ w → Ends g rs hs b d.calls w
    ends_at_law b i n here fires takes d m (handler h) e =
        let l = laws.lands i n d h here m e in
        handles (land h) (takes _ _ (handling d h m refl e refl)) (laws.landing b i n d h here fires m e) l.0 l.1
    ends_at_law b i n here fires takes d m propagate e = leaves (takes _ _ (leaving d m refl e refl))
    ends_at_law b i n here fires takes d m resume e = resumes (takes _ _ (resuming d m refl e refl))

    pub spell_walk : {n : Node} {s : List UnwindStep} {e : UnwindEnd} → Spelled z n s e → (b i : ℕ) → at z i ≡ some n → Fires b i n → Turns b n → Walk g rs hs b s e
    spell_walk {n} (stops d m p q) b i here fires takes = over d.calls (ends_at_law b i n here fires takes d m _ q) p
    spell_walk {n} (goes d m k at-k f enters t w p) b i here fires takes =
        let y = laws.some_return d.what k f at-k enters in
        let r = laws.reach d.what k f y.0 at-k enters y.1 in
        through d.calls f y.0 t
        (record {
          into = entry d.what;
          takes = takes _ _ (entering d m refl refl);
          elsewhere = laws.onward b i n d here fires m;
          named = (laws.fits.fit d.what k at-k).named f enters;
          address = laws.address d.what k f at-k enters;
          reach = r.0;
          returning = r.1;
        })
        (spell_walk w y.0 d.what at-k (at_return y.1) (laws.return d.what k y.0 at-k y.1)) p

    -- ---- what a walk spells, a node spells

    -- where a walk enters a funclet, it takes an edge of the node that its block fires, and goes on from a return of the child
    pub record Entered (b : ℕ) (c : List ℕ) (f y : ℕ) : Type 0 where
      pub node : ℕ
      pub state : Node
      pub here : at z node ≡ some state
      pub fires : Fires b node state
      pub edge : Tagged ℕ
      pub among : edge ∈ state.edges
      pub calls : c ≡ edge.calls
      pub child : Node
      pub there : at z edge.what ≡ some child
      pub enters : child.funclet ≡ some f
      pub return : y ∈ returns edge.what

    pub entered : (b : ℕ) (c : List ℕ) (f y : ℕ) → Enters g rs hs b c f y → Entered b c f y
    entered b c f y x = go (laws.turned b c (block x.into) x.takes)
      where
        by : (t : Turned b c (block x.into)) → Turn b t.state c (block x.into) → Entered b c f y
        by t (entering d m p q) =
            let k = (laws.fits.fit t.node t.state t.here).child d m in
            let into_is : x.into ≡ entry d.what = cc in
            let f_is : f ≡ k.1 = sym x.address ∙ ap (λ (v : ℕ). (first_of g v).address) into_is ∙ laws.address d.what k.0 k.1 k.2 k.3 in
            let enters : k.0.funclet ≡ some f = k.3 ∙ ap some (sym f_is) in
            record {
              node = t.node;
              state = t.state;
              here = t.here;
              fires = t.fires;
              edge = d;
              among = m;
              calls = p;
              child = k.0;
              there = k.2;
              enters = enters;
              return = laws.part d.what k.0 f y k.2 enters (subst (λ (v : ℕ). Reach g rs f v y) into_is x.reach) x.returning;
            }
        by t (handling d h m p w q) =
            let l = laws.lands t.node t.state d h t.here m w in
            let into_is : x.into ≡ land h = cc in
            let f_is : f ≡ h = sym x.address ∙ ap (λ (v : ℕ). (first_of g v).address) into_is ∙ l.0 in
            absurd (l.1 (subst (Funclet rs) f_is x.named))
        by t (leaving d m p w q) = absurd (no_leave q)
        by t (resuming d m p w q) = let into_is : x.into ≡ b = cc in absurd (x.elsewhere into_is)

        go : Turned b c (block x.into) → Entered b c f y
        go t = by t t.turn

    pub record Spells (b : ℕ) (s : List UnwindStep) (e : UnwindEnd) : Type 0 where
      pub node : ℕ
      pub state : Node
      pub here : at z node ≡ some state
      pub fires : Fires b node state
      pub spelled : Spelled z state s e

    stop : {b : ℕ} {c : List ℕ} {x : HopEnd} {s : List UnwindStep} {e : UnwindEnd} (t : Turned b c x) (d : Tagged UnwindEnd) → d ∈ t.state.ends → c ≡ d.calls → d.what ≡ e → s ≡ map call c → Spells b s e
    stop t d m p w q = record { node = t.node; state = t.state; here = t.here; fires = t.fires; spelled = stops d m (q ∙ ap (map call) p) w }

    ended : (b : ℕ) (c : List ℕ) (s : List UnwindStep) (e : UnwindEnd) → Ends g rs hs b c e → s ≡ map call c → Spells b s e
    ended b c s _ (resumes k) q = go (laws.turned b c (block b) k)
      where
        by : (t : Turned b c (block b)) → Turn b t.state c (block b) → Spells b s resume
        by t (entering d m p x) = let y : entry d.what ≡ b = cc in absurd (laws.onward b t.node t.state d t.here t.fires m y)
        by t (handling d h m p w x) = let y : land h ≡ b = cc in absurd (laws.landing b t.node t.state d h t.here t.fires m w y)
        by t (leaving d m p w x) = absurd (no_leave x)
        by t (resuming d m p w x) = stop t d m p w q

        go : Turned b c (block b) → Spells b s resume
        go t = by t t.turn
    ended b c s _ (leaves k) q = go (laws.turned b c leave k)
      where
        by : (t : Turned b c leave) → Turn b t.state c leave → Spells b s propagate
        by t (entering d m p x) = absurd (no_leave (sym x))
        by t (handling d h m p w x) = absurd (no_leave (sym x))
        by t (leaving d m p w x) = stop t d m p w q
        by t (resuming d m p w x) = absurd (no_leave (sym x))

        go : Turned b c leave → Spells b s propagate
        go t = by t t.turn
    ended b c s _ (handles {h = h} v k ne address unnamed) q = go (laws.turned b c (block v) k)
      where
        by : (t : Turned b c (block v)) → Turn b t.state c (block v) → Spells b s (handler h)
        by t (entering d m p x) =
            let y : v ≡ entry d.what = cc in
            let k = (laws.fits.fit t.node t.state t.here).child d m in
            let f_is : k.1 ≡ h = sym (laws.address d.what k.0 k.1 k.2 k.3) ∙ ap (λ (u : ℕ). (first_of g u).address) (sym y) ∙ address in
            absurd (unnamed (subst (Funclet rs) f_is ((laws.fits.fit d.what k.0 k.2).named k.1 k.3)))
        by t (handling d h' m p w x) =
            let y : v ≡ land h' = cc in
            let h_is : h' ≡ h = sym (laws.lands t.node t.state d h' t.here m w).0 ∙ ap (λ (u : ℕ). (first_of g u).address) (sym y) ∙ address in
            stop t d m p (w ∙ ap handler h_is) q
        by t (leaving d m p w x) = absurd (no_leave x)
        by t (resuming d m p w x) = let y : v ≡ b = cc in absurd (ne y)

        go : Turned b c (block v) → Spells b s (handler h)
        go t = by t t.turn

    -- a return fires its own node only
    own : (y i j : ℕ) (n m : Node) → at z i ≡ some n → at z j ≡ some m → y ∈ returns i → Fires y j m → i ≡ j
    own y i j n m here there r (at_root u _ _ guarded _) = absurd (laws.unguarded i n y here r guarded)
    own y i j n m here there r (at_return r') = laws.owner i j n m y here there r r'

    pub walk_spell : {b : ℕ} {s : List UnwindStep} {e : UnwindEnd} → Walk g rs hs b s e → Spells b s e
    walk_spell {b} {s} {e} (over c ends q) = ended b c s e ends q
    walk_spell {b} {s} {e} (through c f y t enters w q) =
        let x = entered b c f y enters in
        let k = walk_spell w in
        let same_place : x.edge.what ≡ k.node = own y x.edge.what k.node x.child k.state x.there k.here x.return k.fires in
        let there : at z k.node ≡ some x.child = ap (at z) (sym same_place) ∙ x.there in
        let here : at z k.node ≡ some k.state = k.here in
        let same_node_law : k.state ≡ x.child = cc in
        record {
          node = x.node;
          state = x.state;
          here = x.here;
          fires = x.fires;
          spelled = goes x.edge x.among x.child x.there f x.enters t (subst (λ (v : Node). Spelled z v t e) same_node_law k.spelled) (q ∙ ap (λ (v : List ℕ). steps_of v f t) x.calls);
        }

    -- ---- demand 3

    pub exactly : (b : ℕ) → Guarded g rs b → (p : UnwindPath) → Lists g rs b p ↔ Walk g rs hs b p.steps p.end
    exactly b guarded p = (forth, λ w. back (walk_spell w))
      where
        forth : Lists g rs b p → Walk g rs hs b p.steps p.end
        forth l =
            let r = laws.root l.route b l.listed l.covers guarded in
            spell_walk ((r.says p).0 l.written) b r.node r.here (at_root l.route l.listed l.covers guarded r.says) r.takes

        of : (k : Spells b p.steps p.end) → Fires b k.node k.state → Lists g rs b p
        of k (at_root u listed covers _ says) = record { route = u; listed = listed; covers = covers; written = (says p).1 k.spelled }
        of k (at_return r) = absurd (laws.unguarded k.node k.state b k.here r guarded)

        back : Spells b p.steps p.end → Lists g rs b p
        back k = of k k.fires

    -- a returning block that a walk may take is a return of a funclet's node
    pub record Return (y : ℕ) : Type 0 where
      pub node : ℕ
      pub state : Node
      pub funclet : ℕ
      pub here : at z node ≡ some state
      pub enters : state.funclet ≡ some funclet
      pub among : y ∈ returns node

    may_return : {b y : ℕ} → May g rs hs b y → Return y
    may_return {b} {y} (once {c = c} {f = f} e) = let x = entered b c f y e in record { node = x.edge.what; state = x.child; funclet = f; here = x.there; enters = x.enters; among = x.return }
    may_return {b} {y} (again {c = c} {f = f} {x = v} m e) = let x = entered v c f y e in record { node = x.edge.what; state = x.child; funclet = f; here = x.there; enters = x.enters; among = x.return }

    pub ends : (b y : ℕ) → May g rs hs b y → (p : UnwindPath) × Walk g rs hs y p.steps p.end
    ends b y m =
        let r = may_return m in
        let p = (laws.fits.fit r.node r.state r.here).alive r.funclet r.enters z ⊑_refl in
        (p.0, spell_walk p.1 y r.node r.here (at_return r.among) (laws.return r.node r.state y r.here r.among))
