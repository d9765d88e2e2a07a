-- Demand 3: an accepted addition has the laws of the walk theorem.
--     guarded_up, in_guarded       the guarded blocks of a route, before and after
--     turned, root, return         hops and ways
--     laws                         the laws of the walk theorem
--     demand3_milder               the theorem under the milder conditions
--     demand3                      the hops spell the listed paths and nothing else
use mathlib.Core.Path.{◌≡◌, sym, ◌∙◌, ap, subst}
use mathlib.Core.Logic.{◌⊎◌, inl, inr}
use mathlib.Core.List.{List}
use mathlib.Core.Option.{some}
use Prim.Native.Nat.{ℕ}
use native.Mathlib.Omega.{arith}
use lib.ListN.{length}
use Rattle.image.specs.Refusal.{clear}
use Rattle.image.specs.Image.{RouteImage}
use Rattle.image.specs.Read.{read}
use Rattle.image.specs.Deal.{UnwindEnd, handler, UnwindRoute, routes_of}
use Rattle.graph.specs.declared.record.TableEntry.{TableEntry}
use Rattle.graph.specs.declared.record.Edge.{Edge}
use Rattle.graph.specs.Graph.{Graph}
use Rattle.graph.specs.Flow.{Kind}
use Rattle.graph.specs.Fold.{flat, checks}
use Rattle.addition.specs.Order.{Tagged}
use Rattle.addition.specs.Blocks.{first_of, block_of, guarded}
use Rattle.addition.specs.Part.{funclets}
use Rattle.addition.specs.Trie.{Node, node_at, tries}
use Rattle.addition.specs.Instance.{entry_of, returns_of}
use Rattle.addition.specs.Ways.{HopEnd, Hop, ways, node_ways, route_ways, hops_of}
use Rattle.addition.specs.Add.{Addition, addition, node_check, added, add_routes_to}
use Rattle.addition.specs.Walk.{◌∈◌, Built, Covers, Guarded, Takes}
use Rattle.addition.specs.Demand.{Demand3, Demanded}
use Rattle.addition.proofs.Lists.{at, lt_at}
use Rattle.addition.proofs.Sound.{Sound, sound as well_formed_law}
use Rattle.addition.proofs.Intern.{tries_law}
use Rattle.addition.proofs.Parts
use Rattle.addition.proofs.Milder.{Milder, mild}
use Rattle.addition.proofs.Walks.{Turn, Fires, at_root, at_return, Root, Turned, Laws, exactly, ends}
use Rattle.addition.proofs.HopWays
use Rattle.addition.proofs.Owners
use Rattle.addition.proofs.Accepted.{accepted, passed, mem_guarded, guarded_mem}

module _ (g : Graph) (rs : List UnwindRoute) (sound : Sound g) (milder : Milder g rs)
    (ok : checks (λ i. node_check g (node_at (tries rs).nodes i)) (length (tries rs).nodes) ≡ clear) where
  abbrev z : List Node
  z = (tries rs).nodes

  abbrev fs : List ℕ
  fs = funclets rs

  abbrev new : List Edge
  new = Owners.new g rs sound milder ok

  unwinds : (d : Edge) → d ∈ new → d.kind ≡ Kind.exception_unwind
  unwinds = Owners.unwinds g rs sound milder ok

  abbrev g' : Graph
  g' = Owners.g' g rs sound milder ok

  abbrev hs : List Hop
  hs = hops_of (ways g rs)

  abbrev returns : ℕ → List ℕ
  returns = returns_of g fs z

  abbrev entry : ℕ → ℕ
  entry = entry_of g fs z

  -- ---- hops

  abbrev Turned' : ℕ → List ℕ → HopEnd → Type 0
  Turned' = Turned g' rs hs z entry returns (block_of g)

  guarded_up : (u : UnwindRoute) (b : ℕ) → u ∈ rs → b ∈ guarded g u → Guarded g' rs b × Covers g' u b
  guarded_up u b listed m =
      let x = guarded_mem g u b m in
      let h : Built g b = x.0 in
      let s : first_of g' b ≡ first_of g b = Parts.old_first g rs z new unwinds sound b h.exists in
      let covers : Covers g' u b = record { from = rw s x.2.from; before = rw s x.2.before } in (
        record {
          built = Parts.up g rs z new unwinds sound b h;
          keeps = ap (λ (t : TableEntry). t.keeps) s ∙ x.1;
          route = u;
          listed = listed;
          covers = covers;
        },
        covers,
      )

  in_guarded : (u : UnwindRoute) (b : ℕ) → Covers g' u b → Guarded g' rs b → b ∈ guarded g u
  in_guarded u b covers x =
      let w = Owners.guarded_down g rs sound milder ok b x in
      let s : first_of g' b ≡ first_of g b = Parts.old_first g rs z new unwinds sound b w.built.exists in
      mem_guarded g u b w.built w.keeps (record { from = rw s at covers.from; before = rw s at covers.before })

  abbrev Turn' : ℕ → Node → List ℕ → HopEnd → Type 0
  Turn' = Turn g' rs hs z entry returns (block_of g)

  -- the way of a node out of a block, as the hop has it
  same_turn : {b b' : ℕ} {n : Node} {c c' : List ℕ} {e e' : HopEnd} → b ≡ b' → c ≡ c' → e ≡ e' → Turn' b n c e → Turn' b' n c' e'
  same_turn {b} {b'} {n} {c} {c'} {e} {e'} p q r t =
      subst (λ (x : HopEnd). Turn' b' n c' x) r (subst (λ (x : List ℕ). Turn' b' n x e) q (subst (λ (x : ℕ). Turn' x n c e) p t))

  turned : (b : ℕ) (c : List ℕ) (e : HopEnd) → Takes g' rs hs b c e → Turned' b c e
  turned b c e t = go (HopWays.hop_way g' rs (ways g rs) b c e t)
    where
      by_route : (x : HopWays.Made (ways g rs) b c e) → HopWays.OfRoute g g' rs hs rs x.way → Turned' b c e
      by_route x o =
          let k = HopWays.way_turn g g' rs hs o.number o.block o.state x.way o.among in
          let same : o.block ≡ b = sym k.0 ∙ x.from in
          let up = guarded_up o.route o.block o.listed o.inside in
          record {
            node = o.node;
            state = o.state;
            here = o.here;
            fires = at_root o.route o.listed (subst (Covers g' o.route) same up.1) (subst (Guarded g' rs) same up.0) o.says;
            turn = same_turn same x.calls x.to k.1;
          }

      by_node : (x : HopWays.Made (ways g rs) b c e) → HopWays.OfNode g g' rs hs x.way → Turned' b c e
      by_node x o =
          let n = lt_at z o.node o.inside in
          let k = HopWays.way_turn g g' rs hs (node_at z o.node).route o.block (node_at z o.node) x.way o.among in
          let same : o.block ≡ b = sym k.0 ∙ x.from in
          record {
            node = o.node;
            state = n.0;
            here = n.1;
            fires = at_return (subst (λ (v : ℕ). v ∈ returns o.node) same o.return);
            turn = subst (λ (v : Node). Turn' b v c e) (Owners.node_at_law g rs sound milder ok o.node n.0 n.1) (same_turn same x.calls x.to k.1);
          }

      either : (x : HopWays.Made (ways g rs) b c e) → (x.way ∈ route_ways g rs 0 rs (tries rs).roots) ⊎ (x.way ∈ flat (node_ways g rs) (length z)) → Turned' b c e
      either x (inl m) = by_route x (HopWays.route_way g g' rs hs 0 (tries_law rs).roots x.way m)
      either x (inr m) = by_node x (HopWays.node_way g g' rs hs x.way m)

      go : HopWays.Made (ways g rs) b c e → Turned' b c e
      go x = either x (HopWays.ways_split g g' rs hs x.way x.among)

  root : (u : UnwindRoute) (b : ℕ) → u ∈ rs → Covers g' u b → Guarded g' rs b → Root g' rs hs z entry returns (block_of g) u b
  root u b listed covers x =
      let r = HopWays.way_route g g' rs hs 0 (tries_law rs).roots u listed in
      record {
        node = r.node;
        state = r.state;
        here = r.here;
        says = r.says;
        takes = λ c e t.
            let m = HopWays.turn_way g g' rs hs r.number b r.state c e t in
            HopWays.way_hop g' rs (ways g rs) b c e
            (record {
              way = m.way;
              among = HopWays.route_in g g' rs hs m.way (r.all b (in_guarded u b covers x) m.way m.among);
              from = m.from;
              calls = m.calls;
              to = m.to;
            });
      }

  return : (i : ℕ) (n : Node) (b : ℕ) → at z i ≡ some n → b ∈ returns i → (c : List ℕ) (e : HopEnd) → Turn' b n c e → Takes g' rs hs b c e
  return i n b en k c e t =
      let m = HopWays.turn_way g g' rs hs n.route b n c e t in
      HopWays.way_hop g' rs (ways g rs) b c e
      (record {
        way = m.way;
        among = HopWays.node_in g g' rs hs m.way (HopWays.way_node g g' rs hs i b n en k m.way m.among);
        from = m.from;
        calls = m.calls;
        to = m.to;
      })

  abbrev Fire : ℕ → ℕ → Node → Type 0
  Fire = Fires g' rs hs z entry returns (block_of g)

  onward : (b i : ℕ) (n : Node) (d : Tagged ℕ) → at z i ≡ some n → Fire b i n → d ∈ n.edges → entry d.what ≡ b → ⊥
  onward b i n d en fires m e = go (((tries_law rs).fits.fit i n en).child d m) fires
    where
      go : (m : Node) × (f : ℕ) × (at z d.what ≡ some m) × (m.funclet ≡ some f) → Fire b i n → ⊥
      go k (at_root u _ _ guarded _) =
          Owners.entry_guarded g rs sound milder ok d.what k.1 (Owners.enters_at g rs sound milder ok d.what k.0 k.1 k.2 k.3) (subst (Guarded g' rs) (sym e) guarded)
      go k (at_return r) =
          let same : i ≡ d.what =
          Owners.entry_return g rs sound milder ok i d.what k.1 n k.0 en k.2
          (Owners.enters_at g rs sound milder ok d.what k.0 k.1 k.2 k.3) (subst (λ (y : ℕ). y ∈ returns i) (sym e) r) in
          let less = ((tries_law rs).fits.fit i n en).lower d m in
          omega arith

  landing : (b i : ℕ) (n : Node) (d : Tagged UnwindEnd) (h : ℕ) → at z i ≡ some n → Fire b i n → d ∈ n.ends → d.what ≡ handler h → block_of g h ≡ b → ⊥
  landing b i n d h en fires m e p = go (Owners.lands_at g rs sound milder ok i n d h en m e) fires
    where
      go : Owners.Lands g rs sound milder ok h → Fire b i n → ⊥
      go l (at_root u _ _ guarded _) = Owners.landing-guarded g rs sound milder ok h l (subst (Guarded g' rs) (sym p) guarded)
      go l (at_return r) = Owners.landing_return g rs sound milder ok i h n en l (subst (λ (y : ℕ). y ∈ returns i) (sym p) r)

  laws : Laws g' rs hs z entry returns (block_of g)
  laws =
      record {
        fits = (tries_law rs).fits;
        turned = turned;
        root = root;
        return = return;
        address = λ i n f en q. let x = Owners.enters_at g rs sound milder ok i n f en q in Parts.enter_address g rs z new unwinds sound i f x.inside x.enters x.begins;
        part = λ i n f y en q r ret. let x = Owners.enters_at g rs sound milder ok i n f en q in Parts.returns_forth g rs z new unwinds sound i f x.inside x.enters x.begins r ret;
        reach = λ i n f y en q m. let x = Owners.enters_at g rs sound milder ok i n f en q in Parts.returns_back g rs z new unwinds sound i f x.inside x.enters x.begins y m;
        some_return = Owners.some_return g rs sound milder ok;
        owner = Owners.owner g rs sound milder ok;
        unguarded = Owners.unguarded g rs sound milder ok;
        onward = onward;
        landing = landing;
        lands = λ i n d h en m e. Owners.lands g rs sound milder ok h (Owners.lands_at g rs sound milder ok i n d h en m e);
      }

-- ---- demand 3

spells : (g : Graph) (rs : List UnwindRoute) → Sound g → Milder g rs
    → checks (λ i. node_check g (node_at (tries rs).nodes i)) (length (tries rs).nodes) ≡ clear → Demand3 rs (addition g rs)
unfolding addition
spells g rs sound milder ok =
    let l = laws g rs sound milder ok in
    record {
      exactly = exactly _ _ _ _ _ _ _ l;
      ends = λ b y guarded m. ends _ _ _ _ _ _ _ l b y m;
    }

pub demand3_milder : (g : Graph) (rs : List UnwindRoute) (a : Addition) → Sound g → Milder g rs → add_routes_to g rs ≡ added a → Demand3 rs a
demand3_milder g rs a sound milder e =
    let x = accepted g rs a e in
    subst (Demand3 rs) x.is (spells g rs sound milder x.nodes)

pub demand3 : Demanded
demand3 h l m a r e conditions =
    let x = passed h l a e in
    let is : read x.image ≡ read m = sym x.routes ∙ r in
    let same : x.image ≡ m = cc in
    demand3_milder h.graph (routes_of m) a (well_formed_law h x.graph) (mild h.graph (routes_of m) conditions) (subst (λ (i : RouteImage). add_routes_to h.graph (routes_of i) ≡ added a) same x.adds)
