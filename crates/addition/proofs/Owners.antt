-- Who owns a block after an accepted addition: no two instances share a return, and no guarded block or handler is one.
--     Enters, enters_at, enters_some      a node that enters a funclet, whose entry is led
--     guarded_down                 a guarded block was one before
--     owner, unguarded             a return belongs to one node, and is no guarded block
--     entry_guarded, entry_return  an entry is no guarded block, and no return of a later node
--     Lands, lands_at, landing-guarded, landing_return, lands     the same for a handler's block; it starts no funclet
--     some_return                  each instance has a return
use mathlib.Core.Path.{◌≡◌, refl, sym, ◌∙◌, ap, subst}
use mathlib.Core.Logic.{◌⊎◌, inl, inr}
use mathlib.Core.Bool.{true, false}
use mathlib.Core.List.{List, [], ◌++◌}
use mathlib.Core.Option.{Option, none, some}
use Prim.Native.Nat.{ℕ, ◌<◌}
use native.Mathlib.Omega.{arith}
use lib.ListN.{length}
use Rattle.image.specs.Refusal.{clear}
use Rattle.image.specs.Deal.{UnwindEnd, handler, UnwindRoute}
use Rattle.graph.specs.declared.record.TableEntry.{TableEntry}
use Rattle.graph.specs.declared.record.Edge.{Edge}
use Rattle.graph.specs.Graph.{Graph}
use Rattle.graph.specs.Flow.{Kind}
use Rattle.graph.specs.Fold.{checks}
use Rattle.addition.specs.Order.{Tagged}
use Rattle.addition.specs.Blocks.{first_of, block_of, guarded}
use Rattle.addition.specs.Part.{funclets}
use Rattle.addition.specs.Trie.{Node, node_at, tries}
use Rattle.addition.specs.Instance.{part_of, blocks_of, later, place, entry_of, returns_of, clone_blocks, clone_edges}
use Rattle.addition.specs.Ways.{Hop, ways, hops_of, route_edges}
use Rattle.addition.specs.Add.{extended, node_check}
use Rattle.addition.specs.Walk.{◌∈◌, Funclet, Handler, Built, Begins, Reach, start, Part, Returning, Guarded}
use Rattle.addition.proofs.Lists.{at, none_in, at_lt, at_get_or}
use Rattle.addition.proofs.Sound.{Sound}
use Rattle.addition.proofs.Intern.{Fits, tries_law}
use Rattle.addition.proofs.Instance.{first_or_later, place_first, later_above, clone_owner, first_once, mem_returns, returns_mem}
use Rattle.addition.proofs.NewEdges.{new_unwinds}
use Rattle.addition.proofs.Parts
use Rattle.addition.proofs.Milder.{Milder, reach_entry}
use Rattle.addition.proofs.Accepted.{node_clear, funclet_begins, handler_begins}

module _ (g : Graph) (rs : List UnwindRoute) (sound : Sound g) (milder : Milder g rs)
    (ok : checks (λ i. node_check g (node_at (tries rs).nodes i)) (length (tries rs).nodes) ≡ clear) where
  abbrev pub z : List Node
  z = (tries rs).nodes

  abbrev pub fs : List ℕ
  fs = funclets rs

  abbrev pub new : List Edge
  new = route_edges (extended g (clone_blocks g fs z) []) [] (ways g rs)

  pub unwinds : (d : Edge) → d ∈ new → d.kind ≡ Kind.exception_unwind
  unwinds d m = new_unwinds (extended g (clone_blocks g fs z) []) d [] (ways g rs) m

  abbrev pub g' : Graph
  g' = extended g (clone_blocks g fs z) (clone_edges g fs z ++ new)

  abbrev pub hs : List Hop
  hs = hops_of (ways g rs)

  abbrev pub blocks : ℕ → List ℕ
  blocks = blocks_of g fs z

  abbrev pub put : ℕ → ℕ → ℕ
  put = place g fs z

  abbrev pub returns : ℕ → List ℕ
  returns = returns_of g fs z

  abbrev pub entry : ℕ → ℕ
  entry = entry_of g fs z

  pub fits : Fits rs z
  fits = (tries_law rs).fits

  pub node_at_law : (i : ℕ) (n : Node) → at z i ≡ some n → node_at z i ≡ n
  unfolding node_at
  node_at_law i n e = at_get_or z i _ e

  node_ok : (i : ℕ) (n : Node) → at z i ≡ some n → node_check g n ≡ clear
  node_ok i n e = node_clear g z ok i n e

  -- a node that enters f
  pub record Enters (i f : ℕ) : Type 0 where
    pub inside : i < length z
    pub enters : (node_at z i).funclet ≡ some f
    pub named : Funclet rs f
    pub begins : Begins g f (block_of g f)

  pub enters_at : (i : ℕ) (n : Node) (f : ℕ) → at z i ≡ some n → n.funclet ≡ some f → Enters i f
  enters_at i n f e q =
      record {
        inside = at_lt z i e;
        enters = ap (λ (x : Node). x.funclet) (node_at_law i n e) ∙ q;
        named = (fits.fit i n e).named f q;
        begins = funclet_begins g n (node_ok i n e) f q;
      }

  -- a node with a block enters some funclet
  enters_some : (i : ℕ) (n : Node) (b : ℕ) → at z i ≡ some n → b ∈ blocks i → (f : ℕ) × Enters i f
  unfolding blocks_of part_of
  enters_some i n b e m = go n.funclet refl (subst (λ (x : Node). b ∈ part_of g fs x.funclet) (node_at_law i n e) m)
    where
      go : (o : Option ℕ) → n.funclet ≡ o → b ∈ part_of g fs o → (f : ℕ) × Enters i f
      go none q k = absurd (none_in k)
      go (some f) q k = (f, enters_at i n f e q)

  in_part : (i f b : ℕ) → Enters i f → b ∈ blocks i → Reach g rs f (block_of g f) b
  in_part i f b x m = Parts.in_part g rs z new unwinds sound i f x.inside x.enters x.begins b m

  pub guarded_down : (b : ℕ) → Guarded g' rs b → Guarded g rs b
  guarded_down b x =
      let h : Built g b = Parts.down g rs z new unwinds sound b x.built in
      let s : first_of g' b ≡ first_of g b = Parts.old_first g rs z new unwinds sound b h.exists in
      record {
        built = h;
        keeps = ap (λ (t : TableEntry). t.keeps) (sym s) ∙ x.keeps;
        route = x.route;
        listed = x.listed;
        covers = record { from = rw s at x.covers.from; before = rw s at x.covers.before };
      }

  part_of_law : (i f b : ℕ) → Enters i f → b ∈ blocks i → Part g rs f b
  part_of_law i f b x m = record { entry = block_of g f; begins = x.begins; reach = in_part i f b x m }

  -- ---- ownership

  -- of two nodes that have a block, the original blocks of different funclets apart, one is the other
  one_owner : (i j : ℕ) (n m : Node) (b c : ℕ) → at z i ≡ some n → at z j ≡ some m → b ∈ blocks i → c ∈ blocks j → put i b ≡ put j c
      → ((f f' : ℕ) → Enters i f → Enters j f' → b ≡ c → f ≡ f') → i ≡ j
  one_owner i j n m b c en em mb mc e apart = go (first_or_later g rs z i) (first_or_later g rs z j)
    where
      go : (later g fs z i ≡ true) ⊎ (later g fs z i ≡ false) → (later g fs z j ≡ true) ⊎ (later g fs z j ≡ false) → i ≡ j
      go (inl l) k = clone_owner g rs z i j b c l mb mc e
      go (inr l) (inl k) = sym (clone_owner g rs z j i c b k mc mb (sym e))
      go (inr l) (inr k) =
          let x = enters_some i n b en mb in
          let y = enters_some j m c em mc in
          let same : b ≡ c = sym (place_first g rs z i b l) ∙ e ∙ place_first g rs z j c k in
          first_once g rs z i j y.0 l k (x.1.enters ∙ ap some (apart x.0 y.0 x.1 y.1 same)) y.1.enters

  -- an old block that an instance has is a block of the part itself
  pub record Old (i b y : ℕ) : Type 0 where
    pub funclet : ℕ
    pub node : Enters i funclet
    pub same : y ≡ b
    pub part : Part g rs funclet y

  old_part : (i : ℕ) (n : Node) (b y : ℕ) → at z i ≡ some n → b ∈ blocks i → y ≡ put i b → y < length g.blocks → Old i b y
  old_part i n b y en mb e h = go (first_or_later g rs z i)
    where
      go : (later g fs z i ≡ true) ⊎ (later g fs z i ≡ false) → Old i b y
      go (inl l) = absurd (omega (arith, e, h, later_above g rs z i b l))
      go (inr l) =
          let x = enters_some i n b en mb in
          let same : y ≡ b = e ∙ place_first g rs z i b l in
          record { funclet = x.0; node = x.1; same = same; part = subst (Part g rs x.0) (sym same) (part_of_law i x.0 b x.1 mb) }

  -- the entry of a node is one of its blocks
  entry_in : (i f : ℕ) → Enters i f → (block_of g f ∈ blocks i) × (entry i ≡ put i (block_of g f))
  entry_in i f x = (
    Parts.part_in g rs z new unwinds sound i f x.inside x.enters x.begins start,
    Parts.entry_is g rs z new unwinds sound i f x.inside x.enters x.begins,
  )

  -- ---- the laws of ownership

  pub owner : (i j : ℕ) (n m : Node) (y : ℕ) → at z i ≡ some n → at z j ≡ some m → y ∈ returns i → y ∈ returns j → i ≡ j
  owner i j n m y en em p q =
      let a = returns_mem g rs z i y p in
      let b = returns_mem g rs z j y q in
      one_owner i j n m a.0 b.0 en em a.1 b.1 (sym a.3 ∙ b.3)
      (λ f f' x x' same.
      milder.apart f f' b.0 x.named x'.named (subst (Part g rs f) same (part_of_law i f a.0 x a.1)) (part_of_law j f' b.0 x' b.1) b.2)

  pub unguarded : (i : ℕ) (n : Node) (y : ℕ) → at z i ≡ some n → y ∈ returns i → Guarded g' rs y → ⊥
  unguarded i n y en m x =
      let a = returns_mem g rs z i y m in
      let w = guarded_down y x in
      let o = old_part i n a.0 y en a.1 a.3 w.built.exists in
      milder.outside o.funclet y o.node.named o.part (subst (Returning g) (sym o.same) a.2) w

  -- a node's entry is no guarded block, and no return of a node that stands after it
  pub entry_guarded : (j f : ℕ) → Enters j f → Guarded g' rs (entry j) → ⊥
  entry_guarded j f x guarded =
      let w = guarded_down (entry j) guarded in
      let e = entry_in j f x in
      go w e.1 (first_or_later g rs z j)
    where
      go : Guarded g rs (entry j) → entry j ≡ put j (block_of g f) → (later g fs z j ≡ true) ⊎ (later g fs z j ≡ false) → ⊥
      go w e (inl l) = omega (arith, e, w.built.exists, later_above g rs z j (block_of g f) l)
      go w e (inr l) = milder.entries f (block_of g f) x.named x.begins (subst (Guarded g rs) (e ∙ place_first g rs z j (block_of g f) l) w)

  pub entry_return : (i j f : ℕ) (n m : Node) → at z i ≡ some n → at z j ≡ some m → Enters j f → entry j ∈ returns i → i ≡ j
  entry_return i j f n m en em x r =
      let a = returns_mem g rs z i (entry j) r in
      let e = entry_in j f x in
      one_owner i j n m a.0 (block_of g f) en em a.1 e.0 (sym a.3 ∙ e.1) (λ f₁ f₂ x₁ x₂ same. apart f₁ f₂ x₁ x₂ a.0 a.1 same)
    where
      apart : (f₁ f₂ : ℕ) → Enters i f₁ → Enters j f₂ → (b : ℕ) → b ∈ blocks i → b ≡ block_of g f → f₁ ≡ f₂
      apart f₁ f₂ x₁ x₂ b mb same =
          let s : some f₂ ≡ some f = sym x₂.enters ∙ x.enters in
          let f_is : f ≡ f₂ = cc in
          sym (reach_entry f₂ x₁.begins x₂.named (subst (λ (k : ℕ). Begins g k b) f_is (subst (Begins g f) (sym same) x.begins)) (in_part i f₁ b x₁ mb))

  -- the block of a handler that a node names
  pub record Lands (h : ℕ) : Type 0 where
    pub named : Handler rs h
    pub begins : Begins g h (block_of g h)

  pub lands_at : (i : ℕ) (n : Node) (d : Tagged UnwindEnd) (h : ℕ) → at z i ≡ some n → d ∈ n.ends → d.what ≡ handler h → Lands h
  lands_at i n d h en m e = record { named = (fits.fit i n en).handled d h m e; begins = handler_begins g n (node_ok i n en) d h m e }

  pub landing-guarded : (h : ℕ) → Lands h → Guarded g' rs (block_of g h) → ⊥
  landing-guarded h l x = milder.unguarded h (block_of g h) l.named l.begins (guarded_down (block_of g h) x)

  pub landing_return : (i h : ℕ) (n : Node) → at z i ≡ some n → Lands h → block_of g h ∈ returns i → ⊥
  landing_return i h n en l r =
      let a = returns_mem g rs z i (block_of g h) r in
      let o = old_part i n a.0 (block_of g h) en a.1 a.3 l.begins.built.exists in
      milder.unreached h (block_of g h) o.funclet l.named l.begins o.node.named o.part (subst (Returning g) (sym o.same) a.2)

  pub lands : (h : ℕ) → Lands h → ((first_of g' (block_of g h)).address ≡ h) × (Funclet rs h → ⊥)
  lands h l = ((Parts.begins_up g rs z new unwinds sound h (block_of g h) l.begins).address, milder.unnamed h (block_of g h) l.named l.begins)

  pub some_return : (i : ℕ) (n : Node) (f : ℕ) → at z i ≡ some n → n.funclet ≡ some f → (y : ℕ) × (y ∈ returns i)
  some_return i n f en q =
      let x = enters_at i n f en q in
      let r = milder.returns f (block_of g f) x.named x.begins in
      (put i r.0, mem_returns g rs z i r.0 (Parts.part_in g rs z new unwinds sound i f x.inside x.enters x.begins r.1) r.2)
