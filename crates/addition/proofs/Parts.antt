-- The part of an instance, read in the graph after the addition, is the image of the funclet's part; its returning blocks
-- are the images of the returning ones.
--     begins_down, begins_up       the built block that begins at an address, before and after
--     in_part, part_in             the blocks of a node are those reached from its funclet's entry
--     part_forth, part_back        the part of the instance
--     enter_address                an instance's entry names its funclet
--     returns_forth, returns_back  where a walk that entered the instance goes on
use mathlib.Core.Path.{◌≡◌, refl, sym, ◌∙◌, ap, subst}
use mathlib.Core.Logic.{◌⊎◌, inl, inr}
use mathlib.Core.Bool.{true, false}
use mathlib.Core.List.{List, ◌++◌}
use mathlib.Core.Option.{some}
use Prim.Native.Nat.{ℕ, ◌<◌}
use native.Mathlib.Decide.{ℕ_discrete}
use native.Mathlib.Omega.{arith}
use lib.ListN.{length}
use Rattle.image.specs.Deal.{UnwindRoute}
use Rattle.graph.specs.declared.record.TableEntry.{TableEntry}
use Rattle.graph.specs.declared.record.Edge.{Edge}
use Rattle.graph.specs.Graph.{Graph}
use Rattle.graph.specs.Flow.{Kind}
use Rattle.addition.specs.Blocks.{first_of, last_of, block_of}
use Rattle.addition.specs.Part.{funclets}
use Rattle.addition.specs.Trie.{Node, node_at}
use Rattle.addition.specs.Instance.{entry_block, blocks_of, later, place, moved, entry_of, returns_of, clone_blocks, clone_edges}
use Rattle.addition.specs.Walk.{◌∈◌, Built, Begins, Other, Reach, start, step, Returning, by_return, by_jump}
use Rattle.addition.proofs.Sound.{Sound}
use Rattle.addition.proofs.Closure.{part_reach, reach_part}
use Rattle.addition.proofs.Instance.{first_or_later, blocks_part, place_first, later_above, moved_in, moved_either, mem_returns, returns_mem}
use Rattle.addition.proofs.After.{built_up, built_down, old_block, same_first, same_last, after, image_block, out_forth, out_back}

module _ (g : Graph) (rs : List UnwindRoute) (z : List Node) (new : List Edge) (unwinds : (d : Edge) → d ∈ new → d.kind ≡ Kind.exception_unwind) (sound : Sound g) where
  abbrev fs : List ℕ
  fs = funclets rs

  abbrev g' : Graph
  g' = after g rs z new unwinds sound

  pub down : (b : ℕ) → Built g' b → Built g b
  down = built_down g (clone_blocks g fs z) (clone_edges g fs z ++ new) sound

  pub up : (b : ℕ) → Built g b → Built g' b
  up = built_up g (clone_blocks g fs z) (clone_edges g fs z ++ new)

  pub old_first : (b : ℕ) → b < length g.blocks → first_of g' b ≡ first_of g b
  old_first b h = same_first g (clone_blocks g fs z) (clone_edges g fs z ++ new) b b (old_block g (clone_blocks g fs z) (clone_edges g fs z ++ new) b h)

  pub begins_down : (a b : ℕ) → Begins g' a b → Begins g a b
  begins_down a b x =
      let h = down b x.built in
      record { built = h; address = ap (λ (t : TableEntry). t.address) (sym (old_first b h.exists)) ∙ x.address }

  pub begins_up : (a b : ℕ) → Begins g a b → Begins g' a b
  begins_up a b x =
      record { built = up b x.built; address = ap (λ (t : TableEntry). t.address) (old_first b x.built.exists) ∙ x.address }

  other_down : (f b : ℕ) → Other g' rs f b → Other g rs f b
  other_down f b x = record { funclet = x.funclet; named = x.named; another = x.another; begins = begins_down _ b x.begins }

  other_up : (f b : ℕ) → Other g rs f b → Other g' rs f b
  other_up f b x = record { funclet = x.funclet; named = x.named; another = x.another; begins = begins_up _ b x.begins }

  -- one node that enters funclet f
  module _ (i f : ℕ) (h : i < length z) (enters : (node_at z i).funclet ≡ some f) (begins : Begins g f (block_of g f)) where
    abbrev entry : ℕ
    entry = block_of g f

    abbrev put : ℕ → ℕ
    put = place g fs z i

    abbrev blocks : List ℕ
    blocks = blocks_of g fs z i

    pub in_part : (b : ℕ) → b ∈ blocks → Reach g rs f entry b
    in_part b m = part_reach g rs f entry b (subst (λ (l : List ℕ). b ∈ l) (blocks_part g rs z i f enters) m)

    pub part_in : {b : ℕ} → Reach g rs f entry b → b ∈ blocks
    part_in {b} r =
        subst (λ (l : List ℕ). b ∈ l) (sym (blocks_part g rs z i f enters))
        (reach_part g rs f entry sound.targets begins.built.exists r)

    pub part_forth : {y : ℕ} → Reach g' rs f (put entry) y → (b : ℕ) × (b ∈ blocks) × (y ≡ put b)
    part_forth start = (entry, part_in start, refl)
    part_forth (step {b = x} {c = y} r d there from to u k o) =
        let below = part_forth r in
        let b : ℕ = below.0 in
        let out = out_forth g rs z new unwinds sound i b below.1 d there (from ∙ below.2) u in
        let d₀ : Edge = out.0 in
        let t : ℕ = d₀.target in
        let kind : d.kind ≡ d₀.kind = out.1.kind in
        let to_t : y ≡ moved g fs z i t = sym to ∙ out.1.to in
        let stays : (moved g fs z i t ≡ t) → t ∈ blocks =
        λ e. part_in (step (in_part b below.1) d₀ out.1.stood out.1.from refl (λ p. u (kind ∙ p)) (λ p. k (kind ∙ p))
        (λ q. o (subst (Other g' rs f) (sym (to_t ∙ e)) (other_up f t q)))) in
        let in_t : t ∈ blocks = elim (moved_either g rs z i t) [ inl m ↦ m | inr e ↦ stays e ] in
        (t, in_t, to_t ∙ moved_in g rs z i t in_t)

    -- no image of a block of the part bars the way
    open' : (c : ℕ) → (Other g rs f c → ⊥) → Other g' rs f (put c) → ⊥
    open' c o x = go (first_or_later g rs z i)
      where
        go : (later g fs z i ≡ true) ⊎ (later g fs z i ≡ false) → ⊥
        go (inl l) = omega (arith, (other_down f (put c) x).begins.built.exists, later_above g rs z i c l)
        go (inr l) = o (other_down f c (subst (Other g' rs f) (place_first g rs z i c l) x))

    pub part_back : {b : ℕ} → Reach g rs f entry b → Reach g' rs f (put entry) (put b)
    part_back start = start
    part_back (step {b = b} {c = c} r d₀ there from to u k o) =
        let in_c : c ∈ blocks = part_in (step r d₀ there from to u k o) in
        let out = out_back g rs z new unwinds sound i b h (part_in r) d₀ there from in
        let d : Edge = out.0 in
        let kind : d.kind ≡ d₀.kind = out.1.kind in
        step (part_back r) d out.1.there out.1.from (out.1.to ∙ ap (moved g fs z i) to ∙ moved_in g rs z i c in_c)
        (λ p. u (sym kind ∙ p)) (λ p. k (sym kind ∙ p)) (open' c o)

    -- ---- returning blocks

    image_last : (b : ℕ) → b ∈ blocks → last_of g' (put b) ≡ last_of g b
    image_last b m = same_last g (clone_blocks g fs z) (clone_edges g fs z ++ new) (put b) b (image_block g rs z new unwinds sound i b h m)

    returning_down : (b : ℕ) → b ∈ blocks → Returning g' (put b) → Returning g b
    returning_down b m (by_return p) = by_return (ap (λ (t : TableEntry). t.flow) (sym (image_last b m)) ∙ p)
    returning_down b m (by_jump p kinds) =
        by_jump (ap (λ (t : TableEntry). t.flow) (sym (image_last b m)) ∙ p)
        (λ d₀ there from.
        let out = out_back g rs z new unwinds sound i b h m d₀ there from in
        let kind : out.0.kind ≡ d₀.kind = out.1.kind in
        elim (kinds out.0 out.1.there out.1.from) [ inl e ↦ inl (sym kind ∙ e) | inr e ↦ inr (sym kind ∙ e) ])

    returning_up : (b : ℕ) → b ∈ blocks → Returning g b → Returning g' (put b)
    returning_up b m (by_return p) = by_return (ap (λ (t : TableEntry). t.flow) (image_last b m) ∙ p)
    returning_up b m (by_jump p kinds) = by_jump (ap (λ (t : TableEntry). t.flow) (image_last b m) ∙ p) kinds'
      where
        kinds' : (d : Edge) → d ∈ g'.edges → d.source ≡ put b → (d.kind ≡ Kind.exception_unwind) ⊎ (d.kind ≡ Kind.call)
        kinds' d there from =
            elim (ℕ_discrete d.kind Kind.exception_unwind) [
              | yes e ↦ inl e
              | no n ↦
                  let out = out_forth g rs z new unwinds sound i b m d there from n in
                  let kind : d.kind ≡ out.0.kind = out.1.kind in
                  elim (kinds out.0 out.1.stood out.1.from) [ inl e ↦ inl (kind ∙ e) | inr e ↦ inr (kind ∙ e) ]
            ]

    -- ---- the instance

    pub entry_is : entry_of g fs z i ≡ put entry
    unfolding entry_of entry_block
    entry_is = rw enters

    pub enter_address : (first_of g' (entry_of g fs z i)).address ≡ f
    enter_address =
        ap (λ (x : ℕ). (first_of g' x).address) entry_is
        ∙ ap (λ (t : TableEntry). t.address) (same_first g (clone_blocks g fs z) (clone_edges g fs z ++ new) (put entry) entry (image_block g rs z new unwinds sound i entry h (part_in start)))
        ∙ begins.address

    pub returns_forth : {y : ℕ} → Reach g' rs f (entry_of g fs z i) y → Returning g' y → y ∈ returns_of g fs z i
    returns_forth {y} r ret =
        let x = part_forth (subst (λ (e : ℕ). Reach g' rs f e y) entry_is r) in
        subst (λ (k : ℕ). k ∈ returns_of g fs z i) (sym x.2)
        (mem_returns g rs z i x.0 x.1 (returning_down x.0 x.1 (subst (Returning g') x.2 ret)))

    pub returns_back : (y : ℕ) → y ∈ returns_of g fs z i → Reach g' rs f (entry_of g fs z i) y × Returning g' y
    returns_back y m =
        let x = returns_mem g rs z i y m in (
          subst (λ (e : ℕ). Reach g' rs f e y) (sym entry_is) (subst (Reach g' rs f (put entry)) (sym x.3) (part_back (in_part x.0 x.1))),
          subst (Returning g') (sym x.3) (returning_up x.0 x.1 x.2),
        )
