-- The first node of each funclet, by the table of firsts.
--     slot_is, slot_here, slot_in_law  the slot of a funclet by its entry, and it is one of the blocks or of the roots
--     firsts_none                  the table of no node
--     late_lt, late_none, late_like, firsts_late     a node whose slot has a first, and the table with it
--     none_yet, firsts_more        a node whose slot has none, and the table with it
-- Assumes nothing.
use mathlib.Core.Path.{◌≡◌, refl, sym, ap, ◌∙◌}
use mathlib.Core.Bool.{true, false}
use mathlib.Core.Logic.{⊎_elim}
use mathlib.Core.List.{List}
use mathlib.Core.Option.{Option, none, some}
use Prim.Native.Nat.{ℕ, zero, suc, ◌+◌, ◌-◌, ◌≤◌, ◌<◌}
use native.Mathlib.Nat.{not-suc-le-zero}
use native.Mathlib.Decide.{ℕ_discrete}
use native.Mathlib.Omega.{arith}
use borrow.Author.Tests.{eq-eqb}
use lib.ListN.{length, get_or, set, replicate, length-set, get_or-replicate}
use lib.Seq.{get_or-set_same, get_or-set_other}
use Rattle.image.specs.Refusal.{clear}
use Rattle.image.specs.Image.{RouteImage}
use Rattle.graph.specs.Graph.{Graph}
use Rattle.graph.specs.Fold.{some as any}
use Rattle.graph.proofs.FoldLaws.{decided, some_where}
use Rattle.addition.specs.Blocks.{block_of, first_of}
use Rattle.addition.specs.Trie.{same_funclet}
use Rattle.addition.specs.Instance.{entry_block}
use Rattle.addition.specs.Add.{funclet_check}
use Rattle.addition.proofs.Accepted.{lead_begins}
use Rattle.unwind.specs.Nodes.{record_in, funclet_in}
use Rattle.unwind.specs.Placed.{funclet_at, like, slot_of, Firsts}
use Rattle.unwind.proofs.PlaceLaws.{same_eq}

-- ---- slots

pub slot_is : (g : Graph) (m : RouteImage) (f e r : ℕ) → e ≡ entry_block g (funclet_in m f) → (f ≡ 0 → r ≡ 0) → ((f ≡ 0 → ⊥) → r ≡ e + 1) → r ≡ slot_of g (funclet_in m f)
unfolding slot_of funclet_in entry_block
slot_is g m zero e r is root named = root refl
slot_is g m (suc f) e r is root named = named (λ z. absurd (let p : ◌≡◌ {A = ℕ} (suc f) 0 = z in omega arith)) ∙ ap (λ (k : ℕ). k + 1) is

-- the slot of node i, by what is read of it
pub slot_here : (g : Graph) (m : RouteImage) (nodes : List ℕ) (i : ℕ) {f e s : ℕ} → f ≡ (record_in nodes i).funclet → e ≡ entry_block g (funclet_at m nodes i) → (f ≡ 0 → s ≡ 0) → ((f ≡ 0 → ⊥) → s ≡ e + 1) → s ≡ slot_of g (funclet_at m nodes i)
slot_here g m nodes i {f} {e} {s} is entry root named =
    slot_is g m f e s (entry ∙ ap (λ (k : ℕ). entry_block g (funclet_in m k)) (sym is)) root named ∙ ap (λ (k : ℕ). slot_of g (funclet_in m k)) is

pub slot_in_law : (g : Graph) (o : Option ℕ) → funclet_check g o ≡ clear → slot_of g o ≤ length g.blocks
unfolding slot_of funclet_check
slot_in_law g none leads = omega arith
slot_in_law g (some f) leads = omega (arith, (lead_begins g f leads).built.exists)

-- a block begins at one address
slot_same : (g : Graph) (a b : Option ℕ) → funclet_check g a ≡ clear → funclet_check g b ≡ clear → slot_of g a ≡ slot_of g b → same_funclet a b ≡ true
unfolding slot_of funclet_check same_funclet
slot_same g none none p q e = refl
slot_same g none (some b) p q e = absurd (omega arith)
slot_same g (some a) none p q e = absurd (omega arith)
slot_same g (some a) (some b) p q e =
    let block : block_of g a ≡ block_of g b = omega arith in
    eq-eqb a b (sym (lead_begins g a p).address ∙ ap (λ (k : ℕ). (first_of g k).address) block ∙ (lead_begins g b q).address)

-- ---- the table

module _ (g : Graph) (m : RouteImage) (nodes firsts : List ℕ) where
  pub firsts_none : length g.blocks < length firsts → firsts ≡ replicate (length firsts) 0 → Firsts g m nodes firsts 0
  firsts_none room zeros =
      record {
        room = room;
        first_is = λ s i h e. let z = ap (λ (l : List ℕ). get_or l s 0) zeros ∙ get_or-replicate {A = ℕ} (length firsts) s 0 0 h in absurd (omega arith);
        none_before = λ i h. absurd (not-suc-le-zero h);
      }

  module _ (i s v : ℕ) (is : s ≡ slot_of g (funclet_at m nodes i)) (v_is : v ≡ get_or firsts s 0) (leads : (j : ℕ) → j ≤ i → funclet_check g (funclet_at m nodes j) ≡ clear) (f : Firsts g m nodes firsts i) where
    slot_lt : s < length firsts
    slot_lt = omega (arith, is, slot_in_law g (funclet_at m nodes i) (leads i (omega arith)), f.room)

    -- none before k has the funclet of node i, if the slot tells so
    none_to : (k : ℕ) → k ≤ i → ((j : ℕ) → j < k → (0 < v) × (v ≤ j + 1) → ⊥) → any (like m nodes i) k ≡ false
    none_to k le out =
        ⊎_elim
        (λ yes.
        let w = some_where (like m nodes i) k yes in
        let same : slot_of g (funclet_at m nodes w.0) ≡ s = ap (slot_of g) (same_eq (funclet_at m nodes w.0) (funclet_at m nodes i) w.2) ∙ sym is in
        absurd (out w.0 w.1 (rw (same, sym v_is) at (f.none_before w.0 (omega (arith, w.1))))))
        (λ no. no)
        (decided (any (like m nodes i) k))

    -- ---- a node whose slot has a first

    module _ (some_first : v ≡ 0 → ⊥) where
      first_at : (v - 1 < i) × (slot_of g (funclet_at m nodes (v - 1)) ≡ s)
      first_at = f.first_is s (v - 1) slot_lt (omega (arith, v_is))

      pub late_lt : v - 1 < i
      late_lt = first_at.0

      pub late_none : any (like m nodes i) (v - 1) ≡ false
      late_none = none_to (v - 1) (omega (arith, late_lt)) (λ j h w. omega (arith, w.1))

      pub late_like : like m nodes i (v - 1) ≡ true
      late_like = slot_same g (funclet_at m nodes (v - 1)) (funclet_at m nodes i) (leads (v - 1) (omega (arith, late_lt))) (leads i (omega arith)) (first_at.1 ∙ is)

      pub firsts_late : Firsts g m nodes firsts (i + 1)
      firsts_late =
          record {
            room = f.room;
            first_is = λ t j h e. let w = f.first_is t j h e in (omega (arith, w.0), w.1);
            none_before = λ j h.
                elim (ℕ_discrete j i) [
                  | yes same ↦ rw (same, sym is, sym v_is) (omega arith, omega (arith, late_lt))
                  | no ne ↦ f.none_before j (omega arith)
                ];
          }

    -- ---- a node whose slot has none

    module _ (no_first : v ≡ 0) where
      pub none_yet : any (like m nodes i) i ≡ false
      none_yet = none_to i (omega arith) (λ j h w. omega (arith, w.0))

      pub firsts_more : Firsts g m nodes (set firsts s (i + 1)) (i + 1)
      firsts_more =
          record {
            room = rw (length-set firsts s (i + 1)) f.room;
            first_is = λ t j h e.
                elim (ℕ_discrete t s) [
                  | yes same ↦ let here : j ≡ i = omega (arith, rw same at e, get_or-set_same firsts s (i + 1) 0 slot_lt) in (omega arith, rw (here, same) (sym is))
                  | no ne ↦ let w = f.first_is t j (rw (length-set firsts s (i + 1)) at h) (sym (get_or-set_other firsts s t (i + 1) 0 ne) ∙ e) in (omega (arith, w.0), w.1)
                ];
            none_before = λ j h.
                elim (ℕ_discrete (slot_of g (funclet_at m nodes j)) s) [
                  | yes same ↦
                      let here = get_or-set_same firsts s (i + 1) 0 slot_lt in
                      elim (ℕ_discrete j i) [
                        | yes itself ↦ rw (same, here) (omega arith, omega arith)
                        | no ne ↦ let w = rw same at (f.none_before j (omega arith)) in absurd (omega (arith, v_is, w.0))
                      ]
                  | no ne ↦ rw (get_or-set_other firsts s (slot_of g (funclet_at m nodes j)) (i + 1) 0 ne) (f.none_before j (omega (arith, differs j ne)))
                ];
          }
        where
          differs : (j : ℕ) → (slot_of g (funclet_at m nodes j) ≡ s → ⊥) → (j ≡ i → ⊥)
          differs j ne e = ne (ap (λ (k : ℕ). slot_of g (funclet_at m nodes k)) e ∙ sym is)
