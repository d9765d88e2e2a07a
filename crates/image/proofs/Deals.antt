-- Children dealt to their parents in order: which of the flat list is whose.
--     total_front, total-within           sums: the first apart; one of them stands within all
--     length-zip, zip_at                  two lists, entry by entry
--     length-deal, deal_at                a list for each parent, a run of the flat list
--     length_dealt, dealt_at, dealt_in    how many children, and which child k is, where the counts add up
-- Assumes nothing.
use mathlib.Core.Path.{◌≡◌, refl, sym, ap, ◌∙◌}
use mathlib.Core.Logic.{⊎_elim}
use mathlib.Core.List.{List, [], ◌∷◌, map, zip_with}
use Prim.Native.Nat.{ℕ, zero, suc, ◌+◌, ◌<◌, ◌≤◌}
use native.Mathlib.Nat.{eq-or-lt_of_le, le_of_suc-le-suc}
use native.Mathlib.Omega.{arith}
use lib.ListN.{length, get_or, take, drop, length-drop}
use lib.Seq.{length-take-le, get_or-take, get_or-drop, drop-drop}
use Rattle.image.specs.Deal.{total, deal}

module _ (f : ℕ → ℕ) where
  pub total-within : (n r : ℕ) → r < n → total f r + f r ≤ total f n
  unfolding total
  total-within zero r h = absurd (omega arith)
  total-within (suc n) r h =
      ⊎_elim (λ same. rw same (omega arith)) (λ less. omega (arith, total-within n r less)) (eq-or-lt_of_le (le_of_suc-le-suc h))

pub total_front : (f : ℕ → ℕ) (n : ℕ) → total f (suc n) ≡ f 0 + total (λ (i : ℕ). f (suc i)) n
unfolding total
total_front f zero = omega arith
total_front f (suc n) = omega (arith, total_front f n)

module _ {A B C : Type 0} (f : A → B → C) where
  pub length-zip : (xs : List A) (ys : List B) → length xs ≡ length ys → length (zip_with f xs ys) ≡ length xs
  unfolding zip_with
  length-zip [] ys e = refl
  length-zip (x ∷ xs) [] e = sym e
  length-zip (x ∷ xs) (y ∷ ys) e = ap suc (length-zip xs ys (omega arith))

  pub zip_at : (xs : List A) (ys : List B) (i : ℕ) (a : A) (b : B) (c : C) → i < length xs → i < length ys → get_or (zip_with f xs ys) i c ≡ f (get_or xs i a) (get_or ys i b)
  unfolding zip_with
  zip_at [] ys i a b c h k = absurd (omega arith)
  zip_at (x ∷ xs) [] i a b c h k = absurd (omega arith)
  zip_at (x ∷ xs) (y ∷ ys) zero a b c h k = refl
  zip_at (x ∷ xs) (y ∷ ys) (suc i) a b c h k = zip_at xs ys i a b c (omega arith) (omega arith)

-- parents of P, of which p has g p children; past the last, the one that has none
module _ {A P : Type 0} (g : P → ℕ) (d : P) where
  pub length-deal : (ps : List P) (xs : List A) → length (deal (map g ps) xs) ≡ length ps
  unfolding deal
  length-deal [] xs = refl
  length-deal (p ∷ ps) xs = ap suc (length-deal ps (drop (g p) xs))

  module _ (none : g d ≡ 0) where
    pub deal_at : (ps : List P) (xs : List A) (r : ℕ) → get_or (deal (map g ps) xs) r [] ≡ take (g (get_or ps r d)) (drop (total (λ (i : ℕ). g (get_or ps i d)) r) xs)
    unfolding deal total
    deal_at [] xs r = rw none
    deal_at (p ∷ ps) xs zero = refl
    deal_at (p ∷ ps) xs (suc r) =
        rw (total_front (λ (i : ℕ). g (get_or (p ∷ ps) i d)) r)
        (deal_at ps (drop (g p) xs) r ∙ ap (take (g (get_or ps r d))) (drop-drop _ (g p) xs))

    module _ (ps : List P) (xs : List A) where
      pub dealt_at : (r k : ℕ) (e : A) → k < g (get_or ps r d) → get_or (get_or (deal (map g ps) xs) r []) k e ≡ get_or xs (total (λ (i : ℕ). g (get_or ps i d)) r + k) e
      dealt_at r k e h = rw (deal_at ps xs r, get_or-take _ _ k e h, get_or-drop)

      module _ (adds : total (λ (i : ℕ). g (get_or ps i d)) (length ps) ≡ length xs) (r : ℕ) (h : r < length ps) where
        pub dealt_in : total (λ (i : ℕ). g (get_or ps i d)) r + g (get_or ps r d) ≤ length xs
        dealt_in = omega (arith, total-within (λ (i : ℕ). g (get_or ps i d)) (length ps) r h)

        pub length_dealt : length (get_or (deal (map g ps) xs) r []) ≡ g (get_or ps r d)
        length_dealt = rw (deal_at ps xs r) (length-take-le _ _ (rw length-drop (omega (arith, dealt_in))))
