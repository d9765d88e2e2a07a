-- What holds of each member of a list.
--     Each                       P holds of each
--     each_append, each_flat     of two lists, and of many
--     each_table                 of f 0, f 1, .. below n
--     each_cond                  of one list or the other, as a test says
--     each_take, each_drop       of a part
--     each_of, each_in           by their numbers; each_at: past the end too
--     each_all, each_most        a test of all their numbers; a bound
-- Assumes nothing.
use mathlib.Core.Path.{◌≡◌, refl}
use mathlib.Core.Bool.{Bool, true, false, cond}
use mathlib.Core.List.{List, [], ◌∷◌, ◌++◌}
use Prim.Native.Nat.{ℕ, zero, suc, ◌≤◌, ◌<◌}
use native.Mathlib.Omega.{arith}
use borrow.Author.Tests.{le-leb}
use lib.Dec.{leb}
use lib.ListN.{length, get_or, take, drop}
use Rattle.image.specs.Image.{table}
use Rattle.graph.specs.Fold.{flat, all}
use Rattle.graph.proofs.RuleLaws.{all_from}

abbrev pub Each : {A : Type 0} → (A → Type 0) → List A → Type 0
Each P [] = Unit {0}
Each P (x ∷ l) = P x × Each P l

module _ {A : Type 0} (P : A → Type 0) where
  pub each_append : (l k : List A) → Each P l → Each P k → Each P (l ++ k)
  each_append [] k hl hk = hk
  each_append (x ∷ l) k hl hk = (hl.0, each_append l k hl.1 hk)

  pub each_flat : (f : ℕ → List A) (n : ℕ) → ((i : ℕ) → i < n → Each P (f i)) → Each P (flat f n)
  unfolding flat
  each_flat f zero each = tt
  each_flat f (suc n) each = each_append (flat f n) (f n) (each_flat f n (λ i h. each i (omega arith))) (each n (omega arith))

  pub each_table : (f : ℕ → A) (n : ℕ) → ((i : ℕ) → P (f i)) → Each P (table f n)
  unfolding table
  each_table f zero each = tt
  each_table f (suc n) each = each_append (table f n) (f n ∷ []) (each_table f n each) (each n, tt)

  pub each_cond : (b : Bool) (l k : List A) → (b ≡ true → Each P l) → (b ≡ false → Each P k) → Each P (cond b l k)
  each_cond true l k yes' no' = yes' refl
  each_cond false l k yes' no' = no' refl

  pub each_take : (n : ℕ) (l : List A) → Each P l → Each P (take n l)
  each_take zero l each = tt
  each_take (suc n) [] each = tt
  each_take (suc n) (x ∷ l) each = (each.0, each_take n l each.1)

  pub each_drop : (n : ℕ) (l : List A) → Each P l → Each P (drop n l)
  each_drop zero l each = each
  each_drop (suc n) [] each = tt
  each_drop (suc n) (x ∷ l) each = each_drop n l each.1

  module _ (d : A) where
    pub each_of : (l : List A) → ((i : ℕ) → i < length l → P (get_or l i d)) → Each P l
    each_of [] each = tt
    each_of (x ∷ l) each = (each zero (omega arith), each_of l (λ i h. each (suc i) (omega arith)))

    pub each_in : (l : List A) (i : ℕ) → Each P l → i < length l → P (get_or l i d)
    each_in [] i each h = absurd (omega arith)
    each_in (x ∷ l) zero each h = each.0
    each_in (x ∷ l) (suc i) each h = each_in l i each.1 (omega arith)

    pub each_at : (l : List A) (i : ℕ) → Each P l → P d → P (get_or l i d)
    each_at [] i each past = past
    each_at (x ∷ l) zero each past = each.0
    each_at (x ∷ l) (suc i) each past = each_at l i each.1 past

    pub each_all : (f : A → Bool) → ((x : A) → P x → f x ≡ true) → (l : List A) → Each P l → all (λ (i : ℕ). f (get_or l i d)) (length l) ≡ true
    unfolding all
    each_all f holds l each = all_from (λ (i : ℕ). f (get_or l i d)) 0 (length l) (omega arith) refl (λ i le h. holds (get_or l i d) (each_in l i each h))

pub each_most : {A : Type 0} (f : A → ℕ) (n : ℕ) (d : A) (l : List A) → Each (λ (x : A). f x ≤ n) l → all (λ (i : ℕ). leb (f (get_or l i d)) n) (length l) ≡ true
each_most f n d l each = each_all (λ x. f x ≤ n) d (λ x. leb (f x) n) (λ x h. le-leb (f x) n h) l each
