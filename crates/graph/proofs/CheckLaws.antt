-- Rows of checks.
--     checks-same                  they hang on f below n alone
--     checks_clear                 a row of checks that are clear is clear
--     checks_at                    each of a row that is clear is clear
--     each_append, each_flat       the checks of a list's members, part by part
-- Assumes nothing.
use mathlib.Core.Path.{◌≡◌, refl, ap, ◌∙◌}
use mathlib.Core.Logic.{⊎_elim}
use mathlib.Core.List.{List, [], ◌∷◌, ◌++◌}
use Prim.Native.Nat.{ℕ, zero, suc, ◌<◌}
use native.Mathlib.Nat.{eq-or-lt_of_le, le_of_suc-le-suc, not-suc-le-zero}
use native.Mathlib.Omega.{arith}
use Rattle.image.specs.Refusal.{Check, clear, refused, ◌then◌}
use Rattle.image.proofs.Checks.{then_left, then_right}
use Rattle.graph.specs.Fold.{flat, checks, check_each}

pub checks-same : (f g : ℕ → Check) (n : ℕ) → ((i : ℕ) → i < n → f i ≡ g i) → checks f n ≡ checks g n
unfolding checks
checks-same f g zero same = refl
checks-same f g (suc n) same = rw (checks-same f g n (λ i h. same i (omega arith)), same n (omega arith))

pub checks_clear : (f : ℕ → Check) (n : ℕ) → ((i : ℕ) → i < n → f i ≡ clear) → checks f n ≡ clear
unfolding checks
checks_clear f zero each = refl
checks_clear f (suc n) each = rw (checks_clear f n (λ i h. each i (omega arith)), each n (omega arith))

pub checks_at : (f : ℕ → Check) (n i : ℕ) → checks f n ≡ clear → i < n → f i ≡ clear
unfolding checks
checks_at f zero i h lt = absurd (not-suc-le-zero lt)
checks_at f (suc n) i h lt =
    ⊎_elim
    (λ same. rw same (then_right (checks f n) (f n) h))
    (λ less. checks_at f n i (then_left (checks f n) (f n) h) less)
    (eq-or-lt_of_le (le_of_suc-le-suc lt))

module _ (f : ℕ → Check) where
  pub each_append : (l k : List ℕ) → check_each f (l ++ k) ≡ (check_each f l then check_each f k)
  unfolding check_each
  each_append [] k = refl
  each_append (a ∷ l) k = regroup (f a) (each_append l k)
    where
      regroup : (c : Check) → check_each f (l ++ k) ≡ (check_each f l then check_each f k) → (c then check_each f (l ++ k)) ≡ (c then check_each f l then check_each f k)
      regroup clear e = e
      regroup (refused r) e = refl

  pub each_flat : (g : ℕ → List ℕ) (n : ℕ) → check_each f (flat g n) ≡ checks (λ (k : ℕ). check_each f (g k)) n
  unfolding flat checks check_each
  each_flat g zero = refl
  each_flat g (suc n) = each_append (flat g n) (g n) ∙ ap (λ (c : Check). c then check_each f (g n)) (each_flat g n)
