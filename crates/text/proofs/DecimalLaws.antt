-- Decimal digits.
--     decimal_small     a number below ten
--     decimal-more      a greater one: its last digit behind the others
--     decimal-some      there is a digit
--     decimal_step      one more than a tenth has
--     decimal-length    how many digits hold a number
--     decimal-word      twenty hold a word
-- Assumes nothing.
use mathlib.Core.Path.{◌≡◌, refl}
use mathlib.Core.Logic.{⊎_elim}
use mathlib.Core.List.{[], ◌∷◌, ◌++◌}
use Prim.Native.Nat.{ℕ, zero, suc, ◌+◌, ◌-◌, ◌/◌, ◌%◌, ◌^◌, ◌≤◌, ◌<◌}
use native.Mathlib.Nat.{not-suc-le-zero, pow-suc}
use native.Mathlib.Omega.{arith}
use borrow.Author.Tests.{ltb-true, ltb-false}
use lib.Dec.{ltb}
use lib.ListN.{length, length-append}
use Rattle.graph.proofs.FoldLaws.{decided}
use Rattle.text.specs.Line.{digits_of, decimal}

-- the count of digits does not matter where it is enough
digits_any : (k j q d : ℕ) → q ≤ k → q ≤ j → digits_of k q d ≡ digits_of j q d
unfolding digits_of
digits_any zero zero q d h i = refl
digits_any zero (suc j) zero d h i = refl
digits_any zero (suc j) (suc q) d h i = absurd (not-suc-le-zero h)
digits_any (suc k) zero zero d h i = refl
digits_any (suc k) zero (suc q) d h i = absurd (not-suc-le-zero i)
digits_any (suc k) (suc j) zero d h i = refl
digits_any (suc k) (suc j) (suc q) d h i = rw (digits_any k j (suc q / 10) (suc q % 10) (omega arith) (omega arith))

pub decimal_small : (n : ℕ) → n < 10 → decimal n ≡ (48 + n) ∷ []
unfolding decimal digits_of
decimal_small zero h = refl
decimal_small (suc n) h =
    let none : suc n / 10 ≡ 0 = omega arith in
    let all : suc n % 10 ≡ suc n = omega arith in
    rw (none, all)

more : (n q : ℕ) → n / 10 ≡ suc q → decimal n ≡ decimal (n / 10) ++ ((48 + n % 10) ∷ [])
unfolding decimal digits_of
more zero q e = absurd (omega arith)
more (suc n) q e = rw (e, digits_any n (suc q) (suc q / 10) (suc q % 10) (omega arith) (omega arith))

pub decimal-more : (n : ℕ) → 10 ≤ n → decimal n ≡ decimal (n / 10) ++ ((48 + n % 10) ∷ [])
decimal-more n h = more n (n / 10 - 1) (omega arith)

pub decimal-some : (n : ℕ) → 0 < length (decimal n)
decimal-some n =
    ⊎_elim
    (λ e. rw (decimal_small n (ltb-true n 10 e)) (omega arith))
    (λ e. rw (decimal-more n (ltb-false n 10 e)) (simp length-append (omega arith)))
    (decided (ltb n 10))

pub decimal_step : (n : ℕ) → 10 ≤ n → length (decimal n) ≡ length (decimal (n / 10)) + 1
decimal_step n h = rw (decimal-more n h) (simp length-append)

pub decimal-length : (k n : ℕ) → n < 10 ^ suc k → length (decimal n) ≤ suc k
decimal-length zero n h = rw (decimal_small n h) (omega arith)
decimal-length (suc k) n h =
    ⊎_elim
    (λ e. rw (decimal_small n (ltb-true n 10 e)) (omega arith))
    (λ e. rw (decimal-more n (ltb-false n 10 e)) (simp length-append (omega (arith, decimal-length k (n / 10) (omega (arith, pow-suc 10 (suc k)))))))
    (decided (ltb n 10))

pub decimal-word : (n : ℕ) → n < 2 ^ 64 → length (decimal n) ≤ 20
decimal-word n h = decimal-length 19 n (omega arith)
