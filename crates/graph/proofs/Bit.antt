-- A number's binary digits, lowest first, and what the operations on words do to them.
--     bit x k                 digit k of x
--     bit_shift               what a shift and a remainder read
--     bit_or_law, bit_xor_law         a digit of an or, and of an exclusive or
--     bit_power_same, -other  the digits of a power of two
--     ones_bits, ones_none    `count_ones` counts the digits
--     ones_low                and those of the lowest k digits
--     trailing_bit            `trailing_zeros` finds the lowest digit that is set
--     bit_below               the digits of a number below a power of two
-- Assumes nothing.
use mathlib.Core.Path.{◌≡◌, refl, sym, ap, ◌∙◌}
use mathlib.Core.Bool.{Bool}
use Prim.Native.Nat.{ℕ, zero, suc, ◌+◌, ◌*◌, ◌/◌, ◌%◌, ◌^◌, ◌≤◌, ◌<◌, max, suc-le-suc}
use native.Mathlib.Nat.{one-mul, pow-suc, not-suc-le-zero, mod-lt}
use native.Mathlib.Numerals.{one-add, add-one}
use native.Mathlib.Omega.{arith}
use lib.Dec.{eqb, lit<}
use lib.Pow.{shr-shr, shl_exact, pow_pos, field, mod-mod-pow}
use lib.Bits.{bit_or, bit_xor, differ, or_step, xor_step}
use lib.Count.{ones, ones_step, count_trailing_zeros, under}
use Rattle.graph.specs.Fold.{count}
use Rattle.graph.proofs.FoldLaws.{count_add, count_same}

unfoldable pub bit : ℕ → ℕ → ℕ
bit x zero = x % 2
bit x (suc k) = bit (x / 2) k

pub bit_lt : (x k : ℕ) → bit x k < 2
unfolding bit
bit_lt x zero = omega arith
bit_lt x (suc k) = bit_lt (x / 2) k

pub bit_shift : (x k : ℕ) → x / 2 ^ k % 2 ≡ bit x k
unfolding bit
bit_shift x zero = omega arith
bit_shift x (suc k) = ap (λ (n : ℕ). n % 2) (ap (λ (n : ℕ). x / 2 ^ n) (sym (one-add k)) ∙ sym (shr-shr x 1 k)) ∙ bit_shift (x / 2) k

-- `1 << k` in 64 bits
pub one_shifted : (k : ℕ) → k < 64 → 1 * 2 ^ k % 2 ^ 64 ≡ 2 ^ k
one_shifted k h = shl_exact 1 k 64 (lit< tt) (omega arith) ∙ one-mul (2 ^ k)

pub bit_or_law : (a b k : ℕ) → bit (bit_or a b) k ≡ max (bit a k) (bit b k)
unfolding bit
bit_or_law a b zero = omega (arith, or_step a b)
bit_or_law a b (suc k) =
    let half : bit_or a b / 2 ≡ bit_or (a / 2) (b / 2) = omega (arith, or_step a b) in
    ap (λ (n : ℕ). bit n k) half ∙ bit_or_law (a / 2) (b / 2) k

differ_lt : (x y : ℕ) → x < 2 → y < 2 → differ x y < 2
differ_lt zero y hx hy = hy
differ_lt (suc x) zero hx hy = hx
differ_lt (suc x) (suc y) hx hy = differ_lt x y (omega arith) (omega arith)

pub bit_xor_law : (a b k : ℕ) → bit (bit_xor a b) k ≡ differ (bit a k) (bit b k)
unfolding bit
bit_xor_law a b zero = omega (arith, xor_step a b, differ_lt (a % 2) (b % 2) (omega arith) (omega arith))
bit_xor_law a b (suc k) =
    let half : bit_xor a b / 2 ≡ bit_xor (a / 2) (b / 2) =
    omega (arith, xor_step a b, differ_lt (a % 2) (b % 2) (omega arith) (omega arith)) in
    ap (λ (n : ℕ). bit n k) half ∙ bit_xor_law (a / 2) (b / 2) k

pub bit_zero : (k : ℕ) → bit 0 k ≡ 0
unfolding bit
bit_zero zero = refl
bit_zero (suc k) = bit_zero k

half_power : (j : ℕ) → 2 ^ suc j / 2 ≡ 2 ^ j
half_power j = omega (arith, pow-suc 2 j)

pub bit_power_same : (j : ℕ) → bit (2 ^ j) j ≡ 1
unfolding bit
bit_power_same zero = refl
bit_power_same (suc j) = ap (λ (n : ℕ). bit n j) (half_power j) ∙ bit_power_same j

pub bit_power_other : (j k : ℕ) → (k ≡ j → ⊥) → bit (2 ^ j) k ≡ 0
unfolding bit
bit_power_other zero zero ne = absurd (ne refl)
bit_power_other zero (suc k) ne = bit_zero k
bit_power_other (suc j) zero ne = omega (arith, pow-suc 2 j)
bit_power_other (suc j) (suc k) ne = ap (λ (n : ℕ). bit n k) (half_power j) ∙ bit_power_other j k (λ e. ne (ap suc e))

pub bit_below : (n x k : ℕ) → x < 2 ^ n → n ≤ k → bit x k ≡ 0
unfolding bit
bit_below zero x k h le = let z : x ≡ 0 = omega arith in rw z (bit_zero k)
bit_below (suc n) x zero h le = absurd (not-suc-le-zero le)
bit_below (suc n) x (suc k) h le = bit_below n (x / 2) k (omega (arith, pow-suc 2 n)) (omega arith)

-- ---- counts

digits : ℕ → ℕ → Bool
digits x k = eqb (bit x k) 1

first : (x : ℕ) → count (digits x) 1 ≡ x % 2
unfolding count digits bit
first x = cases (x % 2) refl
  where
    cases : (d : ℕ) → x % 2 ≡ d → count (digits x) 1 ≡ x % 2
    cases zero e = rw (e)
    cases (suc zero) e = rw (e)
    cases (suc (suc d)) e = absurd (omega arith)

pub ones_bits : (n x : ℕ) → x < 2 ^ n → ones x ≡ count (λ (k : ℕ). eqb (bit x k) 1) n
unfolding count digits bit ones
ones_bits zero x h = let z : x ≡ 0 = omega arith in rw z
ones_bits (suc n) x h =
    let rest = count_same (λ (k : ℕ). digits x (1 + k)) (digits (x / 2)) n (λ k lt. ap (digits x) (one-add k)) in
    let all = ap (count (digits x)) (sym (one-add n)) ∙ count_add (digits x) 1 n in
    omega (arith, ones_step x, ones_bits n (x / 2) (omega (arith, pow-suc 2 n)), first x)

pub ones_none : ones 0 ≡ 0
unfolding count
ones_none = ones_bits 0 0 (omega arith)

bit_low : (x k j : ℕ) → j < k → bit (x % 2 ^ k) j ≡ bit x j
unfolding bit
bit_low x zero j h = absurd (not-suc-le-zero h)
bit_low x (suc k) zero h = ap (λ (n : ℕ). x % 2 ^ n % 2) (sym (add-one k)) ∙ mod-mod-pow x k 1
bit_low x (suc k) (suc j) h = ap (λ (n : ℕ). bit n j) (ap (λ (n : ℕ). x % 2 ^ n / 2) (sym (add-one k)) ∙ field x k 1) ∙ bit_low (x / 2) k j (omega arith)

pub ones_low : (x k : ℕ) → ones (x % 2 ^ k) ≡ count (λ (j : ℕ). eqb (bit x j) 1) k
ones_low x k =
    ones_bits k (x % 2 ^ k) (mod-lt x (pow_pos k))
    ∙ count_same _ (λ (j : ℕ). eqb (bit x j) 1) k (λ j lt. ap (λ (n : ℕ). eqb n 1) (bit_low x k j lt))

-- ---- the lowest digit that is set

pub record Lowest (n x t : ℕ) : Type 0 where
  pub within : t < n
  pub here : bit x t ≡ 1
  pub none_below : (k : ℕ) → k < t → bit x k ≡ 0

pub trailing_bit : (n x : ℕ) → x < 2 ^ n → (x ≡ 0 → ⊥) → Lowest n x (count_trailing_zeros n x)
unfolding count_trailing_zeros bit
trailing_bit zero x h ne = absurd (ne (omega arith))
trailing_bit (suc n) x h ne = go (x % 2) refl (λ e. trailing_bit n (x / 2) (omega (arith, pow-suc 2 n)) (λ z. ne (omega arith)))
  where
    go : (d : ℕ) → x % 2 ≡ d → (d ≡ 0 → Lowest n (x / 2) (count_trailing_zeros n (x / 2))) → Lowest (suc n) x (under d (count_trailing_zeros n (x / 2)))
    go zero e rest = record { within = suc-le-suc (rest refl).within; here = (rest refl).here; none_below = λ k h. below k h }
      where
        below : (k : ℕ) → k < suc (count_trailing_zeros n (x / 2)) → bit x k ≡ 0
        below zero h = e
        below (suc k) h = (rest refl).none_below k (omega arith)
    go (suc d) e rest = record { within = omega arith; here = omega arith; none_below = λ k h. absurd (not-suc-le-zero h) }
