-- Blocks taken one after the other, from the lowest on, without taking them out of the set.
--     none_past                a block past all
--     next_here, rest-none     what is left of the word that a block stands in
--     left_from, left-all       a set without the blocks below one; left_long, left_in, left_out
--     left_lowest, left-none   its lowest block is the lowest from there on
--     left_next, left_less     what is left behind that
-- Assumes nothing.
use mathlib.Core.Path.{◌≡◌, refl, sym, ap, ◌∙◌}
use mathlib.Core.Bool.{Bool, true, false}
use mathlib.Core.List.{List}
use Prim.Native.Nat.{ℕ, zero, suc, ◌+◌, ◌-◌, ◌*◌, ◌/◌, ◌%◌, ◌^◌, ◌≤◌, ◌<◌}
use native.Mathlib.Decide.{dec_lt, ℕ_discrete}
use native.Mathlib.Omega.{arith}
use borrow.Author.Tests.{eq-eqb, ne_eqb}
use lib.Count.{count_trailing_zeros}
use lib.Dec.{eqb}
use lib.ListN.{length, get_or}
use lib.Pow.{shr-shr}
use Rattle.graph.specs.BlockSet.{member, excluding, size_of, LowestOf, LowestFrom}
use Rattle.std.proofs.Common.{Some, None}
use Rattle.graph.proofs.Bit.{bit, bit_shift, bit_zero, bit_below, trailing_bit}
use Rattle.graph.proofs.BlockLaws.{member_at, excluding-none, member-excluding, length-excluding, size-excluding}

-- a block past all that there are
pub none_past : (w : List ℕ) (past : ℕ) → ((b : ℕ) → member w b ≡ true → b < past) → (c : ℕ) → past ≤ c → member w c ≡ false
none_past w past below c ge = cases (member w c) refl
  where
    cases : (t : Bool) → member w c ≡ t → t ≡ false
    cases false e = refl
    cases true e = absurd (omega (arith, below c e))

-- ---- the word of block n, from n on

bit_rest : (x s k : ℕ) → bit (x / 2 ^ s) k ≡ bit x (s + k)
bit_rest x s k = sym (bit_shift (x / 2 ^ s) k) ∙ ap (λ (v : ℕ). v % 2) (shr-shr x s k) ∙ bit_shift x (s + k)

module _ (w : List ℕ) (n : ℕ) where
  -- digit k of what is left of the word
  rest_at : (k : ℕ) → n % 64 + k < 64 → member w (n + k) ≡ eqb (bit (get_or w (n / 64) 0 / 2 ^ (n % 64)) k) 1
  rest_at k h =
      let place : n + k ≡ 64 * (n / 64) + (n % 64 + k) = omega arith in
      rw place (member_at w (n / 64) (n % 64 + k) h) ∙ ap (λ (d : ℕ). eqb d 1) (sym (bit_rest (get_or w (n / 64) 0) (n % 64) k))

  pub rest-none : get_or w (n / 64) 0 / 2 ^ (n % 64) ≡ 0 → (c : ℕ) → n ≤ c → c < 64 * (n / 64 + 1) → member w c ≡ false
  rest-none z c ge lt =
      let e : n + (c - n) ≡ c = omega arith in
      rw (← e) (rest_at (c - n) (omega arith) ∙ ap (λ (v : ℕ). eqb (bit v (c - n)) 1) z ∙ ap (λ (d : ℕ). eqb d 1) (bit_zero (c - n)))

  module _ (fits : get_or w (n / 64) 0 < 2 ^ 64) where
    pub next_here : n < 1024 → (get_or w (n / 64) 0 / 2 ^ (n % 64) ≡ 0 → ⊥) → get_or w (n / 64) 0 / 2 ^ (n % 64) < 2 ^ 64 → LowestFrom w n (Some (n + count_trailing_zeros 64 (get_or w (n / 64) 0 / 2 ^ (n % 64))))
    next_here h ne small =
        let low = trailing_bit 64 (get_or w (n / 64) 0 / 2 ^ (n % 64)) small ne in
        let t : ℕ = count_trailing_zeros 64 (get_or w (n / 64) 0 / 2 ^ (n % 64)) in
        let within : n % 64 + t < 64 =
        elim (dec_lt (n % 64 + t) 64) [
          | yes lt ↦ lt
          | no ge ↦ absurd (omega (arith, low.here, bit_rest (get_or w (n / 64) 0) (n % 64) t, bit_below 64 (get_or w (n / 64) 0) (n % 64 + t) fits (omega arith)))
        ] in (
          omega (arith, within),
          rest_at t within ∙ eq-eqb _ 1 low.here,
          λ c ge lt.
              let e : n + (c - n) ≡ c = omega arith in
              rw (← e) (rest_at (c - n) (omega (arith, within)) ∙ ap (λ (d : ℕ). eqb d 1) (low.none_below (c - n) (omega arith))),
          omega arith,
        )

-- ---- a set without the blocks below n

pub left_from : List ℕ → ℕ → List ℕ
left_from w zero = w
left_from w (suc n) = excluding (left_from w n) n

pub left-all : (w : List ℕ) → left_from w 0 ≡ w
unfolding left_from
left-all w = refl

module _ (w : List ℕ) (long : length w ≡ 16) where
  pub left_long : (n : ℕ) → length (left_from w n) ≡ 16
  unfolding left_from
  left_long zero = long
  left_long (suc n) = length-excluding (left_from w n) n ∙ left_long n

  pub left_in : (n c : ℕ) → n ≤ c → member (left_from w n) c ≡ member w c
  unfolding left_from
  left_in zero c h = refl
  left_in (suc n) c h = member-excluding (left_from w n) (left_long n) n c ∙ rw (ne_eqb n c (λ e. absurd (omega arith))) (left_in n c (omega arith))

  pub left_out : (n c : ℕ) → c < n → member (left_from w n) c ≡ false
  unfolding left_from
  left_out zero c h = absurd (omega arith)
  left_out (suc n) c h =
      member-excluding (left_from w n) (left_long n) n c
      ∙ elim (ℕ_discrete n c) [
        | yes e ↦ rw (eq-eqb n c e) refl
        | no ne ↦ rw (ne_eqb n c ne) (left_out n c (omega arith))
      ]

  pub left_lowest : (n b : ℕ) → LowestFrom w n (Some b) → LowestOf (left_from w n) (Some b)
  left_lowest n b low = (low.0, left_in n b low.3 ∙ low.1, below)
    where
      below : (c : ℕ) → c < b → member (left_from w n) c ≡ false
      below c lt = elim (dec_lt c n) [ yes out ↦ left_out n c out | no ge ↦ left_in n c (omega arith) ∙ low.2 c (omega arith) lt ]

  pub left-none : (n : ℕ) → LowestFrom w n None → LowestOf (left_from w n) None
  left-none n low c = elim (dec_lt c n) [ yes out ↦ left_out n c out | no ge ↦ left_in n c (omega arith) ∙ low c (omega arith) ]

  pub left_next : (n b : ℕ) → LowestFrom w n (Some b) → left_from w (b + 1) ≡ excluding (left_from w n) b
  unfolding left_from
  left_next n b low =
      let more : b + 1 ≡ suc b = omega arith in
      let all : n + (b - n) ≡ b = omega (arith, low.3) in
      rw more (ap (λ (l : List ℕ). excluding l b) (rw all at (same (b - n) (omega (arith, low.3)))))
    where
      same : (d : ℕ) → n + d ≤ b → left_from w (n + d) ≡ left_from w n
      same zero h = let none : n + 0 ≡ n = omega arith in ap (left_from w) none
      same (suc d) h =
          let more : n + suc d ≡ suc (n + d) = omega arith in
          rw more (excluding-none (left_from w (n + d)) (n + d) (left_in (n + d) (n + d) (omega arith) ∙ low.2 (n + d) (omega arith) (omega arith)) ∙ same d (omega arith))

  pub left_less : (n b : ℕ) → LowestFrom w n (Some b) → size_of (left_from w (b + 1)) < size_of (left_from w n)
  left_less n b low = let at = left_lowest n b low in rw (left_next n b low) (omega (arith, size-excluding (left_from w n) (left_long n) b at.0 at.1))
