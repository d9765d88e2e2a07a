-- What the functions on a set's words do to the set.
--     member_past, member_below            there are 1,024 blocks
--     member-none, size_none               the empty set has none
--     member-including, -excluding         a block more or less; length-including, length-excluding
--     size-including, size-excluding       how many blocks there are then; size_le
--     including_past, excluding_is         what a store writes
--     Anded, size-more, lowest_from, lowest_is, none_more    a word more of a loop
--     rank-more, rank-all     how many blocks are below one
--     zero-below, shift_below, word_below     a set's blocks are below n
-- Assumes nothing.
use mathlib.Core.Path.{◌≡◌, refl, sym, ap, ap₂, ◌∙◌}
use mathlib.Core.Bool.{Bool, true, false, cond, not, ◌&&◌, ◌||◌}
use mathlib.Core.List.{List}
use Prim.Native.Nat.{ℕ, zero, suc, ◌+◌, ◌-◌, ◌*◌, ◌/◌, ◌%◌, ◌^◌, ◌≤◌, ◌<◌, min}
use native.Mathlib.Nat.{div-eq_of_lt, div-lt_iff_lt-mul}
use native.Mathlib.Decide.{ℕ_discrete, dec_lt}
use native.Mathlib.Omega.{arith}
use borrow.Author.Tests.{eq-eqb, ne_eqb, eqb-true, lt-ltb, le-ltb}
use lib.Bits.{bit_and, bit_or, bit_xor, differ, and_step, and_shr}
use lib.Count.{ones, count_trailing_zeros}
use lib.Dec.{eqb, ltb}
use lib.Pow.{pow_pos, pow_mono}
use lib.ListN.{length, get_or, set, length-set, get_or-replicate, get_or-eq_default}
use lib.Seq.{get_or-set_same, get_or-set_other, set_out}
use Rattle.graph.specs.Fold.{count}
use Rattle.graph.specs.BlockSet.{member, none, including, excluding, Common, size_of, LowestOf, LowestFrom}
use Rattle.std.proofs.Common.{Some}
use Rattle.graph.proofs.FoldLaws.{count_same, count_none, count_add, count_one, count_le}
use Rattle.graph.proofs.Bit.{bit, bit_shift, bit_lt, bit_zero, bit_or_law, bit_xor_law, bit_power_same, bit_power_other, ones_bits, ones_low, trailing_bit}

-- digit b of the set
abbrev digit : List ℕ → ℕ → ℕ
digit w b = bit (get_or w (b / 64) 0) (b % 64)

pub member_bit : (w : List ℕ) (b : ℕ) → member w b ≡ eqb (digit w b) 1
unfolding member
member_bit w b = rw bit_shift

-- digit k of word i
digit_at : (w : List ℕ) (i k : ℕ) → k < 64 → digit w (64 * i + k) ≡ bit (get_or w i 0) k
digit_at w i k h = ap₂ (λ (v d : ℕ). bit (get_or w v 0) d) (omega arith) (omega arith)

pub member_at : (w : List ℕ) (i k : ℕ) → k < 64 → member w (64 * i + k) ≡ eqb (bit (get_or w i 0) k) 1
member_at w i k h = member_bit w (64 * i + k) ∙ ap (λ (n : ℕ). eqb n 1) (digit_at w i k h)

zero_word : (w : List ℕ) (b : ℕ) → get_or w (b / 64) 0 ≡ 0 → member w b ≡ false
zero_word w b z = member_bit w b ∙ ap (λ (v : ℕ). eqb (bit v (b % 64)) 1) z ∙ ap (λ (n : ℕ). eqb n 1) (bit_zero (b % 64))

pub member_past : (w : List ℕ) (b : ℕ) → length w ≡ 16 → 1024 ≤ b → member w b ≡ false
member_past w b long h = zero_word w b (get_or-eq_default w 0 (omega arith))

pub member_below : (w : List ℕ) (b : ℕ) → length w ≡ 16 → member w b ≡ true → b < 1024
member_below w b long m =
    elim (dec_lt b 1024) [ yes lt ↦ lt | no ge ↦ absurd (never (member w b) m (member_past w b long (omega arith))) ]
  where
    never : (t : Bool) → t ≡ true → t ≡ false → ⊥
    never t p q = let z : ◌≡◌ {A = ℕ} 0 1 = cc in omega arith

pub member-none : (b : ℕ) → member none b ≡ false
member-none b =
    zero_word none b
    (elim (dec_lt (b / 64) 16) [
      | yes lt ↦ get_or-replicate {A = ℕ} 16 (b / 64) 0 0 lt
      | no ge ↦ get_or-eq_default none 0 {n = b / 64} (omega arith)
    ])

-- ---- a block more or less

differ_zero : (x : ℕ) → differ x 0 ≡ x
differ_zero zero = refl
differ_zero (suc x) = refl

module _ (w : List ℕ) (long : length w ≡ 16) (b : ℕ) (h : b < 1024) where
  -- word b / 64 is written anew, with no digit but b's another
  module _ (v : ℕ) (same : (k : ℕ) → (k ≡ b % 64 → ⊥) → bit v k ≡ bit (get_or w (b / 64) 0) k) where
    put_here : digit (set w (b / 64) v) b ≡ bit v (b % 64)
    put_here = rw (get_or-set_same w (b / 64) v 0 (omega arith))

    put_other : (c : ℕ) → (b ≡ c → ⊥) → digit (set w (b / 64) v) c ≡ digit w c
    put_other c ne =
        elim (ℕ_discrete (c / 64) (b / 64)) [
          | yes e ↦ rw (e, get_or-set_same w (b / 64) v 0 (omega arith)) (same (c % 64) (omega arith))
          | no d ↦ rw (get_or-set_other w (b / 64) (c / 64) v 0 d)
        ]

    member-put : (c : ℕ) → (b ≡ c → ⊥) → member (set w (b / 64) v) c ≡ member w c
    member-put c ne = member_bit (set w (b / 64) v) c ∙ ap (λ (n : ℕ). eqb n 1) (put_other c ne) ∙ sym (member_bit w c)

  abbrev word : ℕ
  word = get_or w (b / 64) 0

  abbrev one : ℕ
  one = 2 ^ (b % 64)

  or_same : (k : ℕ) → (k ≡ b % 64 → ⊥) → bit (bit_or word one) k ≡ bit word k
  or_same k ne = omega (arith, bit_or_law word one k, bit_power_other (b % 64) k ne)

  xor_same : (k : ℕ) → (k ≡ b % 64 → ⊥) → bit (bit_xor word one) k ≡ bit word k
  xor_same k ne = bit_xor_law word one k ∙ rw (bit_power_other (b % 64) k ne) (differ_zero (bit word k))

  including-same : member (including w b) b ≡ true
  unfolding including
  including-same =
      member_bit _ b
      ∙ eq-eqb _ 1
      (put_here (bit_or word one) or_same ∙ omega (arith, bit_or_law word one (b % 64), bit_lt word (b % 64), bit_power_same (b % 64)))

  including_other : (c : ℕ) → (b ≡ c → ⊥) → member (including w b) c ≡ member w c
  unfolding including
  including_other = member-put (bit_or word one) or_same

  pub member-including : (c : ℕ) → member (including w b) c ≡ (eqb b c || member w c)
  member-including c =
      elim (ℕ_discrete b c) [
        | yes e ↦ rw (← e, eq-eqb b b refl) including-same
        | no ne ↦ rw (ne_eqb b c ne) (including_other c ne)
      ]

  pub size-including : member w b ≡ false → size_of (including w b) ≡ suc (size_of w)
  size-including out = count_one (member w) (member (including w b)) 1024 b h out including-same (λ c lt ne. including_other c (λ e. ne (sym e)))

  module _ (there : member w b ≡ true) where
    pub excluding_is : excluding w b ≡ set w (b / 64) (bit_xor word one)
    unfolding excluding
    excluding_is = rw there

    excluding-same : member (excluding w b) b ≡ false
    excluding-same =
        let o : digit w b ≡ 1 = eqb-true _ _ (sym (member_bit w b) ∙ there) in
        let gone : digit (set w (b / 64) (bit_xor word one)) b ≡ 0 =
        put_here (bit_xor word one) xor_same ∙ bit_xor_law word one (b % 64) ∙ rw (o, bit_power_same (b % 64)) in
        rw excluding_is (member_bit _ b ∙ ap (λ (n : ℕ). eqb n 1) gone)

    excluding_other : (c : ℕ) → (b ≡ c → ⊥) → member (excluding w b) c ≡ member w c
    excluding_other c ne = rw excluding_is (member-put (bit_xor word one) xor_same c ne)

    pub size-excluding : size_of w ≡ suc (size_of (excluding w b))
    size-excluding = count_one (member (excluding w b)) (member w) 1024 b h excluding-same there (λ c lt ne. sym (excluding_other c (λ e. ne (sym e))))

pub including_past : (w : List ℕ) (b : ℕ) → length w ≡ 16 → 1024 ≤ b → including w b ≡ w
unfolding including
including_past w b long h = set_out w (b / 64) _ (omega arith)

pub excluding-none : (w : List ℕ) (b : ℕ) → member w b ≡ false → excluding w b ≡ w
unfolding excluding
excluding-none w b out = rw out

pub member-excluding : (w : List ℕ) → length w ≡ 16 → (b c : ℕ) → member (excluding w b) c ≡ (not (eqb b c) && member w c)
member-excluding w long b c = cases (member w b) refl
  where
    cases : (t : Bool) → member w b ≡ t → member (excluding w b) c ≡ (not (eqb b c) && member w c)
    cases true m =
        let h = member_below w b long m in
        elim (ℕ_discrete b c) [
          | yes e ↦ rw (← e, eq-eqb b b refl) (excluding-same w long b h m)
          | no ne ↦ rw (ne_eqb b c ne) (excluding_other w long b h m c ne)
        ]
    cases false m =
        rw (excluding-none w b m)
        (elim (ℕ_discrete b c) [
          | yes e ↦ rw (← e, eq-eqb b b refl) m
          | no ne ↦ rw (ne_eqb b c ne)
        ])

pub length-including : (w : List ℕ) (b : ℕ) → length (including w b) ≡ length w
unfolding including
length-including w b = length-set w (b / 64) _

pub length-excluding : (w : List ℕ) (b : ℕ) → length (excluding w b) ≡ length w
unfolding excluding
length-excluding w b = cases (member w b)
  where
    cases : (t : Bool) → length (cond t (set w (b / 64) (bit_xor (get_or w (b / 64) 0) (2 ^ (b % 64)))) w) ≡ length w
    cases true = length-set w (b / 64) _
    cases false = refl

pub size_none : size_of none ≡ 0
size_none = count_none (member none) 1024 (λ b h. member-none b)

pub size_le : (w : List ℕ) → size_of w ≤ 1024
size_le w = count_le (member w) 1024

-- ---- a word more

-- a block is below word i, or is a digit of that word or a later one
split : (P : ℕ → Type 0) (i c : ℕ) → (c < 64 * i → P c) → ((k : ℕ) → 64 * i + k ≡ c → P (64 * i + k)) → P c
split P i c below here =
    elim (dec_lt c (64 * i)) [
      | yes lt ↦ below lt
      | no ge ↦ let e : 64 * i + (c - 64 * i) ≡ c = omega arith in rw (← e) (here (c - 64 * i) e)
    ]

module _ (w : List ℕ) (i : ℕ) where
  pub none_more : (n : ℕ) → get_or w i 0 ≡ 0 → ((c : ℕ) → n ≤ c → c < 64 * i → member w c ≡ false) → (c : ℕ) → n ≤ c → c < 64 * (i + 1) → member w c ≡ false
  none_more n z below c ge h =
      split (λ (d : ℕ). member w d ≡ false) i c (below c ge)
      (λ k e. member_at w i k (omega arith) ∙ ap (λ (v : ℕ). eqb (bit v k) 1) z ∙ ap (λ (n : ℕ). eqb n 1) (bit_zero k))

  module _ (fits : get_or w i 0 < 2 ^ 64) where
    pub size-more : count (member w) (64 * (i + 1)) ≡ count (member w) (64 * i) + ones (get_or w i 0)
    size-more =
        let next : 64 * (i + 1) ≡ 64 * i + 64 = omega arith in
        let here = count_same (λ (k : ℕ). member w (64 * i + k)) (λ (k : ℕ). eqb (bit (get_or w i 0) k) 1) 64 (λ k h. member_at w i k h) in
        rw next (count_add (member w) (64 * i) 64 ∙ ap (λ (n : ℕ). count (member w) (64 * i) + n) (here ∙ sym (ones_bits 64 (get_or w i 0) fits)))

    pub lowest_from : (n : ℕ) → n ≤ 64 * i → i < 16 → (get_or w i 0 ≡ 0 → ⊥) → ((c : ℕ) → n ≤ c → c < 64 * i → member w c ≡ false) → LowestFrom w n (Some (64 * i + count_trailing_zeros 64 (get_or w i 0)))
    lowest_from n le h ne below =
        let low = trailing_bit 64 (get_or w i 0) fits ne in (
          omega (arith, low.within),
          member_at w i _ low.within ∙ eq-eqb _ 1 low.here,
          λ c ge lt.
              split (λ (d : ℕ). member w d ≡ false) i c (below c ge)
              (λ k e. member_at w i k (omega (arith, low.within)) ∙ ap (λ (n : ℕ). eqb n 1) (low.none_below k (omega arith))),
          omega arith,
        )

    pub lowest_is : i < 16 → (get_or w i 0 ≡ 0 → ⊥) → ((c : ℕ) → 0 ≤ c → c < 64 * i → member w c ≡ false) → LowestOf w (Some (64 * i + count_trailing_zeros 64 (get_or w i 0)))
    lowest_is h ne below = let low = lowest_from 0 (omega arith) h ne below in (low.0, low.1, λ c lt. low.2 c (omega arith) lt)

-- the blocks below the one of digit k of a word
pub rank-more : (w : List ℕ) (i k : ℕ) → k < 64 → get_or w i 0 < 2 ^ 64 → count (member w) (64 * i + k) ≡ count (member w) (64 * i) + ones (get_or w i 0 % 2 ^ k)
rank-more w i k lt fits =
    let v : ℕ = get_or w i 0 in
    let digits = count_same (λ (j : ℕ). member w (64 * i + j)) (λ (j : ℕ). eqb (bit v j) 1) k (λ j h. member_at w i j (omega arith)) in
    omega (arith, count_add (member w) (64 * i) k, digits, ones_low v k)

-- and those of a set, which has none past its words
pub rank-all : (w : List ℕ) → length w ≡ 16 → (b : ℕ) → count (member w) (min b 1024) ≡ count (member w) b
rank-all w long b =
    elim (dec_lt b 1024) [
      | yes lt ↦ ap (count (member w)) (omega arith)
      | no ge ↦
          let m : min b 1024 ≡ 1024 = omega arith in
          let rest : b ≡ 1024 + (b - 1024) = omega arith in
          omega (arith, ap (count (member w)) m, ap (count (member w)) rest, count_add (member w) 1024 (b - 1024), count_none (λ (j : ℕ). member w (1024 + j)) (b - 1024) (λ j h. member_past w (1024 + j) long (omega arith)))
    ]

-- ---- the blocks of both

-- the lesser of two digits is 1 where both are
and_digits : (x y : ℕ) → x < 2 → y < 2 → eqb (min x y) 1 ≡ (eqb x 1 && eqb y 1)
and_digits zero y hx hy = let least : min 0 y ≡ 0 = omega arith in rw least
and_digits (suc zero) y hx hy = let least : min 1 y ≡ y = omega arith in rw least
and_digits (suc (suc x)) y hx hy = absurd (omega arith)

-- a digit of an and is set where those of both are
and_bit : (a b j : ℕ) → eqb (bit_and a b / 2 ^ j % 2) 1 ≡ (eqb (a / 2 ^ j % 2) 1 && eqb (b / 2 ^ j % 2) 1)
and_bit a b j =
    let last : bit_and (a / 2 ^ j) (b / 2 ^ j) % 2 ≡ min (a / 2 ^ j % 2) (b / 2 ^ j % 2) = omega (arith, and_step (a / 2 ^ j) (b / 2 ^ j)) in
    rw (and_shr a b j, last) (and_digits (a / 2 ^ j % 2) (b / 2 ^ j % 2) (omega arith) (omega arith))

-- the words of w below i have what both u and v have
pub record Anded (u v w : List ℕ) (i : ℕ) : Type 0 where
  pub long : length w ≡ 16
  pub done : (k : ℕ) → k < i → get_or w k 0 ≡ bit_and (get_or u k 0) (get_or v k 0)

module _ (u v : List ℕ) where
  module _ (w : List ℕ) (i : ℕ) (x : Anded u v w i) where
    -- all words passed
    pub anded_all : length u ≡ 16 → 16 ≤ i → Common u v w
    unfolding member
    anded_all long h b =
        elim (dec_lt b 1024) [
          | yes lt ↦
              ap (λ (n : ℕ). eqb (n / 2 ^ (b % 64) % 2) 1) (x.done (b / 64) (omega arith))
              ∙ and_bit (get_or u (b / 64) 0) (get_or v (b / 64) 0) (b % 64)
          | no ge ↦ member_past w b x.long (omega arith) ∙ sym (ap (λ (t : Bool). t && member v b) (member_past u b long (omega arith)))
        ]

-- ---- sets below a block

pub zero-below : (x : ℕ) → eqb x 0 ≡ ltb x 1
zero-below zero = refl
zero-below (suc x) = ne_eqb (suc x) 0 (omega arith) ∙ sym (le-ltb (suc x) 1 (omega arith))

-- a shift that leaves nothing
pub shift_below : (x k : ℕ) → eqb (x / 2 ^ k) 0 ≡ ltb x (2 ^ k)
shift_below x k =
    elim (dec_lt x (2 ^ k)) [
      | yes lt ↦ eq-eqb (x / 2 ^ k) 0 (div-eq_of_lt lt) ∙ sym (lt-ltb x (2 ^ k) lt)
      | no ge ↦ ne_eqb (x / 2 ^ k) 0 (λ z. ge (omega (arith, (div-lt_iff_lt-mul {k = 2 ^ k} {x = x} {y = 1} (pow_pos k)).0 (omega arith)))) ∙ sym (le-ltb x (2 ^ k) (omega arith))
    ]

pub word_below : (x k : ℕ) → x < 2 ^ 64 → 64 ≤ k → true ≡ ltb x (2 ^ k)
word_below x k h le = sym (lt-ltb x (2 ^ k) (omega (arith, pow_mono le)))
