-- The blocks of a word that have a way out.
--     none-set                     0 has no digit
--     joins_none, joins_more       the words of sets or-ed together, one by one
--     busy_in                      with the guarded blocks, those that have a way out
-- Assumes nothing.
use mathlib.Core.Path.{◌≡◌, sym, ap, ◌∙◌}
use mathlib.Core.Bool.{false, ◌||◌}
use mathlib.Core.List.{List}
use Prim.Native.Nat.{ℕ, zero, suc, ◌+◌, ◌*◌, ◌/◌, ◌%◌, ◌^◌, ◌<◌, min, max}
use native.Mathlib.Numerals.{add-one}
use native.Mathlib.Decide.{ℕ_discrete}
use native.Mathlib.Omega.{arith}
use borrow.Author.Tests.{eqb-false, ne_eqb}
use lib.Bits.{bit_and, bit_or}
use lib.Dec.{eqb}
use lib.ListN.{get_or}
use Rattle.graph.specs.Fold.{some}
use Rattle.graph.proofs.FoldLaws.{some-none}
use Rattle.graph.proofs.Bit.{bit, bit_shift, bit_lt, bit_zero, bit_or_law}
use Rattle.unwind.specs.Gather.{in_set}
use Rattle.unwind.specs.Placed.{returns_in}
use Rattle.unwind.specs.Members.{Joins, BusyIn}
use Rattle.unwind.proofs.PoolLaws.{set_in}
use Rattle.unwind.proofs.ReturnLaws.{returns_word}
use Rattle.unwind.proofs.AlikeLaws.{or_none, and_digit}

-- ---- digits

-- a digit that is not 1 is 0
none_of : (x j : ℕ) → eqb (x / 2 ^ j % 2) 1 ≡ false → x / 2 ^ j % 2 ≡ 0
none_of x j e = let ne = eqb-false (x / 2 ^ j % 2) 1 e in omega arith

off : (x j : ℕ) → x / 2 ^ j % 2 ≡ 0 → eqb (x / 2 ^ j % 2) 1 ≡ false
off x j e = ne_eqb (x / 2 ^ j % 2) 1 (λ z. omega arith)

pub none-set : (j : ℕ) → eqb (0 / 2 ^ j % 2) 1 ≡ false
none-set j = off 0 j (bit_shift 0 j ∙ bit_zero j)

-- the greater of two digits is 1 where one of them is
or_digits : (x y : ℕ) → x < 2 → y < 2 → eqb (max x y) 1 ≡ (eqb x 1 || eqb y 1)
or_digits zero y hx hy = let most : max 0 y ≡ y = omega arith in rw most
or_digits (suc zero) y hx hy = let most : max 1 y ≡ 1 = omega arith in rw most
or_digits (suc (suc x)) y hx hy = absurd (omega arith)

-- a digit of an or is set where that of one is
or_bit : (x y j : ℕ) → eqb (bit_or x y / 2 ^ j % 2) 1 ≡ (eqb (x / 2 ^ j % 2) 1 || eqb (y / 2 ^ j % 2) 1)
or_bit x y j = rw (bit_shift (bit_or x y) j, bit_shift x j, bit_shift y j, bit_or_law x y j) (or_digits (bit x j) (bit y j) (bit_lt x j) (bit_lt y j))

-- what x lacks, y lacks too: so it is with what either has in common with z
both_off : (x y z j : ℕ) → (x / 2 ^ j % 2 ≡ 0 → y / 2 ^ j % 2 ≡ 0) → bit_and x z / 2 ^ j % 2 ≡ 0 → bit_and y z / 2 ^ j % 2 ≡ 0
both_off x y z j less e =
    let least : min (x / 2 ^ j % 2) (z / 2 ^ j % 2) ≡ 0 = sym (and_digit x z j) ∙ e in
    and_digit y z j ∙ elim (ℕ_discrete (x / 2 ^ j % 2) 0) [
      | yes none ↦ omega (arith, less none)
      | no on ↦ omega arith
    ]

-- ---- words of sets

-- a block of word w is in a set if it is in that word of it
word_in : (sets : List ℕ) (i w b : ℕ) → w < 16 → b / 64 ≡ w → eqb (get_or sets (16 * i + w) 0 / 2 ^ (b % 64) % 2) 1 ≡ in_set sets i b
word_in sets i w b low here = rw (← here) (set_in sets i b (omega arith))

-- the sets f 0, f 1, .. of some
module _ (sets : List ℕ) (f : ℕ → ℕ) (w : ℕ) where
  pub joins_none : Joins (λ k b. in_set sets (f k) b) 0 w 0
  unfolding some
  joins_none = record { has = λ b here. none-set (b % 64) }

  pub joins_more : (n x : ℕ) → w < 16 → Joins (λ k b. in_set sets (f k) b) n w x → Joins (λ k b. in_set sets (f k) b) (n + 1) w (bit_or x (get_or sets (16 * f n + w) 0))
  unfolding some
  joins_more n x low p =
      record {
        has = λ b here.
            or_bit x (get_or sets (16 * f n + w) 0) (b % 64)
            ∙ (λ t. p.has b here t || word_in sets (f n) w b low here t)
            ∙ ap (some (λ k. in_set sets (f k) b)) (sym (add-one n));
      }

pub busy_in : (guarded : ℕ) (parts returners originals : List ℕ) (listed w x : ℕ) → w < 16 → Joins (λ k b. in_set parts (get_or originals k 0) b) listed w x → BusyIn guarded (returns_in parts returners) originals listed w (bit_or guarded (bit_and x (get_or returners w 0)))
busy_in guarded parts returners originals listed w x low p =
    let y : ℕ = bit_or guarded (bit_and x (get_or returners w 0)) in
    let out : (j : ℕ) → eqb (y / 2 ^ j % 2) 1 ≡ false → (guarded / 2 ^ j % 2 ≡ 0) × (bit_and x (get_or returners w 0) / 2 ^ j % 2 ≡ 0) = λ j e. or_none guarded (bit_and x (get_or returners w 0)) j (none_of y j e) in
    record {
      unguarded = λ b here e. off guarded (b % 64) (out (b % 64) e).0;
      unreturned = λ b here e k h.
          let i : ℕ = get_or originals k 0 in
          let lacks : x / 2 ^ (b % 64) % 2 ≡ 0 → get_or parts (16 * i + w) 0 / 2 ^ (b % 64) % 2 ≡ 0 = λ none. none_of (get_or parts (16 * i + w) 0) (b % 64) (word_in parts i w b low here ∙ some-none (λ n. in_set parts (get_or originals n 0) b) listed (sym (p.has b here) ∙ off x (b % 64) none) k h) in
          let word = both_off x (get_or parts (16 * i + w) 0) (get_or returners w 0) (b % 64) lacks (out (b % 64) e).1 in
          sym (word_in (returns_in parts returners) i w b low here)
          ∙ ap (λ (v : ℕ). eqb (v / 2 ^ (b % 64) % 2) 1) (returns_word parts returners i w low)
          ∙ off (bit_and (get_or parts (16 * i + w) 0) (get_or returners w 0)) (b % 64) word;
    }
