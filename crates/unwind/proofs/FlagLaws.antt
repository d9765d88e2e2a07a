-- The flags of hops, as bits of words.
--     flag-none        no flag is set
--     flag-set         one flag is set, and the last word written
-- Assumes nothing.
use mathlib.Core.Path.{◌≡◌, sym, ap, ◌∙◌}
use mathlib.Core.Bool.{true, false}
use mathlib.Core.List.{List}
use Prim.Native.Nat.{ℕ, ◌/◌, ◌%◌, ◌^◌, ◌<◌}
use native.Mathlib.Decide.{ℕ_discrete}
use native.Mathlib.Omega.{arith}
use borrow.Author.Tests.{eq-eqb}
use lib.Bits.{bit_or}
use lib.Dec.{eqb}
use lib.ListN.{length, get_or, set, replicate, length-set, get_or-replicate}
use lib.Seq.{get_or-set_same, get_or-set_other}
use Rattle.graph.specs.BlockSet.{member}
use Rattle.graph.proofs.Bit.{bit, bit_lt, bit_zero, bit_or_law, bit_power_same, bit_power_other}
use Rattle.graph.proofs.BlockLaws.{member_bit}
use Rattle.unwind.specs.Flags.{FlagSet}

pub flag-none : (k : ℕ) → k < 2048 → member (replicate 33 0) k ≡ false
flag-none k h =
    member_bit (replicate 33 0) k
    ∙ ap (λ (v : ℕ). eqb (bit v (k % 64)) 1) (get_or-replicate {A = ℕ} 33 (k / 64) 0 0 (omega arith))
    ∙ ap (λ (n : ℕ). eqb n 1) (bit_zero (k % 64))

module _ (done : List ℕ) (k x : ℕ) (h : k < 2048) where
  abbrev word : ℕ
  word = get_or done (k / 64) 0

  abbrev one : ℕ
  one = 2 ^ (k % 64)

  abbrev marked : List ℕ
  marked = set done (k / 64) (bit_or word one)

  -- the last word has no flag
  above : (j : ℕ) → j < 2048 → get_or (set marked 32 x) (j / 64) 0 ≡ get_or marked (j / 64) 0
  above j lt = get_or-set_other marked 32 (j / 64) x 0 (λ e. omega (arith, e))

  this : length done ≡ 33 → member (set marked 32 x) k ≡ true
  this long =
      member_bit (set marked 32 x) k
      ∙ eq-eqb _ 1
      (ap (λ (v : ℕ). bit v (k % 64)) (above k h ∙ get_or-set_same done (k / 64) (bit_or word one) 0 (omega arith))
      ∙ omega (arith, bit_or_law word one (k % 64), bit_lt word (k % 64), bit_power_same (k % 64)))

  others : length done ≡ 33 → (j : ℕ) → j < 2048 → (j ≡ k → ⊥) → member (set marked 32 x) j ≡ member done j
  others long j lt ne =
      member_bit (set marked 32 x) j
      ∙ ap (λ (n : ℕ). eqb n 1) (ap (λ (v : ℕ). bit v (j % 64)) (above j lt) ∙ same (ℕ_discrete (j / 64) (k / 64)))
      ∙ sym (member_bit done j)
    where
      same : Dec (j / 64 ≡ k / 64) → bit (get_or marked (j / 64) 0) (j % 64) ≡ bit (get_or done (j / 64) 0) (j % 64)
      same (yes e) =
          rw (e, get_or-set_same done (k / 64) (bit_or word one) 0 (omega arith))
          (omega (arith, bit_or_law word one (j % 64), bit_power_other (k % 64) (j % 64) (λ d. ne (omega arith))))
      same (no d) = rw (get_or-set_other done (k / 64) (j / 64) (bit_or word one) 0 d)

  pub flag-set : FlagSet done k (set marked 32 x)
  flag-set = record { long = length-set marked 32 x ∙ length-set done (k / 64) (bit_or word one); this = this; others = others }
