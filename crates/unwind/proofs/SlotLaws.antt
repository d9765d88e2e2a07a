-- Sets of blocks in a slice, sixteen words each.
--     set_run, set_long, set_word      a set is a run of the slice, of sixteen words
--     Filled, filled_none, filled_more, filled-all     a set read, word by word
--     Copied, copied_over, set_over, set_emptied     a set stored
--     put-including                a block put into a set
--     put_same, put_again          a set that is not stored, and one that is stored twice
-- Assumes nothing.
use mathlib.Core.Path.{◌≡◌, refl, sym, ap, ◌∙◌}
use mathlib.Core.Logic.{◌⊎◌, inl, inr}
use mathlib.Core.List.{List, [], ◌∷◌, ◌++◌}
use Prim.Native.Nat.{ℕ, zero, suc, ◌+◌, ◌*◌, ◌/◌, ◌%◌, ◌^◌, ◌≤◌, ◌<◌}
use native.Mathlib.Nat.{not-suc-le-zero}
use native.Mathlib.Decide.{ℕ_discrete, dec_lt}
use native.Mathlib.Omega.{arith}
use lib.Bits.{bit_or}
use lib.ListN.{length, get_or, set, take, length-set, drop, length-drop, replicate}
use lib.Seq.{take-suc, take-length, get_or-set_same, get_or-set_other, length-take-le, get_or-take, get_or-drop}
use borrow.Author.Rules.{rules}
use borrow.Rule.Slice.PartMut.{put_mid}
use Rattle.std.proofs.lemmas.List.{places}
use Rattle.image.specs.Image.{table}
use Rattle.graph.specs.BlockSet.{none, including}
use Rattle.graph.proofs.FoldLaws.{length-table, table_same, get_or_table}
use Rattle.unwind.specs.Placed.{set_at, SetPut}

-- a list is its elements
listed : (w : List ℕ) (f : ℕ → ℕ) (n : ℕ) → length w ≡ n → ((j : ℕ) → j < n → get_or w j 0 ≡ f j) → w ≡ table f n
unfolding table
listed w f n long each = sym (take-length w) ∙ ap (λ (k : ℕ). take k w) long ∙ first n (omega arith)
  where
    first : (k : ℕ) → k ≤ n → take k w ≡ table f k
    first zero h = refl
    first (suc k) h = take-suc w k 0 (omega arith) ∙ ap (λ (l : List ℕ). l ++ (get_or w k 0 ∷ [])) (first k (omega arith)) ∙ ap (λ (x : ℕ). table f k ++ (x ∷ [])) (each k (omega arith))

-- a set is a run of the slice
pub set_run : (l : List ℕ) (i : ℕ) → 16 * i + 16 ≤ length l → set_at l i ≡ take 16 (drop (16 * i) l)
unfolding set_at
set_run l i fit =
    let left : 16 ≤ length (drop (16 * i) l) = omega (arith, length-drop (16 * i) l) in
    sym (listed (take 16 (drop (16 * i) l)) (λ k. get_or l (16 * i + k) 0) 16 (length-take-le 16 (drop (16 * i) l) left) (λ j h. get_or-take 16 (drop (16 * i) l) j 0 h ∙ get_or-drop (16 * i) l j 0))

pub set_long : (l : List ℕ) (i : ℕ) → length (set_at l i) ≡ 16
unfolding set_at
set_long l i = length-table (λ k. get_or l (16 * i + k) 0) 16

pub set_word : (l : List ℕ) (i k : ℕ) → k < 16 → get_or (set_at l i) k 0 ≡ get_or l (16 * i + k) 0
unfolding set_at
set_word l i k h = get_or_table (λ k. get_or l (16 * i + k) 0) 16 k 0 h

-- the first k words are those of l from `at` on
pub record Filled (l : List ℕ) (at : ℕ) (w : List ℕ) (k : ℕ) : Type 0 where
  pub long : length w ≡ 16
  pub same : (j : ℕ) → j < k → get_or w j 0 ≡ get_or l (at + j) 0

pub filled_none : (l : List ℕ) (at : ℕ) → Filled l at none 0
filled_none l at = record { long = refl; same = λ j h. absurd (not-suc-le-zero h) }

pub filled_more : (l : List ℕ) (at : ℕ) (w : List ℕ) (k : ℕ) → Filled l at w k → k < 16 → Filled l at (set w k (get_or l (at + k) 0)) (k + 1)
filled_more l at w k f h =
    record {
      long = length-set w k _ ∙ f.long;
      same = λ j lt.
          elim (ℕ_discrete j k) [
            | yes e ↦ rw e (get_or-set_same w k _ 0 (omega (arith, f.long)))
            | no ne ↦ get_or-set_other w k j _ 0 ne ∙ f.same j (omega arith)
          ];
    }

pub filled-all : (l : List ℕ) (i : ℕ) (w : List ℕ) (k : ℕ) → Filled l (16 * i) w k → k ≡ 16 → w ≡ set_at l i
unfolding set_at
filled-all l i w k f e = listed w _ 16 f.long (λ j h. f.same j (omega arith))

-- the first k words from `at` on are those of w, and all others are as they were
pub record Copied (l : List ℕ) (at : ℕ) (w l' : List ℕ) (k : ℕ) : Type 0 where
  pub long : length l' ≡ length l
  pub here : (j : ℕ) → j < k → get_or l' (at + j) 0 ≡ get_or w j 0
  pub others : (p : ℕ) → (p < at) ⊎ (at + k ≤ p) → get_or l' p 0 ≡ get_or l p 0

-- a run of the slice is overwritten
pub copied_over : (l : List ℕ) (at n : ℕ) (w : List ℕ) → length w ≡ n → at + n ≤ length l → Copied l at w (put_mid at n l w) n
copied_over l at n w long fit =
    record {
      long = search (rules, places);
      here = λ j h. search (rules, places);
      others = λ p h. elim h [ inl lt ↦ search (rules, places) | inr ge ↦ search (rules, places) ];
    }

beside : (i j k : ℕ) → (j ≡ i → ⊥) → k < 16 → (16 * j + k < 16 * i) ⊎ (16 * i + 16 ≤ 16 * j + k)
beside i j k ne h = elim (dec_lt j i) [ yes lt ↦ inl (omega arith) | no ge ↦ inr (omega arith) ]

pub set_over : (l : List ℕ) (i n : ℕ) (w : List ℕ) → n ≡ 16 → length w ≡ 16 → 16 * i + 16 ≤ length l → SetPut l i w (put_mid (16 * i) n l w)
unfolding set_at
set_over l i n w e long fit =
    let c = copied_over l (16 * i) n w (long ∙ sym e) (omega arith) in
    record {
      long = c.long;
      here = sym (listed w _ 16 long (λ j h. sym (c.here j (omega arith))));
      others = λ j ne. table_same _ _ 16 (λ k h. c.others (16 * j + k) (rw e (beside i j k ne h)));
    }

pub set_emptied : (l : List ℕ) (i n k : ℕ) → n ≡ 16 → k ≡ 16 → 16 * i + 16 ≤ length l → SetPut l i none (put_mid (16 * i) n l (replicate k 0))
set_emptied l i n k e f fit = rw f (set_over l i n none e refl fit)

module _ (l : List ℕ) (i : ℕ) where
  put_word : (k x : ℕ) → k < 16 → 16 * i + 16 ≤ length l → SetPut l i (set (set_at l i) k x) (set l (16 * i + k) x)
  unfolding set_at
  put_word k x h fit =
      record {
        long = length-set l (16 * i + k) x;
        here = sym (listed (set (set_at l i) k x) _ 16 (length-set (set_at l i) k x ∙ set_long l i) word);
        others = λ j ne. table_same _ _ 16 (λ p lt. get_or-set_other l (16 * i + k) (16 * j + p) x 0 (λ e. ne (omega arith)));
      }
    where
      word : (j : ℕ) → j < 16 → get_or (set (set_at l i) k x) j 0 ≡ get_or (set l (16 * i + k) x) (16 * i + j) 0
      word j lt =
          elim (ℕ_discrete j k) [
            | yes e ↦ rw e (get_or-set_same (set_at l i) k x 0 (omega (arith, set_long l i)) ∙ sym (get_or-set_same l (16 * i + k) x 0 (omega arith)))
            | no ne ↦ get_or-set_other (set_at l i) k j x 0 ne ∙ set_word l i j lt ∙ sym (get_or-set_other l (16 * i + k) (16 * i + j) x 0 (λ e. ne (omega arith)))
          ]

  pub put-including : (b : ℕ) → b < 1024 → 16 * i + 16 ≤ length l → SetPut l i (including (set_at l i) b) (set l (16 * i + b / 64) (bit_or (get_or l (16 * i + b / 64) 0) (2 ^ (b % 64))))
  unfolding including
  put-including b few fit = rw (set_word l i (b / 64) (omega arith)) (put_word (b / 64) _ (omega arith) fit)

pub put_same : (l : List ℕ) (i : ℕ) → SetPut l i (set_at l i) l
put_same l i = record { long = refl; here = refl; others = λ j ne. refl }

pub put_again : {l l' l'' w v : List ℕ} {i : ℕ} → SetPut l i w l' → SetPut l' i v l'' → SetPut l i (set_at l'' i) l''
put_again p q = record { long = q.long ∙ p.long; here = refl; others = λ j ne. q.others j ne ∙ p.others j ne }
