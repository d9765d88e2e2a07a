-- Sections: rows written, and rows left alone. The laws hold of every section, so what stands above them never speaks of a
-- word's place.
--     length-records, size_most       how many records are read
--     record_at, record_past          which stands at i, and past the end
--     push                            words with a row more behind the last
--     Away, records_away              THE FRAME: a store away from a section leaves its records alone
--     size_push, records_push         the section itself after a push
--     Apart, count_push_other, records_push_other     a push into one section is away from another
--     sets_more                       one word more of those that are stored
--     word_sets, word_push            the words that a store, or a push, leaves alone
-- Assumes nothing.
use mathlib.Core.Path.{◌≡◌, refl, sym, ap, ◌∙◌}
use mathlib.Core.Logic.{◌⊎◌, inl, inr}
use mathlib.Core.List.{List, [], ◌∷◌, ◌++◌, append_assoc}
use Prim.Native.Nat.{ℕ, suc, ◌+◌, ◌-◌, ◌≤◌, ◌<◌}
use native.Mathlib.Nat.{add-zero, mul-suc, mul-le-mul_left, min-eq_left, min-le_right}
use native.Mathlib.Numerals.{add-one}
use native.Mathlib.Omega.{arith}
use lib.ListN.{length, get_or, take, drop, set, get_or-eq_default}
use lib.Seq.{sets, take-suc, length-sets, sets-eq, take_at, drop_at, get_or-set_same, get_or-set_other, drop-set-lt, drop-set-add, take-set-le, length-take-le}
use Rattle.image.specs.Image.{table}
use Rattle.graph.specs.Section.{Section, place, size, row_at, records, Beside}
use Rattle.graph.proofs.FoldLaws.{length-table, table_same, get_or_table}

-- ---- a part of a list after stores

-- the n words from m on are as they were after a store outside of them
part-set : (n m : ℕ) (l : List ℕ) (i a : ℕ) → (i < m) ⊎ (m + n ≤ i) → take n (drop m (set l i a)) ≡ take n (drop m l)
part-set n m l i a (inl h) = ap (take n) (drop-set-lt m l i a h)
part-set n m l i a (inr h) =
    let e : m + (i - m) ≡ i = omega arith in
    rw (← e) (ap (take n) (drop-set-add m l (i - m) a) ∙ take-set-le n (drop m l) (i - m) a (omega arith))

part_sets : (n m : ℕ) (vs l : List ℕ) (i : ℕ) → (i + length vs ≤ m) ⊎ (m + n ≤ i) → take n (drop m (sets l i vs)) ≡ take n (drop m l)
part_sets n m [] l i h = refl
part_sets n m (a ∷ vs) l i (inl h) = part_sets n m vs (set l i a) (suc i) (inl (omega arith)) ∙ part-set n m l i a (inl (omega arith))
part_sets n m (a ∷ vs) l i (inr h) = part_sets n m vs (set l i a) (suc i) (inr (omega arith)) ∙ part-set n m l i a (inr h)

-- and the words that were stored are there
part_own : (vs l : List ℕ) (i n : ℕ) → length vs ≡ n → i + n ≤ length l → take n (drop i (sets l i vs)) ≡ vs
part_own vs l i n e h =
    let front : length (take i l) ≡ i = length-take-le i l (omega arith) in
    rw (sets-eq vs l i (omega arith), append_assoc, drop_at (take i l) (vs ++ drop (i + length vs) l) i front)
    (take_at vs (drop (i + length vs) l) n e)

pub word_sets : (vs l : List ℕ) (i k : ℕ) → (k < i) ⊎ (i + length vs ≤ k) → get_or (sets l i vs) k 0 ≡ get_or l k 0
word_sets [] l i k h = refl
word_sets (a ∷ vs) l i k (inl h) = word_sets vs (set l i a) (suc i) k (inl (omega arith)) ∙ get_or-set_other l i k a 0 (omega arith)
word_sets (a ∷ vs) l i k (inr h) = word_sets vs (set l i a) (suc i) k (inr (omega arith)) ∙ get_or-set_other l i k a 0 (omega arith)

-- one store after others, and one word more of those that are stored
sets_snoc : (vs l : List ℕ) (i a : ℕ) → sets l i (vs ++ (a ∷ [])) ≡ set (sets l i vs) (i + length vs) a
sets_snoc [] l i a = rw add-zero
sets_snoc (v ∷ vs) l i a = sets_snoc vs (set l i v) (suc i) a ∙ ap (λ (k : ℕ). set (sets (set l i v) (suc i) vs) k a) (omega arith)

pub sets_more : (w l : List ℕ) (i k : ℕ) → k < length w → set (sets l i (take k w)) (i + k) (get_or w k 0) ≡ sets l i (take (k + 1) w)
sets_more w l i k h =
    ap (λ (n : ℕ). set (sets l i (take k w)) (i + n) (get_or w k 0)) (sym (length-take-le k w (omega arith)))
    ∙ sym (sets_snoc (take k w) l i (get_or w k 0))
    ∙ ap (sets l i) (sym (take-suc w k 0 h) ∙ ap (λ (n : ℕ). take n w) (sym (add-one k)))

-- ---- a section's records

pub row_step : (s : Section) {i n : ℕ} → i < n → place s i + s.stride ≤ place s n
row_step s {i} {n} h = omega (arith, rw mul-suc at (mul-le-mul_left s.stride h))

pub size_most : (s : Section) (l : List ℕ) → size s l ≤ s.most
unfolding size
size_most s l = min-le_right (get_or l s.count 0) s.most

module _ {A : Type 0} (s : Section) (of : List ℕ → A) (l : List ℕ) where
  pub length-records : length (records s of l) ≡ size s l
  unfolding records
  length-records = length-table (λ (i : ℕ). of (row_at s l i)) (size s l)

  pub record_at : (i : ℕ) (d : A) → i < size s l → get_or (records s of l) i d ≡ of (take s.stride (drop (place s i) l))
  unfolding records row_at
  record_at i d h = get_or_table (λ (j : ℕ). of (row_at s l j)) (size s l) i d h

  pub record_past : (i : ℕ) (d : A) → size s l ≤ i → get_or (records s of l) i d ≡ d
  record_past i d h = get_or-eq_default (records s of l) d (rw length-records h)

-- n words from k on, none of which is the section's
pub record Away (s : Section) (k n : ℕ) : Type 0 where
  pub rows_clear : (k + n ≤ s.base) ⊎ (place s s.most ≤ k)
  pub count_clear : (s.count < k) ⊎ (k + n ≤ s.count)

module _ (s : Section) (l vs : List ℕ) (k : ℕ) (away : Away s k (length vs)) where
  pub count_away : get_or (sets l k vs) s.count 0 ≡ get_or l s.count 0
  count_away = word_sets vs l k s.count away.count_clear

  pub records_away : {A : Type 0} (of : List ℕ → A) → records s of (sets l k vs) ≡ records s of l
  unfolding records size row_at
  records_away of =
      rw count_away
      (table_same _ _ (size s l) (λ i h. ap of (part_sets s.stride (place s i) vs l k (clear i h away.rows_clear))))
    where
      clear : (i : ℕ) → i < size s l → (k + length vs ≤ s.base) ⊎ (place s s.most ≤ k) → (k + length vs ≤ place s i) ⊎ (place s i + s.stride ≤ k)
      clear i h (inl a) = inl (omega arith)
      clear i h (inr b) = inr (omega (arith, row_step s {i = i} {n = s.most} (omega (arith, size_most s l))))

-- ---- a row more behind the last

abbrev pub push : Section → List ℕ → List ℕ → List ℕ
push s l vs = set (sets l (place s (size s l)) vs) s.count (size s l + 1)

module _ (s : Section) (l vs : List ℕ) (full : length vs ≡ s.stride) (counted : s.count < s.base) (ends : place s s.most ≤ length l) (room : size s l < s.most) where
  abbrev written : List ℕ
  written = sets l (place s (size s l)) vs

  pub count_push : get_or (push s l vs) s.count 0 ≡ size s l + 1
  count_push = get_or-set_same written s.count (size s l + 1) 0 (rw length-sets (omega arith))

  pub size_push : size s (push s l vs) ≡ suc (size s l)
  unfolding size
  size_push = rw count_push (min-eq_left (omega arith) ∙ add-one (size s l))

  still : (j : ℕ) → row_at s (push s l vs) j ≡ row_at s written j
  unfolding row_at
  still j = part-set s.stride (place s j) written s.count (size s l + 1) (inl (omega arith))

  old : (j : ℕ) → j < size s l → row_at s (push s l vs) j ≡ row_at s l j
  unfolding row_at
  old j h = still j ∙ part_sets s.stride (place s j) vs l (place s (size s l)) (inr (row_step s h))

  new : row_at s (push s l vs) (size s l) ≡ vs
  unfolding row_at
  new = still (size s l) ∙ part_own vs l (place s (size s l)) s.stride full (omega (arith, row_step s room))

  pub records_push : {A : Type 0} (of : List ℕ → A) → records s of (push s l vs) ≡ records s of l ++ (of vs ∷ [])
  unfolding records table
  records_push of =
      rw size_push
      (ap (λ (r : List _). r ++ (of (row_at s (push s l vs) (size s l)) ∷ [])) (table_same _ _ (size s l) (λ j h. ap of (old j h)))
      ∙ ap (λ (r : List ℕ). records s of l ++ (of r ∷ [])) new)

  -- the words that no row has afterwards are as they were
  pub word_push : (k : ℕ) → s.count < k → Beside s (push s l vs) k → get_or (push s l vs) k 0 ≡ get_or l k 0
  word_push k h b =
      get_or-set_other written s.count k (size s l + 1) 0 (omega arith)
      ∙ word_sets vs l (place s (size s l)) k (out (rw size_push at b))
    where
      out : (k < s.base) ⊎ (place s (suc (size s l)) ≤ k) → (k < place s (size s l)) ⊎ (place s (size s l) + length vs ≤ k)
      out (inl a) = inl (omega arith)
      out (inr c) = inr (omega (arith, row_step s {i = size s l} {n = suc (size s l)} (omega arith)))

-- ---- two sections, neither in the other's way

pub record Apart (s t : Section) : Type 0 where
  pub rows_apart : (place s s.most ≤ t.base) ⊎ (place t t.most ≤ s.base)
  pub before_rows : (s.count < t.base) × (t.count < s.base)
  pub counts_apart : (s.count < t.count) ⊎ (t.count < s.count)

module _ (s t : Section) (l vs : List ℕ) (full : length vs ≡ s.stride) (apart : Apart s t) (room : size s l < s.most) where
  row_away : Away t (place s (size s l)) (length vs)
  row_away = record { rows_clear = clear apart.rows_apart; count_clear = inl (omega arith) }
    where
      clear : (place s s.most ≤ t.base) ⊎ (place t t.most ≤ s.base) → (place s (size s l) + length vs ≤ t.base) ⊎ (place t t.most ≤ place s (size s l))
      clear (inl a) = inl (omega (arith, row_step s room))
      clear (inr b) = inr (omega arith)

  number_away : Away t s.count 1
  number_away = record { rows_clear = inl (omega arith); count_clear = clear apart.counts_apart }
    where
      clear : (s.count < t.count) ⊎ (t.count < s.count) → (t.count < s.count) ⊎ (s.count + 1 ≤ t.count)
      clear (inl a) = inr (omega arith)
      clear (inr b) = inl b

  abbrev before : List ℕ
  before = sets l (place s (size s l)) vs

  pub count_push_other : get_or (push s l vs) t.count 0 ≡ get_or l t.count 0
  count_push_other = count_away t before ((size s l + 1) ∷ []) s.count number_away ∙ count_away t l vs (place s (size s l)) row_away

  pub records_push_other : {A : Type 0} (of : List ℕ → A) → records t of (push s l vs) ≡ records t of l
  records_push_other of =
      records_away t before ((size s l + 1) ∷ []) s.count number_away of
      ∙ records_away t l vs (place s (size s l)) row_away of
