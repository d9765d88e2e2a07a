-- The table of f: which entry stands at i. The same of the records of a section.
--     length-table, table_in_law, table_past
--     length-records, records_in_law, records_past
--     record_there                a record of a section that is there ends within the bytes
--     records-none                a section that counts no record has none
--     records-all                 what holds of the record of zeros and of each in the section holds at every i
-- Assumes nothing.
use mathlib.Core.Path.{◌≡◌, refl, ap, ◌∙◌}
use mathlib.Core.Logic.{⊎_elim}
use mathlib.Core.List.{List, [], ◌∷◌, ◌++◌}
use Prim.Native.Nat.{ℕ, zero, suc, ◌+◌, ◌-◌, ◌*◌, ◌<◌, ◌≤◌}
use native.Mathlib.Nat.{eq-or-lt_of_le, le_of_suc-le-suc, mul-suc, mul-zero, mul-le-mul_left}
use native.Mathlib.Numerals.{add-one}
use native.Mathlib.Omega.{arith}
use native.Mathlib.Decide.{dec_lt}
use lib.ListN.{length, get_or, length-append, get_or-append, get_or-eq_default}
use lib.Seq.{get_or_at}
use Rattle.image.specs.Image.{table, place_in, records_in}
use Rattle.image.specs.There.{Holds}
use Rattle.image.specs.Table.{records_at}
use Rattle.image.specs.declared.section.Section.{Section}

module _ {A : Type 0} (f : ℕ → A) (d : A) where
  pub length-table : (n : ℕ) → length (table f n) ≡ n
  unfolding table
  length-table zero = refl
  length-table (suc n) = length-append (table f n) (f n ∷ []) ∙ (rw (length-table n) (add-one n))

  pub table_in_law : (n i : ℕ) → i < n → get_or (table f n) i d ≡ f i
  unfolding table
  table_in_law zero i h = absurd (omega arith)
  table_in_law (suc n) i h =
      ⊎_elim (λ same. rw same (get_or_at (table f n) (f n) [] d n (length-table n)))
      (λ less. get_or-append (table f n) (f n ∷ []) d i (rw (length-table n) less) ∙ table_in_law n i less)
      (eq-or-lt_of_le (le_of_suc-le-suc h))

  pub table_past : (n i : ℕ) → n ≤ i → get_or (table f n) i d ≡ d
  table_past n i h = get_or-eq_default (table f n) d (rw (length-table n) h)

module _ {A : Type 0} (from : List ℕ → ℕ → A) (l : List ℕ) (y : Section) where
  pub length-records : length (records_in from l y) ≡ y.count
  unfolding records_in
  length-records = length-table _ (from [] 0) y.count

  pub records-none : y.count ≡ 0 → records_in from l y ≡ []
  unfolding records_in table
  records-none h = rw h

  pub records_in_law : (i : ℕ) → i < y.count → get_or (records_in from l y) i (from [] 0) ≡ from l (place_in y i)
  unfolding records_in
  records_in_law i h = table_in_law _ (from [] 0) y.count i h

  pub records_past : (i : ℕ) → y.count ≤ i → get_or (records_in from l y) i (from [] 0) ≡ from [] 0
  unfolding records_in
  records_past i h = table_past _ (from [] 0) y.count i h

  pub records-all : (P : A → Type 0) → P (from [] 0) → ((i : ℕ) → i < y.count → P (from l (place_in y i))) → (i : ℕ) → P (get_or (records_in from l y) i (from [] 0))
  records-all P zeros each i =
      elim (dec_lt i y.count) [ yes h ↦ rw (records_in_law i h) (each i h) | no h ↦ rw (records_past i (omega arith)) zeros ]

pub record_there : (l : List ℕ) (y : Section) (i w : ℕ) → Holds l y w → i < y.count → place_in y i + w ≤ length l
record_there l y i w h less = omega (arith, h.0, h.1, rw mul-suc at (mul-le-mul_left y.width less))

-- the first entry, then the others
table_cons : {A : Type 0} (f : ℕ → A) (n : ℕ) → table f (suc n) ≡ f 0 ∷ table (λ i. f (suc i)) n
unfolding table
table_cons f zero = refl
table_cons f (suc n) = ap (λ (xs : List _). xs ++ (f (suc n) ∷ [])) (table_cons f n)

-- n records from a place on, w bytes each
module _ {A : Type 0} (w : ℕ) (from : List ℕ → ℕ → A) (l : List ℕ) (at : ℕ) where
  pub length-records_at : (n : ℕ) → length (records_at w from l at n) ≡ n
  length-records_at n = length-table _ (from [] 0) n

  pub get_or-records_at : (n i : ℕ) → i < n → get_or (records_at w from l at n) i (from [] 0) ≡ from l (at + w * i)
  get_or-records_at n i h = table_in_law _ (from [] 0) n i h

  next_place : (i : ℕ) → at + w * suc i ≡ at + w + w * i
  next_place i = omega (arith, mul-suc w i)

  pub records_at-cons : (n : ℕ) → 0 < n → records_at w from l at n ≡ from l at ∷ records_at w from l (at + w) (n - 1)
  records_at-cons zero h = absurd (omega arith)
  records_at-cons (suc n) h =
      let first : at + w * 0 ≡ at = omega (arith, mul-zero w) in
      let one : suc n - 1 ≡ n = omega arith in
      rw one (table_cons _ n ∙ (λ j. from l (first j) ∷ table (λ i. from l (next_place i j)) n))

pub records_at-none : {A : Type 0} (w : ℕ) (from : List ℕ → ℕ → A) (l : List ℕ) (at : ℕ) → records_at w from l at 0 ≡ []
unfolding table
records_at-none w from l at = refl

pub records_in-at : {A : Type 0} (w : ℕ) (from : List ℕ → ℕ → A) (l : List ℕ) (y : Section) → y.width ≡ w → records_in from l y ≡ records_at w from l y.at y.count
unfolding records_in
records_in-at w from l y h = ap (λ k. table (λ i. from l (y.at + k * i)) y.count) h

pub place_there : (at w i n e : ℕ) → i < n → at + w * n ≤ e → at + w * i + w ≤ e
place_there at w i n e less h = omega (arith, rw mul-suc at (mul-le-mul_left w less))

pub ruleset records = (records_in_law, records_past, record_there)

pub ruleset tables = (length-records_at, get_or-records_at, records_at-cons, records_at-none, records_in-at, place_there)
