-- The table: starts and positions.
--     length-entries, entry_is        the entries of a list of instructions
--     size_is, address_is, end_is     the same of the records in the bytes, and of what is read there
--     entry_address                   the same of an image
--     start_at, start_none            where an instruction starts, and where none does
--     start_has                       the place of a start
--     start_never, start_place        which entry stands at an address: none, or that at its position
--     rises                           what rises step by step rises
--     below_at, below_most            the position of a start in a table that rises, and a bound
--     Between, go_right, go_left      a search by halving: where the address can only stand
-- Assumes nothing.
use mathlib.Core.Bool.{Bool, true, false, ◌||◌, or-true, false≢true}
use mathlib.Core.Path.{◌≡◌, refl, sym, ap, ◌∙◌}
use mathlib.Core.List.{List, [], ◌∷◌}
use mathlib.Core.Logic.{⊎_elim}
use Prim.Native.Nat.{ℕ, zero, suc, ◌+◌, ◌<◌, ◌≤◌}
use native.Mathlib.Nat.{eq-or-lt_of_le, le_of_suc-le-suc}
use native.Mathlib.Decide.{dec_lt, ℕ_discrete}
use native.Mathlib.Omega.{arith}
use borrow.Author.Tests.{eqb-true, eq-eqb, ne_eqb, lt-ltb, le-ltb}
use lib.Dec.{eqb, ltb}
use lib.ListN.{length, get_or, length-map, get_or-map}
use Rattle.image.specs.Record.{instruction_from}
use Rattle.image.specs.Image.{Image, records_in}
use Rattle.image.specs.declared.section.Section.{Section}
use Rattle.image.proofs.Tables.{length-records}
use Rattle.image.specs.declared.record.Instruction.{Instruction}
use Rattle.graph.specs.declared.record.TableEntry.{TableEntry}
use Rattle.graph.specs.Table.{entry_at, is_start, below}
use Rattle.graph.specs.Transfer.{table_entry, entries_of, table_of, instruction_at, address_at}
use Rattle.graph.specs.Lookup.{Rising}

pub length-entries : (is : List Instruction) → length (entries_of is) ≡ length is
unfolding entries_of
length-entries is = length-map is table_entry

pub entry_is : (is : List Instruction) (p : ℕ) → entry_at (entries_of is) p ≡ table_entry (get_or is p (instruction_from [] 0))
unfolding entry_at entries_of table_entry
entry_is is p = get_or-map table_entry is p (instruction_from [] 0)

pub size_is : (l : List ℕ) (y : Section) → length (entries_of (records_in instruction_from l y)) ≡ y.count
size_is l y = length-entries (records_in instruction_from l y) ∙ length-records instruction_from l y

pub address_is : (is : List Instruction) (p : ℕ) (i : Instruction) → i ≡ get_or is p (instruction_from [] 0) → (entry_at (entries_of is) p).address ≡ i.address
unfolding table_entry
address_is is p i e = ap (λ (x : TableEntry). x.address) (entry_is is p) ∙ ap (λ (x : Instruction). x.address) (sym e)

pub end_is : (is : List Instruction) (p : ℕ) (i : Instruction) → i ≡ get_or is p (instruction_from [] 0) → (entry_at (entries_of is) p).end ≡ i.end
unfolding table_entry
end_is is p i e = ap (λ (x : TableEntry). x.end) (entry_is is p) ∙ ap (λ (x : Instruction). x.end) (sym e)

pub entry_address : (m : Image) (p : ℕ) → (entry_at (table_of m) p).address ≡ address_at m p
unfolding instruction_at
entry_address m p = address_is m.instructions p (instruction_at m p) refl

pub start_at : (t : List TableEntry) (a k : ℕ) → k < length t → (entry_at t k).address ≡ a → is_start t a ≡ true
unfolding is_start entry_at
start_at [] a k h e = absurd (omega arith)
start_at (x ∷ t) a zero h e = rw (eq-eqb x.address a e)
start_at (x ∷ t) a (suc k) h e = rw (start_at t a k (omega arith) e) (or-true (eqb x.address a))

pub start_none : (t : List TableEntry) (a : ℕ) → ((k : ℕ) → k < length t → (entry_at t k).address ≡ a → ⊥) → is_start t a ≡ false
unfolding is_start entry_at
start_none [] a h = refl
start_none (x ∷ t) a h = rw (ne_eqb x.address a (h zero (omega arith))) (start_none t a (λ k lt e. h (suc k) (omega arith) e))

pub start_has : (t : List TableEntry) (a : ℕ) → is_start t a ≡ true → (k : ℕ) × (k < length t) × ((entry_at t k).address ≡ a)
unfolding is_start entry_at
start_has [] a e = absurd (false≢true e)
start_has (x ∷ t) a e = go (eqb x.address a) refl e (start_has t a)
  where
    go : (b : Bool) → eqb x.address a ≡ b → (b || is_start t a) ≡ true
        → (is_start t a ≡ true → (k : ℕ) × (k < length t) × ((entry_at t k).address ≡ a)) → (k : ℕ) × (k < suc (length t)) × ((entry_at (x ∷ t) k).address ≡ a)
    go true same _ _ = (zero, omega arith, eqb-true x.address a same)
    go false _ later has = let found = has later in (suc found.0, omega (arith, found.1), found.2)

pub rises : (f : ℕ → ℕ) (n : ℕ) → ((i : ℕ) → suc i < n → f i < f (suc i)) → (i j : ℕ) → i < j → j < n → f i < f j
rises f n step i zero h lt = absurd (omega arith)
rises f n step i (suc j) h lt =
    ⊎_elim (λ same. rw same (step j lt))
    (λ less. omega (arith, rises f n step i j less (omega arith), step j lt))
    (eq-or-lt_of_le (le_of_suc-le-suc h))

below_none : (t : List TableEntry) (a : ℕ) → ((k : ℕ) → k < length t → a ≤ (entry_at t k).address) → below t a ≡ 0
unfolding below entry_at
below_none [] a h = refl
below_none (x ∷ t) a h = rw (le-ltb x.address a (h zero (omega arith))) (below_none t a (λ k lt. h (suc k) (omega arith)))

pub below_at : (t : List TableEntry) → Rising t → (k : ℕ) → k < length t → below t (entry_at t k).address ≡ k
unfolding below entry_at
below_at [] rising k h = absurd (omega arith)
below_at (x ∷ t) rising zero h =
    rw (le-ltb x.address x.address (omega arith))
    (below_none t x.address (λ k lt. let r = rising zero (suc k) (omega arith) (omega arith) in omega arith))
below_at (x ∷ t) rising (suc k) h =
    rw (lt-ltb x.address (entry_at t k).address (rising zero (suc k) (omega arith) h))
    (ap suc (below_at t (λ i j lt hj. rising (suc i) (suc j) (omega arith) (omega arith)) k (omega arith)))

pub below_most : (t : List TableEntry) (a : ℕ) → below t a ≤ length t
unfolding below
below_most [] a = omega arith
below_most (x ∷ t) a = go (ltb x.address a) (below_most t a)
  where
    go : (b : Bool) → below t a ≤ length t → mathlib.Core.Bool.cond b (suc (below t a)) (below t a) ≤ suc (length t)
    go true h = omega arith
    go false h = omega arith

pub start_never : (t : List TableEntry) (a k : ℕ) → is_start t a ≡ false → k < length t → eqb (entry_at t k).address a ≡ false
start_never t a k e h = ne_eqb _ a (λ same. false≢true (sym e ∙ start_at t a k h same))

pub start_place : (t : List TableEntry) → Rising t → (a k p : ℕ) → is_start t a ≡ true → below t a ≡ k → p < length t → eqb p k ≡ eqb (entry_at t p).address a
start_place t rising a k p e at h =
    elim (ℕ_discrete p k) [
      | yes same ↦ eq-eqb p k same ∙ sym (eq-eqb _ a (ap (λ (i : ℕ). (entry_at t i).address) (same ∙ sym at ∙ there found.0 found.1 found.2) ∙ found.2))
      | no ne ↦ ne_eqb p k ne ∙ sym (ne_eqb _ a (λ same. ne (sym (there p h same) ∙ at)))
    ]
  where
    found : (i : ℕ) × (i < length t) × ((entry_at t i).address ≡ a)
    found = start_has t a e

    there : (i : ℕ) → i < length t → (entry_at t i).address ≡ a → below t a ≡ i
    there i lt same = rw same at (below_at t rising i lt)

-- wherever a stands in t, it stands from lo on and before hi
abbrev pub Between : List TableEntry → ℕ → ℕ → ℕ → Type 0
Between t a lo hi = (k : ℕ) → k < length t → (entry_at t k).address ≡ a → (lo ≤ k) × (k < hi)

module _ (t : List TableEntry) (rising : Rising t) where
  -- of two places the lower address comes first
  before : (i j : ℕ) → i < length t → (entry_at t i).address < (entry_at t j).address → i < j
  before i j h lt =
      elim (dec_lt i j) [
        | yes a ↦ a
        | no b ↦ elim (ℕ_discrete i j) [ yes e ↦ omega (arith, ap (λ (k : ℕ). (entry_at t k).address) e) | no n ↦ omega (arith, rising j i (omega arith) h) ]
      ]

  module _ (a lo hi mid : ℕ) (left : Between t a lo hi) (h : mid < length t) where
    pub go_right : (entry_at t mid).address < a → Between t a (mid + 1) hi
    go_right lt k hk e = (omega (arith, before mid k h (omega arith)), (left k hk e).1)

    pub go_left : a < (entry_at t mid).address → Between t a lo mid
    go_left lt k hk e = ((left k hk e).0, before k mid hk (omega arith))
