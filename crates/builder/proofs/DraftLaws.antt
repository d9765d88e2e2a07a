-- Drafts of regions.
--     Filled, filled_none, filled_more, filled-all     an array of the first values of f, and zeros behind them
--     extents_read                    arrays that are filled with the ranges of all handlers
--     same_is, span_is                what is read of the ranges of handlers
--     place_on, place_here, place_end the place of a handler: behind the drafts of no lesser span
--     drafts_in, drafts_out           a handler that is a draft, and one that is not
--     put-none, put_on, put_end       one more among them, each behind it moved up after the other
--     below_set                       the numbers in an array stay places of it
--     counted_none, counted_size      an array with no place in use, and how many drafts one holds
--     drafted_all                     an array that holds the drafts of all handlers
--     drafted_size, drafted_at        how many drafts those are, and which stands at j
-- Assumes nothing.
use mathlib.Core.Path.{◌≡◌, refl, sym, ap, ◌∙◌}
use mathlib.Core.Logic.{⊎_elim}
use mathlib.Core.Bool.{true, false, ◌&&◌}
use mathlib.Core.List.{List, [], ◌∷◌, ◌++◌}
use Prim.Native.Nat.{ℕ, zero, suc, ◌+◌, ◌-◌, ◌<◌, ◌≤◌}
use native.Mathlib.Decide.{ℕ_discrete, dec_lt}
use native.Mathlib.Nat.{eq-or-lt_of_le, le_of_suc-le-suc}
use native.Mathlib.Numerals.{add-one}
use native.Mathlib.Omega.{arith}
use borrow.Author.Tests.{le-leb, lt-leb}
use lib.Dec.{eqb}
use lib.ListN.{length, get_or, take, drop, set, replicate, length-set, drop_of_length-le, get_or-eq_default}
use lib.Seq.{length-take-le, take-suc, drop-cons, append_snoc, take-suc-set, take-take, get_or-take, get_or-set_same, get_or-set_other}
use Rattle.image.specs.Image.{Image}
use Rattle.image.specs.Record.{handler_from}
use Rattle.image.specs.declared.record.Handler.{Handler}
use Rattle.graph.specs.Leaders.{handler_at}
use Rattle.graph.specs.Regions.{same_range, is_draft, span, place, drafts_below, drafts}
use Rattle.builder.specs.Drafts.{Extents, Counted, Drafted, put}

-- ---- the ranges of handlers, in arrays

zeros : (n i : ℕ) → get_or {A = ℕ} (replicate n 0) i 0 ≡ 0
zeros zero i = refl
zeros (suc n) zero = refl
zeros (suc n) (suc i) = zeros n i

pub record Filled (f : ℕ → ℕ) (n : ℕ) (l : List ℕ) : Type 0 where
  pub room : length l ≡ 32
  pub before : (i : ℕ) → i < n → get_or l i 0 ≡ f i
  pub behind : (i : ℕ) → n ≤ i → get_or l i 0 ≡ 0

pub filled_none : (f : ℕ → ℕ) → Filled f 0 (replicate 32 0)
filled_none f = record { room = refl; before = λ i h. absurd (omega arith); behind = λ i h. zeros 32 i }

module _ {f : ℕ → ℕ} {n : ℕ} {l : List ℕ} (filled : Filled f n l) where
  pub filled_more : (v : ℕ) → n < 32 → v ≡ f n → Filled f (n + 1) (set l n v)
  filled_more v lt is =
      let long = filled.room in
      record {
        room = length-set l n v ∙ long;
        before = λ i h.
            ⊎_elim
            (λ same. rw same (get_or-set_same l n v 0 (omega arith) ∙ is))
            (λ less. get_or-set_other l n i v 0 (λ e. omega arith) ∙ filled.before i less)
            (eq-or-lt_of_le (le_of_suc-le-suc (rw (add-one n) at h)));
        behind = λ i h. get_or-set_other l n i v 0 (λ e. omega arith) ∙ filled.behind i (omega arith);
      }

  pub filled-all : ((i : ℕ) → n ≤ i → f i ≡ 0) → (i : ℕ) → get_or l i 0 ≡ f i
  filled-all none i = elim (dec_lt i n) [ yes lt ↦ filled.before i lt | no ge ↦ filled.behind i (omega arith) ∙ sym (none i (omega arith)) ]

handler_past : (m : Image) (h : ℕ) → length m.handlers ≤ h → handler_at m h ≡ handler_from [] 0
unfolding handler_at
handler_past m h le = get_or-eq_default m.handlers (handler_from [] 0) {n = h} le

pub extents_read : (m : Image) (starts ends : List ℕ) (n : ℕ) → n ≡ length m.handlers → Filled (λ h. (handler_at m h).start) n starts → Filled (λ h. (handler_at m h).end) n ends → Extents m starts ends
extents_read m starts ends n all from to =
    record {
      start = filled-all from (λ i h. ap (λ (x : Handler). x.start) (handler_past m i (rw all at h)));
      end = filled-all to (λ i h. ap (λ (x : Handler). x.end) (handler_past m i (rw all at h)));
    }

module _ {m : Image} {starts ends : List ℕ} (extents : Extents m starts ends) where
  pub same_is : (a b : ℕ) → (eqb (get_or starts a 0) (get_or starts b 0) && eqb (get_or ends a 0) (get_or ends b 0)) ≡ same_range m a b
  unfolding same_range
  same_is a b = rw (extents.start a, extents.start b, extents.end a, extents.end b)

  pub span_is : (h : ℕ) → get_or ends h 0 - get_or starts h 0 ≡ span m h
  unfolding span
  span_is h = rw (extents.start h, extents.end h)

-- ---- drafts

module _ (m : Image) where
  module _ (h : ℕ) (gs : List ℕ) where
    pub place_on : (j : ℕ) → j < length gs → span m h ≤ span m (get_or gs j 0) → take j gs ++ place m h (drop j gs) ≡ take (j + 1) gs ++ place m h (drop (j + 1) gs)
    unfolding place
    place_on j lt le =
        rw (add-one j, drop-cons gs j 0 lt, take-suc gs j 0 lt, le-leb (span m h) (span m (get_or gs j 0)) le)
        (sym (append_snoc (take j gs) (get_or gs j 0) (place m h (drop (suc j) gs))))

    pub place_here : (j : ℕ) → j < length gs → span m (get_or gs j 0) < span m h → take j gs ++ place m h (drop j gs) ≡ put j h gs
    unfolding place
    place_here j lt less = rw (drop-cons gs j 0 lt, lt-leb (span m h) (span m (get_or gs j 0)) less)

    pub place_end : (n : ℕ) → n ≡ length gs → take n gs ++ place m h (drop n gs) ≡ put n h gs
    unfolding place
    place_end n e = rw (drop_of_length-le gs {i = n} (omega arith))

  pub drafts_in : (h : ℕ) → is_draft m h ≡ true → drafts_below m (h + 1) ≡ place m h (drafts_below m h)
  unfolding drafts_below
  drafts_in h e = rw (add-one h, e)

  pub drafts_out : (h : ℕ) → is_draft m h ≡ false → drafts_below m (h + 1) ≡ drafts_below m h
  unfolding drafts_below
  drafts_out h e = rw (add-one h, e)

pub put-none : (j h : ℕ) (l : List ℕ) (n : ℕ) → j ≤ n → take j l ++ h ∷ drop j (take n l) ≡ put j h (take n l)
put-none j h l n le = rw (take-take j n l le)

module _ (l gs : List ℕ) (k next : ℕ) (h : k < length l) where
  pub put_on : k < length gs → take (k + 1) (set l k next) ++ get_or gs k 0 ∷ drop (k + 1) gs ≡ take k l ++ next ∷ drop k gs
  put_on lt = rw (add-one k, take-suc-set l k next h, drop-cons gs k 0 lt) (append_snoc (take k l) next (get_or gs k 0 ∷ drop (suc k) gs))

  pub put_end : k ≡ length gs → take (k + 1) (set l k next) ≡ take k l ++ next ∷ drop k gs
  put_end e = rw (add-one k, take-suc-set l k next h, drop_of_length-le gs {i = k} (omega arith))

pub below_set : (l : List ℕ) (k v : ℕ) → k < length l → v < 32 → ((i : ℕ) → get_or l i 0 < 32) → (i : ℕ) → get_or (set l k v) i 0 < 32
below_set l k v h lt below i =
    elim (ℕ_discrete i k) [ yes e ↦ rw (e, get_or-set_same l k v 0 h) lt | no ne ↦ rw (get_or-set_other l k i v 0 ne) (below i) ]

pub counted_none : Counted (replicate 32 0) 0
counted_none = record { room = refl; within = omega arith; below = λ k. rw (zeros 32 k) (omega arith) }

module _ {l : List ℕ} {n : ℕ} where
  pub counted_size : Counted l n → length (take n l) ≡ n
  counted_size counted = length-take-le n l (omega arith)

  pub drafted_all : (m : Image) (h : ℕ) → h ≡ length m.handlers → Counted l n → take n l ≡ drafts_below m h → Drafted l n (drafts m)
  unfolding drafts
  drafted_all m h all counted e = record { counted = counted; list = rw all at e }

  pub drafted_size : {gs : List ℕ} → Drafted l n gs → length gs ≡ n
  drafted_size drafted = ap length (sym drafted.list) ∙ counted_size drafted.counted

  pub drafted_at : {gs : List ℕ} → Drafted l n gs → (j : ℕ) → j < n → get_or l j 0 ≡ get_or gs j 0
  drafted_at drafted j h = sym (get_or-take n l j 0 h) ∙ ap (λ (k : List ℕ). get_or k j 0) drafted.list
