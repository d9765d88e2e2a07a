-- The hops of an addition as words.
--     hops_number, lists_long      how many rows there are
--     hop_words, list_words          the words of a row
--     beside_own, beside_other     a word beside the rows with one more is beside them without it
--     hop_added, list_added        a row is written and counted
--     hop_is                       hop i, word by word
--     widened_snoc, last_widened   the last hop has a list more
--     hops_emptied                 no row
--     hops_none, hops_onto         no store, and one behind another
-- Assumes nothing.
use mathlib.Core.Path.{◌≡◌, refl, sym, ap, ◌∙◌}
use mathlib.Core.Logic.{◌⊎◌, inl, inr}
use mathlib.Core.List.{List, [], ◌∷◌, ◌++◌}
use Prim.Native.Nat.{ℕ, suc, ◌+◌, ◌*◌, ◌≤◌, ◌<◌}
use native.Mathlib.Nat.{mul-le-mul_left, add-zero}
use native.Mathlib.Omega.{arith}
use lib.Dec.{leb→le, lit<}
use lib.ListN.{length, get_or, drop, set}
use lib.Seq.{sets, sets-eq, get_or-take, get_or-drop, get_or-set_same, get_or-set_other}
use Rattle.image.specs.Image.{table}
use Rattle.graph.specs.Section.{Section, place, size, row_at, records, Beside}
use Rattle.graph.proofs.FoldLaws.{table_same, get_or_table}
use Rattle.graph.proofs.SectionLaws.{Apart, Away, count_away, records_away, size_most, push, length-records, size_push, records_push, word_sets, word_push, count_push_other, records_push_other}
use Rattle.unwind.specs.declared.hops.HopRow.{HopRow}
use Rattle.unwind.specs.declared.hops.ListRow.{ListRow}
use Rattle.unwind.specs.HopWords.{hop_rows, list_rows, hop_row, list_row, Rows, rows_in, hop_at, with_hop, with_run, wider, widened, with_wider, HopsStored, HopsEmptied}

abbrev pub hop_words : HopRow → List ℕ
hop_words x = x.source ∷ x.has_end ∷ x.end ∷ x.first ∷ x.lists ∷ []

abbrev pub list_words : ListRow → List ℕ
list_words t = t.step ∷ t.calls ∷ []

pub hops_number : (l : List ℕ) → length (rows_in l).hops ≡ size hop_rows l
unfolding rows_in
hops_number l = length-records hop_rows hop_row l

pub lists_long : (l : List ℕ) → length (rows_in l).lists ≡ size list_rows l
unfolding rows_in
lists_long l = length-records list_rows list_row l

hops_apart : Apart hop_rows list_rows
hops_apart = record { rows_apart = inl (leb→le _ _ tt); before_rows = (leb→le _ _ tt, leb→le _ _ tt); counts_apart = inl (leb→le _ _ tt) }

lists_apart : Apart list_rows hop_rows
lists_apart = record { rows_apart = inr (leb→le _ _ tt); before_rows = (leb→le _ _ tt, leb→le _ _ tt); counts_apart = inr (leb→le _ _ tt) }

-- more rows, and fewer words beside them
fewer : (t : Section) {m n k : ℕ} → m ≤ n → (k < t.base) ⊎ (place t n ≤ k) → (k < t.base) ⊎ (place t m ≤ k)
fewer t h (inl a) = inl a
fewer t {m} {n} h (inr b) = inr (omega (arith, mul-le-mul_left t.stride h))

-- a row more in section s, and none in t
module _ (s t : Section) (l vs : List ℕ) (full : length vs ≡ s.stride) (counted : s.count < s.base) (ends : place s s.most ≤ length l) (room : size s l < s.most) (apart : Apart s t) where
  other_size : size t (push s l vs) ≡ size t l
  unfolding size
  other_size = rw (count_push_other s t l vs full apart room)

  pub beside_own : (k : ℕ) → Beside s (push s l vs) k → Beside s l k
  beside_own k b = fewer s (omega (arith, size_push s l vs full counted ends room)) b

  pub beside_other : (k : ℕ) → Beside t (push s l vs) k → Beside t l k
  beside_other k b = fewer t (omega (arith, other_size)) b

module _ (l : List ℕ) (long : length l ≡ 18440) where
  hops_end : place hop_rows hop_rows.most ≤ length l
  hops_end = rw long (leb→le _ _ tt)

  lists_end : place list_rows list_rows.most ≤ length l
  lists_end = rw long (leb→le _ _ tt)

  hop_pushed : (x : HopRow) → size hop_rows l < 2048 → HopsStored l (push hop_rows l (hop_words x)) (with_hop (rows_in l) x)
  unfolding rows_in
  hop_pushed x room =
      record {
        holds = λ i. record { hops = records_push hop_rows l (hop_words x) refl (leb→le _ _ tt) hops_end room hop_row i; lists = records_push_other hop_rows list_rows l (hop_words x) refl hops_apart room list_row i };
        uses = λ k u. record { behind = u.behind; hops_beside = beside_own hop_rows list_rows l (hop_words x) refl (leb→le _ _ tt) hops_end room hops_apart k u.hops_beside; lists_beside = beside_other hop_rows list_rows l (hop_words x) refl (leb→le _ _ tt) hops_end room hops_apart k u.lists_beside };
        kept = λ k u. word_push hop_rows l (hop_words x) refl (leb→le _ _ tt) hops_end room k (let b = u.behind in omega arith) u.hops_beside;
      }

  list_pushed : (t : ListRow) → size list_rows l < 4096 → HopsStored l (push list_rows l (list_words t)) (with_run (rows_in l) t)
  unfolding rows_in
  list_pushed t room =
      record {
        holds = λ i. record { hops = records_push_other list_rows hop_rows l (list_words t) refl lists_apart room hop_row i; lists = records_push list_rows l (list_words t) refl (leb→le _ _ tt) lists_end room list_row i };
        uses = λ k u. record { behind = u.behind; hops_beside = beside_other list_rows hop_rows l (list_words t) refl (leb→le _ _ tt) lists_end room lists_apart k u.hops_beside; lists_beside = beside_own list_rows hop_rows l (list_words t) refl (leb→le _ _ tt) lists_end room lists_apart k u.lists_beside };
        kept = λ k u. word_push list_rows l (list_words t) refl (leb→le _ _ tt) lists_end room k (let b = u.behind in omega arith) u.lists_beside;
      }

  pub hop_added : (x : HopRow) (n : ℕ) → n ≡ size hop_rows l → n < 2048 → (written : List ℕ) → written ≡ sets l (8 + 5 * n) (hop_words x) → HopsStored l (set written 0 (n + 1)) (with_hop (rows_in l) x)
  hop_added x n is room written at = rw (at, is) (hop_pushed x (rw is at room))

  pub list_added : (t : ListRow) (n : ℕ) → n ≡ size list_rows l → n < 4096 → (written : List ℕ) → written ≡ sets l (10248 + 2 * n) (list_words t) → HopsStored l (set written 1 (n + 1)) (with_run (rows_in l) t)
  list_added t n is room written at = rw (at, is) (list_pushed t (rw is at room))

  pub hops_emptied : HopsEmptied l (sets l 0 (0 ∷ 0 ∷ []))
  unfolding rows_in records size table
  hops_emptied =
      record {
        holds = ap rows_in (sets-eq (0 ∷ 0 ∷ []) l 0 (omega arith)) ∙ refl;
        kept = λ k u. word_sets (0 ∷ 0 ∷ []) l 0 k (inr u.behind);
      }

-- ---- hops word by word

abbrev word : List ℕ → ℕ → ℕ → ℕ
word l i k = get_or l (8 + 5 * i + k) 0

abbrev read_hop : List ℕ → ℕ → HopRow
read_hop l i = record { source = get_or l (8 + 5 * i) 0; has_end = word l i 1; end = word l i 2; first = word l i 3; lists = word l i 4 }

row_word : (l : List ℕ) (i k : ℕ) → k < 5 → get_or (row_at hop_rows l i) k 0 ≡ word l i k
unfolding row_at
row_word l i k h = get_or-take 5 (drop (8 + 5 * i) l) k 0 h ∙ get_or-drop (8 + 5 * i) l k 0

row_read : (l : List ℕ) (i : ℕ) → hop_row (row_at hop_rows l i) ≡ read_hop l i
row_read l i =
    λ t.
    record {
      source = (row_word l i 0 (lit< tt) ∙ ap (λ (k : ℕ). get_or l k 0) (add-zero (8 + 5 * i))) t;
      has_end = row_word l i 1 (lit< tt) t;
      end = row_word l i 2 (lit< tt) t;
      first = row_word l i 3 (lit< tt) t;
      lists = row_word l i 4 (lit< tt) t;
    }

hops_table : (l : List ℕ) → (rows_in l).hops ≡ table (read_hop l) (size hop_rows l)
unfolding rows_in records
hops_table l = table_same _ _ (size hop_rows l) (λ i h. row_read l i)

pub hop_is : (l : List ℕ) (i : ℕ) → i < length (rows_in l).hops → hop_at (rows_in l) i ≡ read_hop l i
hop_is l i h = ap (λ (p : List HopRow). get_or p i (hop_row [])) (hops_table l) ∙ get_or_table (read_hop l) (size hop_rows l) i (hop_row []) (rw hops_number at h)

-- ---- the last hop has a list more

pub widened_snoc : (l : List HopRow) (x : HopRow) → widened (l ++ (x ∷ [])) ≡ l ++ (wider x ∷ [])
unfolding widened
widened_snoc [] x = refl
widened_snoc (y ∷ []) x = refl
widened_snoc (y ∷ z ∷ l) x = ap (λ (p : List HopRow). y ∷ p) (widened_snoc (z ∷ l) x)

module _ (l : List ℕ) (long : length l ≡ 18440) (n : ℕ) (last : suc n ≡ size hop_rows l) where
  at : ℕ
  at = 8 + 5 * n + 4

  after : List ℕ
  after = set l at (word l n 4 + 1)

  few : n < 2048
  few = omega (arith, last, size_most hop_rows l)

  hops_size : size hop_rows after ≡ size hop_rows l
  unfolding size after at
  hops_size = rw (get_or-set_other l at 0 (word l n 4 + 1) 0 (omega arith))

  away : Away list_rows at 1
  unfolding at
  away = record { rows_clear = inl (omega (arith, few)); count_clear = inl (omega arith) }

  lists_size : size list_rows after ≡ size list_rows l
  unfolding size after
  lists_size = rw (count_away list_rows l ((word l n 4 + 1) ∷ []) at away)

  word_other : (k : ℕ) → (k ≡ at → ⊥) → get_or after k 0 ≡ get_or l k 0
  unfolding after
  word_other k ne = get_or-set_other l at k (word l n 4 + 1) 0 ne

  before_same : (i : ℕ) → i < n → read_hop after i ≡ read_hop l i
  unfolding at
  before_same i h =
      λ t.
      record {
        source = word_other (8 + 5 * i) (omega arith) t;
        has_end = word_other (8 + 5 * i + 1) (omega arith) t;
        end = word_other (8 + 5 * i + 2) (omega arith) t;
        first = word_other (8 + 5 * i + 3) (omega arith) t;
        lists = word_other (8 + 5 * i + 4) (omega arith) t;
      }

  last_wider : read_hop after n ≡ wider (read_hop l n)
  unfolding at after
  last_wider =
      λ t.
      record {
        source = word_other (8 + 5 * n) (omega arith) t;
        has_end = word_other (8 + 5 * n + 1) (omega arith) t;
        end = word_other (8 + 5 * n + 2) (omega arith) t;
        first = word_other (8 + 5 * n + 3) (omega arith) t;
        lists = get_or-set_same l at (word l n 4 + 1) 0 (omega (arith, few)) t;
      }

  hops_widened : (rows_in after).hops ≡ widened (rows_in l).hops
  unfolding table
  hops_widened =
      hops_table after
      ∙ ap (table (read_hop after)) (hops_size ∙ sym last)
      ∙ ap (λ (p : List HopRow). p ++ (read_hop after n ∷ [])) (table_same _ _ n before_same)
      ∙ ap (λ (x : HopRow). table (read_hop l) n ++ (x ∷ [])) last_wider
      ∙ sym (widened_snoc (table (read_hop l) n) (read_hop l n))
      ∙ ap (λ (k : ℕ). widened (table (read_hop l) k)) last
      ∙ ap widened (sym (hops_table l))

  lists_same : (rows_in after).lists ≡ (rows_in l).lists
  unfolding rows_in after
  lists_same = records_away list_rows l ((word l n 4 + 1) ∷ []) at away list_row

  pub last_widened : HopsStored l (set l (8 + 5 * n + 4) (word l n 4 + 1)) (with_wider (rows_in l))
  unfolding after at
  last_widened =
      record {
        holds = λ i. record { hops = hops_widened i; lists = lists_same i };
        uses = λ k u. record { behind = u.behind; hops_beside = rw hops_size at u.hops_beside; lists_beside = rw lists_size at u.lists_beside };
        kept = λ k u. word_other k (clear k (rw hops_size at u.hops_beside));
      }
    where
      clear : (k : ℕ) → (k < 8) ⊎ (8 + 5 * size hop_rows l ≤ k) → k ≡ at → ⊥
      clear k (inl a) e = omega arith
      clear k (inr c) e = omega (arith, last)

-- ---- one store behind another

pub hops_none : (l : List ℕ) → HopsStored l l (rows_in l)
hops_none l = record { holds = refl; uses = λ k u. u; kept = λ k u. refl }

pub hops_onto : {l m n : List ℕ} {r r' : Rows} (f : Rows → Rows) → HopsStored l m r → HopsStored m n (f (rows_in m)) → f r ≡ r' → HopsStored l n r'
hops_onto f a b is =
    record {
      holds = b.holds ∙ ap f a.holds ∙ is;
      uses = λ k u. a.uses k (b.uses k u);
      kept = λ k u. b.kept k u ∙ a.kept k (b.uses k u);
    }
