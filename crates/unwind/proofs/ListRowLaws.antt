-- The call lists of hops, word by word.
--     list_is      list k
-- Assumes nothing.
use mathlib.Core.Path.{◌≡◌, ap, ◌∙◌}
use mathlib.Core.List.{List, []}
use Prim.Native.Nat.{ℕ, ◌+◌, ◌*◌, ◌<◌}
use native.Mathlib.Nat.{add-zero}
use lib.Dec.{lit<}
use lib.ListN.{length, get_or, drop}
use lib.Seq.{get_or-take, get_or-drop}
use Rattle.image.specs.Image.{table}
use Rattle.graph.specs.Section.{size, row_at, records}
use Rattle.graph.proofs.FoldLaws.{table_same, get_or_table}
use Rattle.unwind.specs.declared.hops.ListRow.{ListRow}
use Rattle.unwind.specs.HopWords.{list_rows, list_row, rows_in}
use Rattle.unwind.proofs.HopLaws.{lists_long}

abbrev read_list : List ℕ → ℕ → ListRow
read_list l k = record { step = get_or l (10248 + 2 * k) 0; calls = get_or l (10248 + 2 * k + 1) 0 }

list_word : (l : List ℕ) (k j : ℕ) → j < 2 → get_or (row_at list_rows l k) j 0 ≡ get_or l (10248 + 2 * k + j) 0
unfolding row_at
list_word l k j h = get_or-take 2 (drop (10248 + 2 * k) l) j 0 h ∙ get_or-drop (10248 + 2 * k) l j 0

list_read : (l : List ℕ) (k : ℕ) → list_row (row_at list_rows l k) ≡ read_list l k
list_read l k =
    λ t.
    record {
      step = (list_word l k 0 (lit< tt) ∙ ap (λ (j : ℕ). get_or l j 0) (add-zero (10248 + 2 * k))) t;
      calls = list_word l k 1 (lit< tt) t;
    }

lists_table : (l : List ℕ) → (rows_in l).lists ≡ table (read_list l) (size list_rows l)
unfolding rows_in records
lists_table l = table_same _ _ (size list_rows l) (λ k h. list_read l k)

pub list_is : (l : List ℕ) (k : ℕ) → k < length (rows_in l).lists → get_or (rows_in l).lists k (list_row []) ≡ read_list l k
list_is l k h = ap (λ (p : List ListRow). get_or p k (list_row [])) (lists_table l) ∙ get_or_table (read_list l) (size list_rows l) k (list_row []) (rw lists_long at h)
