-- The instruction table: where instructions start, and which ranges of addresses are good.
use Rattle.std.specs.Prelude.{Bool, false, cond, ◌||◌, List, [], ◌∷◌, ℕ, suc, max, eqb, ltb, get_or}
use Rattle.image.specs.Refusal.{Check, refusal, ◌then◌, unless}
use Rattle.graph.specs.declared.record.TableEntry.{TableEntry}

-- the entry at a position, of zeros past the end
abbrev pub no_entry : TableEntry
no_entry = record { address = 0; end = 0; has_end = 0; keeps = 0; flow = 0 }

unfoldable pub entry_at : List TableEntry → ℕ → TableEntry
entry_at t p = get_or t p no_entry

-- an instruction starts at a
unfoldable pub is_start : List TableEntry → ℕ → Bool
is_start [] a = false
is_start (e ∷ t) a = eqb e.address a || is_start t a

-- how many starts are below a: the position of a start in a table that rises
unfoldable pub below : List TableEntry → ℕ → ℕ
below [] a = 0
below (e ∷ t) a = cond (ltb e.address a) (suc (below t a)) (below t a)

-- 'the greatest end of all'
unfoldable pub code_end_of : List TableEntry → ℕ
code_end_of [] = 0
code_end_of (e ∷ t) = max e.end (code_end_of t)

-- '10 EmptyProtectedRange (start, end), 11 MissingRangeStart, 12 MissingRangeEnd'; 'A range ending at the greatest end of
-- all is accepted'. Its positions go from `below t start` up to `below t end`.
unfoldable pub range_check : List TableEntry → ℕ → ℕ → Check
range_check t start end =
    unless (ltb start end) (refusal 10 start end)
    then unless (is_start t start) (refusal 11 start 0)
    then unless (eqb end (code_end_of t) || is_start t end) (refusal 12 end 0)
