-- What address look-up answers in a table whose addresses rise.
use Rattle.std.specs.Prelude.{true, false, ◌≡◌, List, ℕ, ◌<◌, length, Option, Some, None}
use Rattle.image.specs.Record.{instruction_from}
use Rattle.image.specs.Image.{records_in}
use Rattle.image.specs.declared.section.Section.{Section}
use Rattle.graph.specs.declared.record.TableEntry.{TableEntry}
use Rattle.graph.specs.Table.{entry_at, is_start, below}
use Rattle.graph.specs.Transfer.{entries_of}

-- the table whose instructions stand in a section
abbrev pub entries_in : List ℕ → Section → List TableEntry
entries_in l y = entries_of (records_in instruction_from l y)

abbrev pub Rising : List TableEntry → Type 0
Rising t = (i j : ℕ) → i < j → j < length t → (entry_at t i).address < (entry_at t j).address

abbrev pub Finds : List TableEntry → ℕ → Option ℕ → Type 0
Finds t a (Some k) = (is_start t a ≡ true) × (below t a ≡ k) × (k < length t)
Finds t a None = is_start t a ≡ false
