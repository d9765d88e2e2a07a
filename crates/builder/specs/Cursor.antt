-- A scan of the table: what stands at a position, and where its cases and given edges stand.
use Rattle.std.specs.Prelude.{true, cond, ◌&&◌, ◌≡◌, List, [], ℕ, ◌+◌, ◌<◌, ◌≤◌, eqb, ltb, length, get_or, Option, Some, None}
use Rattle.image.specs.Image.{Image}
use Rattle.image.specs.Record.{source_from}
use Rattle.image.specs.Deal.{total}
use Rattle.image.specs.Accepted.{Accepted}
use Rattle.image.specs.declared.record.GivenSource.{GivenSource}
use Rattle.graph.specs.Fold.{count}
use Rattle.graph.specs.Table.{is_start}
use Rattle.graph.specs.Lookup.{Rising}
use Rattle.graph.specs.Transfer.{table_of, instruction_at, is_given, given_at, source_at}
use Rattle.builder.specs.declared.cursor.Cursor.{Cursor}
use Rattle.builder.specs.declared.cursor.Visit.{Visit}

-- 1 to 7 found nothing, but for 6: the table rises, and each given source is a start
pub record Sourced (m : Image) : Type 0 where
  pub accepted : Accepted m
  pub rising : Rising (table_of m)
  pub starts : (s : ℕ) → s < length m.sources → is_start (table_of m) (source_at m s).address ≡ true

-- the cases of the instructions before position p
unfoldable pub cases_before : Image → ℕ → ℕ
cases_before m p = total (λ q. (instruction_at m q).cases) p

-- the given sources at the positions before p, and their edges
unfoldable pub sources_before : Image → ℕ → ℕ
sources_before m p = count (λ q. is_given m q) p

unfoldable pub edges_before : Image → ℕ → ℕ
edges_before m p = total (λ s. (source_at m s).edges) (sources_before m p)

abbrev pub cursor_at : Image → ℕ → Cursor
cursor_at m p = record { at = p; case = cases_before m p; source = sources_before m p; edge = edges_before m p }

-- how many edges are given for the instruction at position p, if any are
unfoldable pub given_for : Image → ℕ → Option ℕ
given_for m p = cond (is_given m p) (Some (length (given_at m p))) None

abbrev pub visit_at : Image → ℕ → Visit
visit_at m p = record { instruction = instruction_at m p; given = given_for m p; next = cursor_at m (p + 1) }

-- the same from the cursor: source i, if the instruction at address a is it, and the cursor behind an instruction
unfoldable pub given_here : List GivenSource → ℕ → ℕ → Option ℕ
given_here sources i a =
    let source = get_or sources i (source_from [] 0) in
    cond (ltb i (length sources) && eqb source.address a) (Some source.edges) None

abbrev pub after : Cursor → ℕ → Option ℕ → Cursor
after c cases (Some n) = record { at = c.at + 1; case = c.case + cases; source = c.source + 1; edge = c.edge + n }
after c cases None = record { at = c.at + 1; case = c.case + cases; source = c.source; edge = c.edge }

-- there is a cursor behind such an instruction: it stands within what an image may have
pub record Steps (c : Cursor) (cases : ℕ) (given : Option ℕ) : Type 0 where
  pub at : c.at < 512
  pub case : c.case + cases ≤ 512
  pub source : (after c cases given).source ≤ 512
  pub edge : (after c cases given).edge ≤ 512
