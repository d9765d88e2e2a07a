-- What the code that adds edges is lent, and what it answers on the way.
use Rattle.std.specs.Prelude.{true, false, ◌≡◌, List, [], ℕ, ◌+◌, ◌<◌, ◌≤◌, length, get_or, Option, Some, None}
use Rattle.image.specs.Refusal.{clear}
use Rattle.image.specs.Image.{Image}
use Rattle.image.specs.Record.{case_from}
use Rattle.graph.specs.declared.record.Edge.{Edge}
use Rattle.graph.specs.declared.record.UnresolvedTransfer.{UnresolvedTransfer}
use Rattle.graph.specs.Table.{below}
use Rattle.graph.specs.Lookup.{Rising}
use Rattle.graph.specs.Fold.{flat, checks}
use Rattle.graph.specs.Flow.{kind_of, unresolved_role}
use Rattle.graph.specs.Transfer.{table_of, size, cases_at, Transfer, has_target, case_transfer, transfer_at}
use Rattle.graph.specs.Blocks.{block_of}
use Rattle.graph.specs.Edges.{resolved, transfer_edges, transfer_unresolved, range_first, range_size, unwind_edges}
use Rattle.graph.specs.Build.{given_check}
use Rattle.builder.specs.declared.cursor.Cursor.{Cursor}
use Rattle.builder.specs.declared.cursor.Visit.{Visit}
use Rattle.builder.specs.Cursor.{Sourced, cursor_at, visit_at}

-- there is room for the number of each position's block, and the first is 0
abbrev pub Fits : Image → List ℕ → Type 0
Fits m blocks = (size m ≤ length blocks) × (get_or blocks 0 0 ≡ 0)

-- the blocks are numbered by position, in a table that rises
pub record Numbered (m : Image) (blocks : List ℕ) : Type 0 where
  pub rising : Rising (table_of m)
  pub room : size m ≤ length blocks
  pub block : (p : ℕ) → p < size m → get_or blocks p 0 ≡ block_of m p

-- 1 to 9 found nothing, but for 6, and the blocks are numbered by position
pub record Emitting (m : Image) (blocks : List ℕ) : Type 0 where
  pub sourced : Sourced m
  pub given : checks (given_check m) (size m) ≡ clear
  pub room : size m ≤ length blocks
  pub block : (p : ℕ) → p < size m → get_or blocks p 0 ≡ block_of m p

-- a cursor, and the visit of the instruction there
pub record Visiting (m : Image) (c : Cursor) (visit : Visit) : Type 0 where
  pub here : c ≡ cursor_at m c.at
  pub within : c.at < size m
  pub is : visit ≡ visit_at m c.at

-- what the first k slots of the instruction at p give, and the first k cases
abbrev pub slot_edges : Image → ℕ → ℕ → List Edge
slot_edges m p k = flat (λ i. transfer_edges m p (transfer_at m p i)) k

abbrev pub slot_unresolved : Image → ℕ → ℕ → List UnresolvedTransfer
slot_unresolved m p k = flat (λ i. transfer_unresolved m p (transfer_at m p i)) k

abbrev pub case_at : Image → ℕ → ℕ → Transfer
case_at m p i = case_transfer (get_or (cases_at m p) i (case_from [] 0)) i

abbrev pub case_edges : Image → ℕ → ℕ → List Edge
case_edges m p k = flat (λ i. transfer_edges m p (case_at m p i)) k

abbrev pub case_unresolved : Image → ℕ → ℕ → List UnresolvedTransfer
case_unresolved m p k = flat (λ i. transfer_unresolved m p (case_at m p i)) k

-- the exception edges of what handler h protects
abbrev pub handler_edges : Image → ℕ → List Edge
handler_edges m h = flat (λ i. unwind_edges m h (range_first m h + i)) (range_size m h)

-- where a transfer leads
abbrev pub Resolves : Image → Transfer → Option ℕ → Type 0
Resolves m x (Some k) = (resolved m x ≡ true) × (below (table_of m) x.target ≡ k) × (k < size m)
Resolves m x None = resolved m x ≡ false

-- the edge between two blocks that a transfer of the instruction at an address makes, and its unresolved record
abbrev pub edge_between : ℕ → ℕ → ℕ → Transfer → Edge
edge_between b c a x =
    record {
      source = b;
      target = c;
      kind = kind_of x.role;
      role = x.role;
      number = x.number;
      key = x.key;
      source_address = a;
      target_address = x.target;
    }

abbrev pub unresolved_from : ℕ → Transfer → UnresolvedTransfer
unresolved_from a x = record { source = a; target = x.target; role = unresolved_role x.role (has_target x); case_index = x.number }
