-- The rows of a kind, and what a row more does to the graph.
--     rows_there    the rows that are read are the first ones, where there are so many
--     x_count, x_most     how many records are read: as many as are counted, and no more than there may be
--     Step, step_more, step_full     a row behind the last that is counted, or no room
--     x_added       the graph with a row more is the graph with the record more
-- for x of entry, block, edge, region, handler, unresolved, call.
-- Assumes nothing.
use mathlib.Core.Path.{◌≡◌, refl, sym}
use mathlib.Core.List.{List, [], ◌∷◌, ◌++◌}
use Prim.Native.Nat.{ℕ, zero, suc, ◌+◌, ◌≤◌, ◌<◌, min}
use native.Mathlib.Nat.{le_refl}
use native.Mathlib.Numerals.{add-one}
use native.Mathlib.Omega.{arith}
use borrow.Author.Tests.{lt-ltb, le-ltb}
use lib.ListN.{length, get_or, take, drop, set, length-set}
use lib.Seq.{take-suc, take-suc-set, drop-set-lt}
use Rattle.image.specs.Image.{table}
use Rattle.image.proofs.Tables.{length-table}
use Rattle.graph.specs.Graph.{no_block, no_edge, no_region, no_handler, no_unresolved, no_call}
use Rattle.graph.specs.Table.{no_entry}
use Rattle.graph.specs.Lent.{part, holding, held_of}
use Rattle.graph.specs.Stored.{more, with_entry, with_block, with_edge, with_region, with_handler, with_unresolved, with_call, Stored}
use Rattle.graph.specs.declared.store.Graph.{Graph as Lent}
use Rattle.graph.specs.declared.record.TableEntry.{TableEntry}
use Rattle.graph.specs.declared.record.Block.{Block}
use Rattle.graph.specs.declared.record.Edge.{Edge}
use Rattle.graph.specs.declared.record.Region.{Region}
use Rattle.graph.specs.declared.record.HandlerRecord.{HandlerRecord}
use Rattle.graph.specs.declared.record.UnresolvedTransfer.{UnresolvedTransfer}
use Rattle.graph.specs.declared.record.CallSite.{CallSite}

pub rows_there : {A : Type 0} (none : A) (rows : List A) (n : ℕ) → n ≤ length rows → table (λ i. get_or rows i none) n ≡ take n rows
unfolding table
rows_there none rows zero h = refl
rows_there none rows (suc n) h = rw (rows_there none rows n (omega arith)) (sym (take-suc rows n none (omega arith)))

pub rows_read : {A : Type 0} (none : A) (most n k : ℕ) (rows : List A) → length rows ≡ most → k ≡ min n most → take k rows ≡ table (λ i. get_or rows i none) (min n most)
rows_read none most n k rows sized is = rw (← is) (sym (rows_there none rows k (omega (arith, is))))

module _ (g : Lent) where
  pub entry_count : length (held_of g).graph.table ≡ min g.counts.table 512
  unfolding held_of
  entry_count = length-table (λ i. get_or g.table i no_entry) no_entry _

  pub block_count : length (held_of g).graph.blocks ≡ min g.counts.blocks 1024
  unfolding held_of
  block_count = length-table (λ i. get_or g.blocks i no_block) no_block _

  pub edge_count : length (held_of g).graph.edges ≡ min g.counts.edges 4096
  unfolding held_of
  edge_count = length-table (λ i. get_or g.edges i no_edge) no_edge _

  pub region_count : length (held_of g).graph.regions ≡ min g.counts.regions 32
  unfolding held_of
  region_count = length-table (λ i. get_or g.regions i no_region) no_region _

  pub handler_count : length (held_of g).graph.handlers ≡ min g.counts.handlers 32
  unfolding held_of
  handler_count = length-table (λ i. get_or g.handlers i no_handler) no_handler _

  pub unresolved_count : length (held_of g).graph.unresolved ≡ min g.counts.unresolved 1024
  unfolding held_of
  unresolved_count = length-table (λ i. get_or g.unresolved i no_unresolved) no_unresolved _

  pub call_count : length (held_of g).graph.calls ≡ min g.counts.calls 512
  unfolding held_of
  call_count = length-table (λ i. get_or g.calls i no_call) no_call _

  pub entry_most : length (held_of g).graph.table ≤ 512
  entry_most = omega (arith, entry_count)

  pub block_most : length (held_of g).graph.blocks ≤ 1024
  block_most = omega (arith, block_count)

  pub edge_most : length (held_of g).graph.edges ≤ 4096
  edge_most = omega (arith, edge_count)

  pub region_most : length (held_of g).graph.regions ≤ 32
  region_most = omega (arith, region_count)

  pub handler_most : length (held_of g).graph.handlers ≤ 32
  handler_most = omega (arith, handler_count)

  pub unresolved_most : length (held_of g).graph.unresolved ≤ 1024
  unresolved_most = omega (arith, unresolved_count)

  pub call_most : length (held_of g).graph.calls ≤ 512
  call_most = omega (arith, call_count)

-- n rows are counted, and then n' of rows', with record a behind the others unless there was no room
pub record Step {A : Type 0} (none : A) (most n n' : ℕ) (rows rows' : List A) (a : A) : Type 0 where
  pub holds : part none most n' rows' ≡ more most (part none most n rows) a
  pub grows : n ≤ n'
  pub kept : drop n' rows' ≡ drop n' rows

module _ {A : Type 0} {none : A} {most n : ℕ} {rows : List A} {a : A} where
  pub step_more : length rows ≡ most → n < most → Step none most n (n + 1) rows (set rows n a) a
  unfolding more
  step_more sized room =
      record {
        holds = rw (lt-ltb n most room) (λ t. record { count = n + 1; list = longer t });
        grows = omega arith;
        kept = drop-set-lt (n + 1) rows n a (omega arith);
      }
    where
      longer : table (λ i. get_or (set rows n a) i none) (min (n + 1) most) ≡ table (λ i. get_or rows i none) (min n most) ++ (a ∷ [])
      longer =
          let now : min n most ≡ n = omega arith in
          let then_ : min (n + 1) most ≡ n + 1 = omega arith in
          rw (now, then_, rows_there none rows n (omega arith), rows_there none (set rows n a) (n + 1) (omega (arith, length-set rows n a)), add-one) (take-suc-set rows n a (omega arith))

  pub step_full : most ≤ n → Step none most n n rows rows a
  unfolding more
  step_full full = record { holds = rw (le-ltb n most full); grows = omega arith; kept = refl }

pub entry_added : {g : Lent} {n : ℕ} {rows : List TableEntry} {r : TableEntry} → Step no_entry 512 g.counts.table n g.table rows r
    → Stored g (record g { counts = record g.counts { table = n }; table = rows }) (with_entry (held_of g) r)
unfolding held_of
entry_added {g} step =
    record {
      holds = λ t. holding g.entry (step.holds t) (part no_block 1024 g.counts.blocks g.blocks) (part no_edge 4096 g.counts.edges g.edges) (part no_region 32 g.counts.regions g.regions) (part no_handler 32 g.counts.handlers g.handlers) (part no_unresolved 1024 g.counts.unresolved g.unresolved) (part no_call 512 g.counts.calls g.calls);
      grows = record { table = step.grows; blocks = le_refl _; edges = le_refl _; regions = le_refl _; handlers = le_refl _; unresolved = le_refl _; calls = le_refl _ };
      kept = record { spare = refl; table = step.kept; blocks = refl; edges = refl; regions = refl; handlers = refl; unresolved = refl; calls = refl };
    }

pub block_added : {g : Lent} {n : ℕ} {rows : List Block} {r : Block} → Step no_block 1024 g.counts.blocks n g.blocks rows r
    → Stored g (record g { counts = record g.counts { blocks = n }; blocks = rows }) (with_block (held_of g) r)
unfolding held_of
block_added {g} step =
    record {
      holds = λ t. holding g.entry (part no_entry 512 g.counts.table g.table) (step.holds t) (part no_edge 4096 g.counts.edges g.edges) (part no_region 32 g.counts.regions g.regions) (part no_handler 32 g.counts.handlers g.handlers) (part no_unresolved 1024 g.counts.unresolved g.unresolved) (part no_call 512 g.counts.calls g.calls);
      grows = record { table = le_refl _; blocks = step.grows; edges = le_refl _; regions = le_refl _; handlers = le_refl _; unresolved = le_refl _; calls = le_refl _ };
      kept = record { spare = refl; table = refl; blocks = step.kept; edges = refl; regions = refl; handlers = refl; unresolved = refl; calls = refl };
    }

pub edge_added : {g : Lent} {n : ℕ} {rows : List Edge} {r : Edge} → Step no_edge 4096 g.counts.edges n g.edges rows r
    → Stored g (record g { counts = record g.counts { edges = n }; edges = rows }) (with_edge (held_of g) r)
unfolding held_of
edge_added {g} step =
    record {
      holds = λ t. holding g.entry (part no_entry 512 g.counts.table g.table) (part no_block 1024 g.counts.blocks g.blocks) (step.holds t) (part no_region 32 g.counts.regions g.regions) (part no_handler 32 g.counts.handlers g.handlers) (part no_unresolved 1024 g.counts.unresolved g.unresolved) (part no_call 512 g.counts.calls g.calls);
      grows = record { table = le_refl _; blocks = le_refl _; edges = step.grows; regions = le_refl _; handlers = le_refl _; unresolved = le_refl _; calls = le_refl _ };
      kept = record { spare = refl; table = refl; blocks = refl; edges = step.kept; regions = refl; handlers = refl; unresolved = refl; calls = refl };
    }

pub region_added : {g : Lent} {n : ℕ} {rows : List Region} {r : Region} → Step no_region 32 g.counts.regions n g.regions rows r
    → Stored g (record g { counts = record g.counts { regions = n }; regions = rows }) (with_region (held_of g) r)
unfolding held_of
region_added {g} step =
    record {
      holds = λ t. holding g.entry (part no_entry 512 g.counts.table g.table) (part no_block 1024 g.counts.blocks g.blocks) (part no_edge 4096 g.counts.edges g.edges) (step.holds t) (part no_handler 32 g.counts.handlers g.handlers) (part no_unresolved 1024 g.counts.unresolved g.unresolved) (part no_call 512 g.counts.calls g.calls);
      grows = record { table = le_refl _; blocks = le_refl _; edges = le_refl _; regions = step.grows; handlers = le_refl _; unresolved = le_refl _; calls = le_refl _ };
      kept = record { spare = refl; table = refl; blocks = refl; edges = refl; regions = step.kept; handlers = refl; unresolved = refl; calls = refl };
    }

pub handler_added : {g : Lent} {n : ℕ} {rows : List HandlerRecord} {r : HandlerRecord} → Step no_handler 32 g.counts.handlers n g.handlers rows r
    → Stored g (record g { counts = record g.counts { handlers = n }; handlers = rows }) (with_handler (held_of g) r)
unfolding held_of
handler_added {g} step =
    record {
      holds = λ t. holding g.entry (part no_entry 512 g.counts.table g.table) (part no_block 1024 g.counts.blocks g.blocks) (part no_edge 4096 g.counts.edges g.edges) (part no_region 32 g.counts.regions g.regions) (step.holds t) (part no_unresolved 1024 g.counts.unresolved g.unresolved) (part no_call 512 g.counts.calls g.calls);
      grows = record { table = le_refl _; blocks = le_refl _; edges = le_refl _; regions = le_refl _; handlers = step.grows; unresolved = le_refl _; calls = le_refl _ };
      kept = record { spare = refl; table = refl; blocks = refl; edges = refl; regions = refl; handlers = step.kept; unresolved = refl; calls = refl };
    }

pub unresolved_added : {g : Lent} {n : ℕ} {rows : List UnresolvedTransfer} {r : UnresolvedTransfer} → Step no_unresolved 1024 g.counts.unresolved n g.unresolved rows r
    → Stored g (record g { counts = record g.counts { unresolved = n }; unresolved = rows }) (with_unresolved (held_of g) r)
unfolding held_of
unresolved_added {g} step =
    record {
      holds = λ t. holding g.entry (part no_entry 512 g.counts.table g.table) (part no_block 1024 g.counts.blocks g.blocks) (part no_edge 4096 g.counts.edges g.edges) (part no_region 32 g.counts.regions g.regions) (part no_handler 32 g.counts.handlers g.handlers) (step.holds t) (part no_call 512 g.counts.calls g.calls);
      grows = record { table = le_refl _; blocks = le_refl _; edges = le_refl _; regions = le_refl _; handlers = le_refl _; unresolved = step.grows; calls = le_refl _ };
      kept = record { spare = refl; table = refl; blocks = refl; edges = refl; regions = refl; handlers = refl; unresolved = step.kept; calls = refl };
    }

pub call_added : {g : Lent} {n : ℕ} {rows : List CallSite} {r : CallSite} → Step no_call 512 g.counts.calls n g.calls rows r
    → Stored g (record g { counts = record g.counts { calls = n }; calls = rows }) (with_call (held_of g) r)
unfolding held_of
call_added {g} step =
    record {
      holds = λ t. holding g.entry (part no_entry 512 g.counts.table g.table) (part no_block 1024 g.counts.blocks g.blocks) (part no_edge 4096 g.counts.edges g.edges) (part no_region 32 g.counts.regions g.regions) (part no_handler 32 g.counts.handlers g.handlers) (part no_unresolved 1024 g.counts.unresolved g.unresolved) (step.holds t);
      grows = record { table = le_refl _; blocks = le_refl _; edges = le_refl _; regions = le_refl _; handlers = le_refl _; unresolved = le_refl _; calls = step.grows };
      kept = record { spare = refl; table = refl; blocks = refl; edges = refl; regions = refl; handlers = refl; unresolved = refl; calls = step.kept };
    }
