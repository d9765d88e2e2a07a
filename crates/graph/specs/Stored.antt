-- What stores do to the graph that a lent one holds, and to the rows that it does not use.
use Rattle.std.specs.Prelude.{cond, [], ◌∷◌, ◌++◌, ◌≡◌, ℕ, ◌+◌, ◌≤◌, ltb, drop}
use Rattle.graph.specs.Graph.{Counts, Held}
use Rattle.graph.specs.Lent.{Part, holding, held_of}
use Rattle.graph.specs.declared.store.Graph.{Graph as Lent}
use Rattle.graph.specs.declared.record.TableEntry.{TableEntry}
use Rattle.graph.specs.declared.record.Block.{Block}
use Rattle.graph.specs.declared.record.Edge.{Edge}
use Rattle.graph.specs.declared.record.Region.{Region}
use Rattle.graph.specs.declared.record.HandlerRecord.{HandlerRecord}
use Rattle.graph.specs.declared.record.UnresolvedTransfer.{UnresolvedTransfer}
use Rattle.graph.specs.declared.record.CallSite.{CallSite}

-- ---- the graph

-- one record more behind the others; none where there are as many as there may be
unfoldable pub more : {A : Type 0} → ℕ → Part A → A → Part A
more most p a = cond (ltb p.count most) (record { count = p.count + 1; list = p.list ++ (a ∷ []) }) p

abbrev pub table_in : Held → Part TableEntry
table_in h = record { count = h.counts.table; list = h.graph.table }

abbrev pub blocks_in : Held → Part Block
blocks_in h = record { count = h.counts.blocks; list = h.graph.blocks }

abbrev pub edges_in : Held → Part Edge
edges_in h = record { count = h.counts.edges; list = h.graph.edges }

abbrev pub regions_in : Held → Part Region
regions_in h = record { count = h.counts.regions; list = h.graph.regions }

abbrev pub handlers_in : Held → Part HandlerRecord
handlers_in h = record { count = h.counts.handlers; list = h.graph.handlers }

abbrev pub unresolved_in : Held → Part UnresolvedTransfer
unresolved_in h = record { count = h.counts.unresolved; list = h.graph.unresolved }

abbrev pub calls_in : Held → Part CallSite
calls_in h = record { count = h.counts.calls; list = h.graph.calls }

abbrev pub with_entry : Held → TableEntry → Held
with_entry h r = holding h.graph.entry (more 512 (table_in h) r) (blocks_in h) (edges_in h) (regions_in h) (handlers_in h) (unresolved_in h) (calls_in h)

abbrev pub with_block : Held → Block → Held
with_block h r = holding h.graph.entry (table_in h) (more 1024 (blocks_in h) r) (edges_in h) (regions_in h) (handlers_in h) (unresolved_in h) (calls_in h)

abbrev pub with_edge : Held → Edge → Held
with_edge h r = holding h.graph.entry (table_in h) (blocks_in h) (more 4096 (edges_in h) r) (regions_in h) (handlers_in h) (unresolved_in h) (calls_in h)

abbrev pub with_region : Held → Region → Held
with_region h r = holding h.graph.entry (table_in h) (blocks_in h) (edges_in h) (more 32 (regions_in h) r) (handlers_in h) (unresolved_in h) (calls_in h)

abbrev pub with_handler : Held → HandlerRecord → Held
with_handler h r = holding h.graph.entry (table_in h) (blocks_in h) (edges_in h) (regions_in h) (more 32 (handlers_in h) r) (unresolved_in h) (calls_in h)

abbrev pub with_unresolved : Held → UnresolvedTransfer → Held
with_unresolved h r = holding h.graph.entry (table_in h) (blocks_in h) (edges_in h) (regions_in h) (handlers_in h) (more 1024 (unresolved_in h) r) (calls_in h)

abbrev pub with_call : Held → CallSite → Held
with_call h r = holding h.graph.entry (table_in h) (blocks_in h) (edges_in h) (regions_in h) (handlers_in h) (unresolved_in h) (more 512 (calls_in h) r)

abbrev pub entered : Held → ℕ → Held
entered h n = holding n (table_in h) (blocks_in h) (edges_in h) (regions_in h) (handlers_in h) (unresolved_in h) (calls_in h)

-- no record, and block 0 for the entry
abbrev pub nothing : Held
nothing = holding 0 none none none none none none none
  where
    none : {A : Type 0} → Part A
    none = record { count = 0; list = [] }

-- ---- the rows that it does not use

-- no count falls
pub record Grows (c c' : Counts) : Type 0 where
  pub table : c.table ≤ c'.table
  pub blocks : c.blocks ≤ c'.blocks
  pub edges : c.edges ≤ c'.edges
  pub regions : c.regions ≤ c'.regions
  pub handlers : c.handlers ≤ c'.handlers
  pub unresolved : c.unresolved ≤ c'.unresolved
  pub calls : c.calls ≤ c'.calls

-- each row past the counts of g', and each spare word, is as it is in g
pub record Untouched (g g' : Lent) : Type 0 where
  pub spare : g'.spare ≡ g.spare
  pub table : drop g'.counts.table g'.table ≡ drop g'.counts.table g.table
  pub blocks : drop g'.counts.blocks g'.blocks ≡ drop g'.counts.blocks g.blocks
  pub edges : drop g'.counts.edges g'.edges ≡ drop g'.counts.edges g.edges
  pub regions : drop g'.counts.regions g'.regions ≡ drop g'.counts.regions g.regions
  pub handlers : drop g'.counts.handlers g'.handlers ≡ drop g'.counts.handlers g.handlers
  pub unresolved : drop g'.counts.unresolved g'.unresolved ≡ drop g'.counts.unresolved g.unresolved
  pub calls : drop g'.counts.calls g'.calls ≡ drop g'.counts.calls g.calls

-- Stores took g to g', which holds h, and wrote no row but those that h uses. No row that g used is free again, so such
-- steps follow one another.
pub record Stored (g g' : Lent) (h : Held) : Type 0 where
  pub holds : held_of g' ≡ h
  pub grows : Grows g.counts g'.counts
  pub kept : Untouched g g'

-- the same where what g used may be free
pub record Emptied (g g' : Lent) : Type 0 where
  pub holds : held_of g' ≡ nothing
  pub kept : Untouched g g'
