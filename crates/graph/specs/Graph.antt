-- The graph: lists of records, numbered from 0 in order of adding, and the block at which the sequence is entered.
use Rattle.std.specs.Prelude.{List, ℕ, length, get_or, replicate}
use Rattle.graph.specs.declared.record.TableEntry.{TableEntry}
use Rattle.graph.specs.declared.record.Block.{Block}
use Rattle.graph.specs.declared.record.Edge.{Edge}
use Rattle.graph.specs.declared.record.Region.{Region}
use Rattle.graph.specs.declared.record.HandlerRecord.{HandlerRecord}
use Rattle.graph.specs.declared.record.UnresolvedTransfer.{UnresolvedTransfer}
use Rattle.graph.specs.declared.record.CallSite.{CallSite}
pub use Rattle.graph.specs.declared.record.Counts.{Counts}

pub record Graph : Type 0 where
  pub entry : ℕ
  pub table : List TableEntry
  pub blocks : List Block
  pub edges : List Edge
  pub regions : List Region
  pub handlers : List HandlerRecord
  pub unresolved : List UnresolvedTransfer
  pub calls : List CallSite

-- What a lent graph holds: its counts, and the graph, whose lists are cut at document 01's limits. Rule 21 asks
-- of the counts that nothing was cut.
pub record Held : Type 0 where
  pub counts : Counts
  pub graph : Graph

-- a graph that holds all its records
unfoldable pub held : Graph → Held
held g =
    record {
      counts =
          record {
            table = length g.table;
            blocks = length g.blocks;
            edges = length g.edges;
            regions = length g.regions;
            handlers = length g.handlers;
            unresolved = length g.unresolved;
            calls = length g.calls;
          };
      graph = g;
    }

-- records by their numbers, of zeros past the end
abbrev pub no_block : Block
no_block = record { first = 0; count = 0 }

abbrev pub block : Graph → ℕ → Block
block g b = get_or g.blocks b no_block

abbrev pub no_edge : Edge
no_edge = record { source = 0; target = 0; kind = 0; role = 0; number = 0; key = 0; source_address = 0; target_address = 0 }

abbrev pub edge : Graph → ℕ → Edge
edge g e = get_or g.edges e no_edge

abbrev pub no_region : Region
no_region = record { has_parent = 0; parent = 0; start = 0; end = 0; handlers = 0; protected = replicate 16 0 }

abbrev pub region : Graph → ℕ → Region
region g r = get_or g.regions r no_region

abbrev pub no_handler : HandlerRecord
no_handler = record { region = 0; place = 0; entry = 0; kind = 0; filter = 0 }

abbrev pub handler : Graph → ℕ → HandlerRecord
handler g h = get_or g.handlers h no_handler

abbrev pub no_unresolved : UnresolvedTransfer
no_unresolved = record { source = 0; target = 0; role = 0; case_index = 0 }

abbrev pub unresolved_transfer : Graph → ℕ → UnresolvedTransfer
unresolved_transfer g u = get_or g.unresolved u no_unresolved

abbrev pub no_call : CallSite
no_call = record { source = 0; has_target = 0; target = 0 }

abbrev pub call_site : Graph → ℕ → CallSite
call_site g c = get_or g.calls c no_call
