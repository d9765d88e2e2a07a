-- What a lent graph holds. Any does: each list is cut at its limit, and the counts are told as they stand.
use Rattle.std.specs.Prelude.{List, ◌≡◌, ℕ, min, length, get_or, replicate}
use Rattle.image.specs.Image.{table}
use Rattle.graph.specs.Graph.{Held, no_block, no_edge, no_region, no_handler, no_unresolved, no_call}
use Rattle.graph.specs.Table.{no_entry}
use Rattle.graph.specs.declared.store.Graph.{Graph as Lent}
use Rattle.graph.specs.declared.record.TableEntry.{TableEntry}
use Rattle.graph.specs.declared.record.Block.{Block}
use Rattle.graph.specs.declared.record.Edge.{Edge}
use Rattle.graph.specs.declared.record.Region.{Region}
use Rattle.graph.specs.declared.record.HandlerRecord.{HandlerRecord}
use Rattle.graph.specs.declared.record.UnresolvedTransfer.{UnresolvedTransfer}
use Rattle.graph.specs.declared.record.CallSite.{CallSite}

-- a kind: how many records are counted, and those that are read, of which there are no more than `most`; past the last row each
-- is `none`, of zeros
pub record Part (A : Type 0) : Type 0 where
  pub count : ℕ
  pub list : List A

abbrev pub part : {A : Type 0} → A → ℕ → ℕ → List A → Part A
part none most n rows = record { count = n; list = table (λ i. get_or rows i none) (min n most) }

abbrev pub holding : ℕ → Part TableEntry → Part Block → Part Edge → Part Region → Part HandlerRecord → Part UnresolvedTransfer → Part CallSite → Held
holding n t b e r h u c =
    record {
      counts =
          record {
            table = t.count;
            blocks = b.count;
            edges = e.count;
            regions = r.count;
            handlers = h.count;
            unresolved = u.count;
            calls = c.count;
          };
      graph =
          record {
            entry = n;
            table = t.list;
            blocks = b.list;
            edges = e.list;
            regions = r.list;
            handlers = h.list;
            unresolved = u.list;
            calls = c.list;
          };
    }

unfoldable pub held_of : Lent → Held
held_of g =
    holding
    g.entry
    (part no_entry 512 g.counts.table g.table)
    (part no_block 1024 g.counts.blocks g.blocks)
    (part no_edge 4096 g.counts.edges g.edges)
    (part no_region 32 g.counts.regions g.regions)
    (part no_handler 32 g.counts.handlers g.handlers)
    (part no_unresolved 1024 g.counts.unresolved g.unresolved)
    (part no_call 512 g.counts.calls g.calls)

-- how many rows there are
pub record Sized (g : Lent) : Type 0 where
  pub table : length g.table ≡ 512
  pub blocks : length g.blocks ≡ 1024
  pub edges : length g.edges ≡ 4096
  pub regions : length g.regions ≡ 32
  pub handlers : length g.handlers ≡ 32
  pub unresolved : length g.unresolved ≡ 1024
  pub calls : length g.calls ≡ 512

-- every word is 0
abbrev pub zeros : Lent
zeros =
    record {
      counts = record { table = 0; blocks = 0; edges = 0; regions = 0; handlers = 0; unresolved = 0; calls = 0 };
      entry = 0;
      spare = replicate 24 0;
      table = replicate 512 no_entry;
      blocks = replicate 1024 no_block;
      edges = replicate 4096 no_edge;
      regions = replicate 32 no_region;
      handlers = replicate 32 no_handler;
      unresolved = replicate 1024 no_unresolved;
      calls = replicate 512 no_call;
    }
