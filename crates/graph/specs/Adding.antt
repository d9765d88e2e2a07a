-- Records behind those that a lent graph holds, as passes over the table add them.
use Rattle.std.specs.Prelude.{List, [], ◌∷◌, ℕ}
use Rattle.graph.specs.declared.store.Graph.{Graph as Lent}
use Rattle.graph.specs.Graph.{Held}
use Rattle.graph.specs.Lent.{Part, holding, held_of}
use Rattle.graph.specs.Stored.{more, table_in, blocks_in, edges_in, regions_in, handlers_in, unresolved_in, calls_in, Stored}
use Rattle.graph.specs.declared.record.TableEntry.{TableEntry}
use Rattle.graph.specs.declared.record.Block.{Block}
use Rattle.graph.specs.declared.record.Edge.{Edge}
use Rattle.graph.specs.declared.record.UnresolvedTransfer.{UnresolvedTransfer}
use Rattle.graph.specs.declared.record.CallSite.{CallSite}

-- one record after the other; where there are as many as there may be, no more
unfoldable pub mores : {A : Type 0} → ℕ → Part A → List A → Part A
mores most p [] = p
mores most p (a ∷ l) = mores most (more most p a) l

unfoldable pub adding : Held → List Edge → List UnresolvedTransfer → List CallSite → Held
adding h es us cs =
    holding
    h.graph.entry
    (table_in h)
    (blocks_in h)
    (mores 4096 (edges_in h) es)
    (regions_in h)
    (handlers_in h)
    (mores 1024 (unresolved_in h) us)
    (mores 512 (calls_in h) cs)

-- the same of the table, and of the blocks
unfoldable pub with_table : Held → List TableEntry → Held
with_table h es = holding h.graph.entry (mores 512 (table_in h) es) (blocks_in h) (edges_in h) (regions_in h) (handlers_in h) (unresolved_in h) (calls_in h)

unfoldable pub with_blocks : Held → List Block → Held
with_blocks h bs = holding h.graph.entry (table_in h) (mores 1024 (blocks_in h) bs) (edges_in h) (regions_in h) (handlers_in h) (unresolved_in h) (calls_in h)

-- stores took g to g', which holds what g does and these records behind it
pub record Added (g g' : Lent) (es : List Edge) (us : List UnresolvedTransfer) (cs : List CallSite) : Type 0 where
  pub stored : Stored g g' (adding (held_of g) es us cs)
