-- Where C finds what a lent graph holds: the words of `foldzine.h`.
--     x_words     in memory an x is these fields, in this order
--     x_places    how many words it has, and at which of them its fields begin
-- for x of counts, entry, block, edge, region, handler, unresolved, call and graph. `own_val` says what stands in memory for a
-- value, and `Lies` where the compiler lays the fields of a type.
-- Assumes nothing.
use mathlib.Core.Path.{◌≡◌, refl}
use mathlib.Core.List.{List, [], ◌∷◌, map}
use Prim.Native.Nat.{ℕ, ◌*◌}
use mir.Val.{Val}
use prog.Offsets.{Lies}
use denote.Array.{Array}
use denote.Builtin.{u64}
use denote.Memory.{lone}
use denote.RattleType.{RattleType, Denots}
use denote.Struct.Struct.{Struct}
use Rattle.graph.specs.declared.store.Graph.{Graph as Lent}
use Rattle.graph.specs.declared.record.Counts.{Counts}
use Rattle.graph.specs.declared.record.TableEntry.{TableEntry}
use Rattle.graph.specs.declared.record.Block.{Block}
use Rattle.graph.specs.declared.record.Edge.{Edge}
use Rattle.graph.specs.declared.record.Region.{Region}
use Rattle.graph.specs.declared.record.HandlerRecord.{HandlerRecord}
use Rattle.graph.specs.declared.record.UnresolvedTransfer.{UnresolvedTransfer}
use Rattle.graph.specs.declared.record.CallSite.{CallSite}
use Rattle.graph.specs.contracts.store.Graph.{the_row as graph}
use Rattle.graph.specs.contracts.record.Counts.{the_row as counts}
use Rattle.graph.specs.contracts.record.TableEntry.{the_row as entry}
use Rattle.graph.specs.contracts.record.Block.{the_row as block}
use Rattle.graph.specs.contracts.record.Edge.{the_row as edge}
use Rattle.graph.specs.contracts.record.Region.{the_row as region}
use Rattle.graph.specs.contracts.record.HandlerRecord.{the_row as handler}
use Rattle.graph.specs.contracts.record.UnresolvedTransfer.{the_row as unresolved}
use Rattle.graph.specs.contracts.record.CallSite.{the_row as call}

-- a value stands in memory as these fields, of these types, do
abbrev pub Stands : (R : RattleType) → R.Denot → (Rs : List RattleType) → Denots Rs → Type 1
Stands R x Rs fields = (vs : List Val) → R.own_val x vs ≡ (Struct (record { name = []; args = []; types = []; fields = Rs })).own_val fields vs

-- a type of n words, whose fields begin at words ks
abbrev pub Places : RattleType → ℕ → List ℕ → Type 0
Places R n ks = Lies (lone R.mir) (8 * n) 8 (map (λ k. 8 * k) ks)

pub counts_words : (c : Counts) → Stands counts c (u64 ∷ u64 ∷ u64 ∷ u64 ∷ u64 ∷ u64 ∷ u64 ∷ []) (c.table, (c.blocks, (c.edges, (c.regions, (c.handlers, (c.unresolved, (c.calls, tt)))))))
counts_words c vs = refl

pub counts_places : Places counts 7 (0 ∷ 1 ∷ 2 ∷ 3 ∷ 4 ∷ 5 ∷ 6 ∷ [])
counts_places = (refl, refl, refl)

pub entry_words : (e : TableEntry) → Stands entry e (u64 ∷ u64 ∷ u64 ∷ u64 ∷ u64 ∷ []) (e.address, (e.end, (e.has_end, (e.keeps, (e.flow, tt)))))
entry_words e vs = refl

pub entry_places : Places entry 5 (0 ∷ 1 ∷ 2 ∷ 3 ∷ 4 ∷ [])
entry_places = (refl, refl, refl)

pub block_words : (b : Block) → Stands block b (u64 ∷ u64 ∷ []) (b.first, (b.count, tt))
block_words b vs = refl

pub block_places : Places block 2 (0 ∷ 1 ∷ [])
block_places = (refl, refl, refl)

pub edge_words : (e : Edge) → Stands edge e (u64 ∷ u64 ∷ u64 ∷ u64 ∷ u64 ∷ u64 ∷ u64 ∷ u64 ∷ []) (e.source, (e.target, (e.kind, (e.role, (e.number, (e.key, (e.source_address, (e.target_address, tt))))))))
edge_words e vs = refl

pub edge_places : Places edge 8 (0 ∷ 1 ∷ 2 ∷ 3 ∷ 4 ∷ 5 ∷ 6 ∷ 7 ∷ [])
edge_places = (refl, refl, refl)

pub region_words : (r : Region) → Stands region r (u64 ∷ u64 ∷ u64 ∷ u64 ∷ u64 ∷ Array u64 16 ∷ []) (r.has_parent, (r.parent, (r.start, (r.end, (r.handlers, (r.protected, tt))))))
region_words r vs = refl

pub region_places : Places region 21 (0 ∷ 1 ∷ 2 ∷ 3 ∷ 4 ∷ 5 ∷ [])
region_places = (refl, refl, refl)

pub handler_words : (h : HandlerRecord) → Stands handler h (u64 ∷ u64 ∷ u64 ∷ u64 ∷ u64 ∷ []) (h.region, (h.place, (h.entry, (h.kind, (h.filter, tt)))))
handler_words h vs = refl

pub handler_places : Places handler 5 (0 ∷ 1 ∷ 2 ∷ 3 ∷ 4 ∷ [])
handler_places = (refl, refl, refl)

pub unresolved_words : (u : UnresolvedTransfer) → Stands unresolved u (u64 ∷ u64 ∷ u64 ∷ u64 ∷ []) (u.source, (u.target, (u.role, (u.case_index, tt))))
unresolved_words u vs = refl

pub unresolved_places : Places unresolved 4 (0 ∷ 1 ∷ 2 ∷ 3 ∷ [])
unresolved_places = (refl, refl, refl)

pub call_words : (c : CallSite) → Stands call c (u64 ∷ u64 ∷ u64 ∷ []) (c.source, (c.has_target, (c.target, tt)))
call_words c vs = refl

pub call_places : Places call 3 (0 ∷ 1 ∷ 2 ∷ [])
call_places = (refl, refl, refl)

-- seven counts and the entry, 24 words to spare, and then the records, kind by kind
pub graph_words : (g : Lent) → Stands graph g
    (counts ∷ u64 ∷ Array u64 24 ∷ Array entry 512 ∷ Array block 1024 ∷ Array edge 4096 ∷ Array region 32 ∷ Array handler 32 ∷ Array unresolved 1024 ∷ Array call 512 ∷ [])
    (g.counts, (g.entry, (g.spare, (g.table, (g.blocks, (g.edges, (g.regions, (g.handlers, (g.unresolved, (g.calls, tt))))))))))
graph_words g vs = refl

pub graph_places : Places graph 43872 (0 ∷ 7 ∷ 8 ∷ 32 ∷ 2592 ∷ 4640 ∷ 37408 ∷ 38080 ∷ 38240 ∷ 42336 ∷ [])
graph_places = (refl, refl, refl)
