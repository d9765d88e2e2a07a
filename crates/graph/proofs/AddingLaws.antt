-- Records added one after the other.
--     mores_append, mores_whole                     one list behind another, and one that fits
--     added_none, added_then                        nothing, and one pass behind another
--     edges_more, flow_more, calls_more             one turn more of a loop
--     edge_added, unresolved_added, call_added      what the store adds
--     table_none, table_more                        the same of the table: no entry, and one more
--     blocks_none, blocks_then, block_one           and of the blocks: none, some behind others, and one
--     adding-held, table-held, blocks_held          within the limits nothing is cut
-- Assumes nothing.
use mathlib.Core.Path.{◌≡◌, refl, sym, ap, ◌∙◌}
use mathlib.Core.List.{List, [], ◌∷◌, ◌++◌, append_assoc, append-nil}
use Prim.Native.Nat.{ℕ, ◌+◌, ◌≤◌}
use native.Mathlib.Omega.{arith}
use lib.ListN.{length, length-append}
use Rattle.graph.specs.declared.store.Graph.{Graph as Lent}
use Rattle.graph.specs.Graph.{Graph, Held, held}
use Rattle.graph.specs.Lent.{Part, holding, held_of}
use Rattle.graph.specs.Stored.{more, with_entry, with_block, with_edge, with_unresolved, with_call, table_in, blocks_in, edges_in, regions_in, handlers_in, unresolved_in, calls_in, Stored}
use Rattle.graph.specs.Adding.{mores, adding, with_table, with_blocks, Added}
use Rattle.graph.specs.declared.record.TableEntry.{TableEntry}
use Rattle.graph.specs.declared.record.Block.{Block}
use Rattle.graph.specs.declared.record.Edge.{Edge}
use Rattle.graph.specs.declared.record.UnresolvedTransfer.{UnresolvedTransfer}
use Rattle.graph.specs.declared.record.CallSite.{CallSite}
use Rattle.graph.specs.Fold.{flat}
use Rattle.graph.proofs.FoldLaws.{flat-more}
use Rattle.graph.proofs.StoredLaws.{stored_none, stored_then, whole, more_whole}

module _ {A : Type 0} (most : ℕ) where
  pub mores_append : (p : Part A) (l k : List A) → mores most p (l ++ k) ≡ mores most (mores most p l) k
  unfolding mores
  mores_append p [] k = refl
  mores_append p (a ∷ l) k = mores_append (more most p a) l k

  pub mores_whole : (p l : List A) → length p + length l ≤ most → mores most (whole p) l ≡ whole (p ++ l)
  unfolding mores
  mores_whole p [] h = ap whole (sym (append-nil p))
  mores_whole p (a ∷ l) h =
      ap (λ (q : Part A). mores most q l) (more_whole most p a (omega arith))
      ∙ mores_whole (p ++ (a ∷ [])) l (rw length-append (omega arith))
      ∙ ap whole (append_assoc p (a ∷ []) l)

adding_then : (h : Held) (es es' : List Edge) (us us' : List UnresolvedTransfer) (cs cs' : List CallSite)
    → adding h (es ++ es') (us ++ us') (cs ++ cs') ≡ adding (adding h es us cs) es' us' cs'
unfolding adding
adding_then h es es' us us' cs cs' =
    λ t.
    holding
    h.graph.entry
    (table_in h)
    (blocks_in h)
    (mores_append 4096 (edges_in h) es es' t)
    (regions_in h)
    (handlers_in h)
    (mores_append 1024 (unresolved_in h) us us' t)
    (mores_append 512 (calls_in h) cs cs' t)

pub added_none : (l : Lent) → Added l l [] [] []
unfolding adding mores
added_none l = record { stored = stored_none l }

pub added_then : {l m n : Lent} {es es' : List Edge} {us us' : List UnresolvedTransfer} {cs cs' : List CallSite}
    → Added l m es us cs → Added m n es' us' cs' → Added l n (es ++ es') (us ++ us') (cs ++ cs')
added_then {l} {m} {n} {es} {es'} {us} {us'} {cs} {cs'} a b =
    record { stored = rw (adding_then (held_of l) es es' us us' cs cs', ← a.stored.holds) (stored_then a.stored b.stored) }

module _ {l m n : Lent} where
  pub edges_more : (f : ℕ → List Edge) (k : ℕ) → Added l m (flat f k) [] [] → Added m n (f k) [] [] → Added l n (flat f (k + 1)) [] []
  edges_more f k a b = rw (flat-more f k) (added_then a b)

  pub flow_more : (f : ℕ → List Edge) (u : ℕ → List UnresolvedTransfer) (k : ℕ) → Added l m (flat f k) (flat u k) [] → Added m n (f k) (u k) [] → Added l n (flat f (k + 1)) (flat u (k + 1)) []
  flow_more f u k a b = rw (flat-more f k, flat-more u k) (added_then a b)

  pub calls_more : (f : ℕ → List CallSite) (k : ℕ) → Added l m [] [] (flat f k) → Added m n [] [] (f k) → Added l n [] [] (flat f (k + 1))
  calls_more f k a b = rw (flat-more f k) (added_then a b)

module _ {l l' : Lent} where
  pub edge_added : (e : Edge) → Stored l l' (with_edge (held_of l) e) → Added l l' (e ∷ []) [] []
  unfolding adding mores
  edge_added e a = record { stored = a }

  pub unresolved_added : (u : UnresolvedTransfer) → Stored l l' (with_unresolved (held_of l) u) → Added l l' [] (u ∷ []) []
  unfolding adding mores
  unresolved_added u a = record { stored = a }

  pub call_added : (c : CallSite) → Stored l l' (with_call (held_of l) c) → Added l l' [] [] (c ∷ [])
  unfolding adding mores
  call_added c a = record { stored = a }

-- ---- the table and the blocks

pub table_none : (l : Lent) → Stored l l (with_table (held_of l) [])
unfolding with_table mores
table_none l = stored_none l

pub blocks_none : (l : Lent) → Stored l l (with_blocks (held_of l) [])
unfolding with_blocks mores
blocks_none l = stored_none l

pub block_one : {l m : Lent} (b : Block) → Stored l m (with_block (held_of l) b) → Stored l m (with_blocks (held_of l) (b ∷ []))
unfolding with_blocks mores
block_one b stored = stored

table-behind : (h : Held) (es : List TableEntry) (e : TableEntry) → with_entry (with_table h es) e ≡ with_table h (es ++ (e ∷ []))
unfolding with_table mores
table-behind h es e =
    ap (λ (p : Part TableEntry). holding h.graph.entry p (blocks_in h) (edges_in h) (regions_in h) (handlers_in h) (unresolved_in h) (calls_in h))
    (sym (mores_append 512 (table_in h) es (e ∷ [])))

blocks_behind : (h : Held) (bs bs' : List Block) → with_blocks (with_blocks h bs) bs' ≡ with_blocks h (bs ++ bs')
unfolding with_blocks
blocks_behind h bs bs' =
    ap (λ (p : Part Block). holding h.graph.entry (table_in h) p (edges_in h) (regions_in h) (handlers_in h) (unresolved_in h) (calls_in h))
    (sym (mores_append 1024 (blocks_in h) bs bs'))

pub table_more : {l m n : Lent} (es : List TableEntry) (e : TableEntry) → Stored l m (with_table (held_of l) es) → Stored m n (with_entry (held_of m) e) → Stored l n (with_table (held_of l) (es ++ (e ∷ [])))
table_more {l} es e a b = rw (ap (λ (h : Held). with_entry h e) a.holds ∙ table-behind (held_of l) es e) at (stored_then a b)

pub blocks_then : {l m n : Lent} (bs bs' : List Block) → Stored l m (with_blocks (held_of l) bs) → Stored m n (with_blocks (held_of m) bs') → Stored l n (with_blocks (held_of l) (bs ++ bs'))
blocks_then {l} bs bs' a b = rw (ap (λ (h : Held). with_blocks h bs') a.holds ∙ blocks_behind (held_of l) bs bs') at (stored_then a b)

-- ---- within the limits

pub adding-held : (g : Graph) (es : List Edge) (us : List UnresolvedTransfer) (cs : List CallSite)
    → length g.edges + length es ≤ 4096 → length g.unresolved + length us ≤ 1024 → length g.calls + length cs ≤ 512
    → adding (held g) es us cs ≡ held (record { entry = g.entry; table = g.table; blocks = g.blocks; edges = g.edges ++ es; regions = g.regions; handlers = g.handlers; unresolved = g.unresolved ++ us; calls = g.calls ++ cs })
unfolding adding held
adding-held g es us cs he hu hc =
    λ t.
    holding
    g.entry
    (whole g.table)
    (whole g.blocks)
    (mores_whole 4096 g.edges es he t)
    (whole g.regions)
    (whole g.handlers)
    (mores_whole 1024 g.unresolved us hu t)
    (mores_whole 512 g.calls cs hc t)

module _ (g : Graph) where
  pub table-held : (es : List TableEntry) → length g.table + length es ≤ 512 → with_table (held g) es ≡ held (record { entry = g.entry; table = g.table ++ es; blocks = g.blocks; edges = g.edges; regions = g.regions; handlers = g.handlers; unresolved = g.unresolved; calls = g.calls })
  unfolding with_table held
  table-held es h = ap (λ (p : Part TableEntry). holding g.entry p (whole g.blocks) (whole g.edges) (whole g.regions) (whole g.handlers) (whole g.unresolved) (whole g.calls)) (mores_whole 512 g.table es h)

  pub blocks_held : (bs : List Block) → length g.blocks + length bs ≤ 1024 → with_blocks (held g) bs ≡ held (record { entry = g.entry; table = g.table; blocks = g.blocks ++ bs; edges = g.edges; regions = g.regions; handlers = g.handlers; unresolved = g.unresolved; calls = g.calls })
  unfolding with_blocks held
  blocks_held bs h = ap (λ (p : Part Block). holding g.entry (whole g.table) p (whole g.edges) (whole g.regions) (whole g.handlers) (whole g.unresolved) (whole g.calls)) (mores_whole 1024 g.blocks bs h)
