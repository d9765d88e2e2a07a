-- Stores one after the other, and graphs that hold all their records: what a loop above the store cites.
--     grows_none, untouched_none   no count falls, and no row changes, where nothing does
--     untouched_then               rows left alone, and then again
--     stored_none, stored_then     no store, and one behind another
--     stored_onto                  a turn of a loop: what a leaf says of the graph at hand, said of those at entry
--     emptied_then                 stores into an emptied graph: which rows are as they were before it was
--     held-nothing                 the emptied graph
--     whole, more_whole            a kind of which nothing is cut, and a record more
--     region-more, handler-more    a graph with room, and a record more
--     all_held                     within the limits nothing is cut
-- Assumes nothing.
use mathlib.Core.Path.{◌≡◌, refl, sym, ap, ◌∙◌}
use mathlib.Core.Bool.{Bool, true, ◌&&◌, false}
use mathlib.Core.List.{List, [], ◌∷◌, ◌++◌}
use Prim.Native.Nat.{ℕ, ◌+◌, ◌-◌, ◌<◌, ◌≤◌, min}
use native.Mathlib.Omega.{arith}
use borrow.Author.Tests.{lt-ltb}
use lib.Dec.{T, leb, leb→le}
use lib.ListN.{length, get_or, drop, length-append}
use Rattle.std.proofs.lemmas.List.{drop-drop}
use Rattle.image.proofs.Tables.{length-table}
use Rattle.graph.specs.Graph.{Graph, Held, held, no_block, no_edge, no_region, no_handler, no_unresolved, no_call}
use Rattle.graph.specs.Table.{no_entry}
use Rattle.graph.specs.WellFormed.{within_limits}
use Rattle.graph.specs.Lent.{Part, part, holding, held_of}
use Rattle.graph.specs.Stored.{more, nothing, with_region, with_handler, Grows, Untouched, Stored, Emptied}
use Rattle.graph.specs.Graph.{Counts}
use Rattle.graph.specs.declared.store.Graph.{Graph as Lent}
use Rattle.graph.specs.declared.record.Region.{Region}
use Rattle.graph.specs.declared.record.HandlerRecord.{HandlerRecord}

-- ---- one store behind another

pub grows_none : (c : Counts) → Grows c c
grows_none c = record { table = omega arith; blocks = omega arith; edges = omega arith; regions = omega arith; handlers = omega arith; unresolved = omega arith; calls = omega arith }

pub untouched_none : (g : Lent) → Untouched g g
untouched_none g = record { spare = refl; table = refl; blocks = refl; edges = refl; regions = refl; handlers = refl; unresolved = refl; calls = refl }

-- rows that are alike from n on are so from m on
later : {A : Type 0} (n m : ℕ) (k l : List A) → n ≤ m → drop n k ≡ drop n l → drop m k ≡ drop m l
later n m k l h e =
    let all : n + (m - n) ≡ m = omega arith in
    rw (← all) (sym (drop-drop (m - n) n k) ∙ ap (drop (m - n)) e ∙ drop-drop (m - n) n l)

pub untouched_then : {f g h : Lent} → Untouched f g → Grows g.counts h.counts → Untouched g h → Untouched f h
untouched_then {f} {g} {h} a up b =
    record {
      spare = b.spare ∙ a.spare;
      table = b.table ∙ later g.counts.table h.counts.table g.table f.table up.table a.table;
      blocks = b.blocks ∙ later g.counts.blocks h.counts.blocks g.blocks f.blocks up.blocks a.blocks;
      edges = b.edges ∙ later g.counts.edges h.counts.edges g.edges f.edges up.edges a.edges;
      regions = b.regions ∙ later g.counts.regions h.counts.regions g.regions f.regions up.regions a.regions;
      handlers = b.handlers ∙ later g.counts.handlers h.counts.handlers g.handlers f.handlers up.handlers a.handlers;
      unresolved = b.unresolved ∙ later g.counts.unresolved h.counts.unresolved g.unresolved f.unresolved up.unresolved a.unresolved;
      calls = b.calls ∙ later g.counts.calls h.counts.calls g.calls f.calls up.calls a.calls;
    }

pub stored_none : (g : Lent) → Stored g g (held_of g)
stored_none g = record { holds = refl; grows = grows_none g.counts; kept = untouched_none g }

pub stored_then : {f g h : Lent} {x y : Held} → Stored f g x → Stored g h y → Stored f h y
stored_then a b =
    record {
      holds = b.holds;
      grows = record { table = omega (arith, a.grows.table, b.grows.table); blocks = omega (arith, a.grows.blocks, b.grows.blocks); edges = omega (arith, a.grows.edges, b.grows.edges); regions = omega (arith, a.grows.regions, b.grows.regions); handlers = omega (arith, a.grows.handlers, b.grows.handlers); unresolved = omega (arith, a.grows.unresolved, b.grows.unresolved); calls = omega (arith, a.grows.calls, b.grows.calls) };
      kept = untouched_then a.kept b.grows b.kept;
    }

pub stored_onto : {f g h : Lent} {x y : Held} (into : Held → Held) → Stored f g x → Stored g h (into (held_of g)) → into x ≡ y → Stored f h y
stored_onto into a b is =
    let c = stored_then a b in
    record { holds = c.holds ∙ ap into a.holds ∙ is; grows = c.grows; kept = c.kept }

pub emptied_then : {f g h : Lent} {x : Held} → Emptied f g → Stored g h x → Untouched f h
emptied_then a b = untouched_then a.kept b.grows b.kept

-- ---- graphs that hold all their records

abbrev pub whole : {A : Type 0} → List A → Part A
whole p = record { count = length p; list = p }

-- a graph with no record, as `empty` leaves it
pub held-nothing : nothing ≡ held (record { entry = 0; table = []; blocks = []; edges = []; regions = []; handlers = []; unresolved = []; calls = [] })
unfolding held
held-nothing = refl

pub more_whole : {A : Type 0} (most : ℕ) (p : List A) (a : A) → length p < most → more most (whole p) a ≡ whole (p ++ (a ∷ []))
unfolding more
more_whole most p a h = rw (lt-ltb (length p) most h) (λ t. record { count = sym (length-append p (a ∷ [])) t; list = p ++ (a ∷ []) })

module _ (g : Graph) where
  pub region-more : (r : Region) → length g.regions < 32 → with_region (held g) r ≡ held (record { entry = g.entry; table = g.table; blocks = g.blocks; edges = g.edges; regions = g.regions ++ (r ∷ []); handlers = g.handlers; unresolved = g.unresolved; calls = g.calls })
  unfolding held
  region-more r h = ap (λ (p : Part Region). holding g.entry (whole g.table) (whole g.blocks) (whole g.edges) p (whole g.handlers) (whole g.unresolved) (whole g.calls)) (more_whole 32 g.regions r h)

  pub handler-more : (r : HandlerRecord) → length g.handlers < 32 → with_handler (held g) r ≡ held (record { entry = g.entry; table = g.table; blocks = g.blocks; edges = g.edges; regions = g.regions; handlers = g.handlers ++ (r ∷ []); unresolved = g.unresolved; calls = g.calls })
  unfolding held
  handler-more r h = ap (λ (p : Part HandlerRecord). holding g.entry (whole g.table) (whole g.blocks) (whole g.edges) (whole g.regions) p (whole g.unresolved) (whole g.calls)) (more_whole 32 g.handlers r h)

-- ---- within the limits

exact : {A : Type 0} (none : A) (most n : ℕ) (rows : List A) → n ≤ most → part none most n rows ≡ whole (part none most n rows).list
exact none most n rows h = λ t. record { count = is t; list = (part none most n rows).list }
  where
    is : n ≡ length (part none most n rows).list
    is = omega (arith, length-table (λ i. get_or rows i none) none (min n most))

each : (a b c d e f g h : Bool) → T (a && b && c && d && e && f && g && h) → T a × T c × T d × T e × T f × T g × T h
each true true true true true true true true t = (tt, tt, tt, tt, tt, tt, tt)
each false b c d e f g h t = elim t [ ]
each true false c d e f g h t = elim t [ ]
each true true false d e f g h t = elim t [ ]
each true true true false e f g h t = elim t [ ]
each true true true true false f g h t = elim t [ ]
each true true true true true false g h t = elim t [ ]
each true true true true true true false h t = elim t [ ]
each true true true true true true true false t = elim t [ ]

pub all_held : (g : Lent) → within_limits (held_of g).counts ≡ true → held_of g ≡ held (held_of g).graph
unfolding held_of held within_limits
all_held g e =
    let n = g.counts in
    let within : T (within_limits (held_of g).counts) = rw e tt in
    let c = each (leb n.table 512) (leb 1 n.blocks) (leb n.blocks 1024) (leb n.edges 4096) (leb n.regions 32) (leb n.handlers 32) (leb n.unresolved 1024) (leb n.calls 512) within in
    λ t.
    holding
    g.entry
    (exact no_entry 512 n.table g.table (leb→le _ _ c.0) t)
    (exact no_block 1024 n.blocks g.blocks (leb→le _ _ c.1) t)
    (exact no_edge 4096 n.edges g.edges (leb→le _ _ c.2) t)
    (exact no_region 32 n.regions g.regions (leb→le _ _ c.3) t)
    (exact no_handler 32 n.handlers g.handlers (leb→le _ _ c.4) t)
    (exact no_unresolved 1024 n.unresolved g.unresolved (leb→le _ _ c.5) t)
    (exact no_call 512 n.calls g.calls (leb→le _ _ c.6) t)
