-- Rule 21 on small graphs: two that stand, and for each phrase graphs that it alone refuses.
--     every_graph    the test of all rows, computed
use mathlib.Core.Path.{◌≡◌, refl}
use mathlib.Core.Bool.{Bool, true, false, beq, ◌&&◌}
use mathlib.Core.List.{List, [], ◌∷◌}
use Prim.Native.Nat.{ℕ}
use Prim.Native.String.{String}
use lib.ListN.{replicate}
use Rattle.graph.specs.Graph.{Graph, Held, held}
use Rattle.graph.specs.Fold.{some, all, checks, sum}
use Rattle.graph.specs.Table.{entry_at}
use Rattle.graph.specs.Build.{order_check, instruction_check, table_check}
use Rattle.graph.specs.WellFormed.{within_limits, is_block, edge_ends_exist, within, region_blocks_exist, parents_exist, names_handler, same_reference, references_match, in_sets, filled, is_built, covers_table, repeats, copies_repeat, none_empty, well_formed}
use Rattle.graph.specs.declared.record.TableEntry.{TableEntry}
use Rattle.graph.specs.declared.record.Block.{Block}
use Rattle.graph.specs.declared.record.Edge.{Edge}
use Rattle.graph.specs.declared.record.Region.{Region}
use Rattle.graph.specs.declared.record.HandlerRecord.{HandlerRecord}
use Rattle.graph.specs.declared.record.UnresolvedTransfer.{UnresolvedTransfer}
use Rattle.graph.specs.declared.record.CallSite.{CallSite}

-- ---- the records of a graph that stands: three instructions, two built blocks and a copy

abbrev entry : ℕ → ℕ → ℕ → ℕ → ℕ → TableEntry
entry a e has keeps flow = record { address = a; end = e; has_end = has; keeps = keeps; flow = flow }

abbrev run : ℕ → ℕ → Block
run first count = record { first = first; count = count }

abbrev edge : ℕ → ℕ → ℕ → ℕ → Edge
edge s t kind role = record { source = s; target = t; kind = kind; role = role; number = 7; key = 7; source_address = 7; target_address = 7 }

abbrev region : ℕ → ℕ → ℕ → ℕ → Region
region has parent handlers blocks = record { has_parent = has; parent = parent; start = 7; end = 7; handlers = handlers; protected = blocks ∷ replicate 15 0 }

abbrev handler : ℕ → ℕ → ℕ → ℕ → HandlerRecord
handler r p e kind = record { region = r; place = p; entry = e; kind = kind; filter = 99 }

abbrev loose : ℕ → UnresolvedTransfer
loose role = record { source = 7; target = 7; role = role; case_index = 7 }

abbrev site : ℕ → CallSite
site has = record { source = 7; has_target = has; target = 7 }

abbrev table : List TableEntry
table = entry 0 1 1 1 0 ∷ entry 1 5 1 0 12 ∷ entry 2 3 1 1 1 ∷ []

abbrev blocks : List Block
blocks = run 0 1 ∷ run 1 2 ∷ run 1 2 ∷ []

abbrev edges : List Edge
edges = edge 0 1 7 11 ∷ edge 2 2 0 0 ∷ []

abbrev regions : List Region
regions = region 0 9 1 1 ∷ region 1 1 1 6 ∷ region 1 0 0 0 ∷ []

abbrev handlers : List HandlerRecord
handlers = handler 1 0 2 4 ∷ handler 0 0 0 0 ∷ []

abbrev graph : ℕ → List TableEntry → List Block → List Edge → List Region → List HandlerRecord → List UnresolvedTransfer → List CallSite → Graph
graph e t bs es rs hs us cs = record { entry = e; table = t; blocks = bs; edges = es; regions = rs; handlers = hs; unresolved = us; calls = cs }

abbrev good : Graph
good = graph 2 table blocks edges regions handlers (loose 9 ∷ []) (site 1 ∷ [])

abbrev counting : ℕ → ℕ → ℕ → ℕ → ℕ → ℕ → ℕ → Held
counting t b e r h u c = record { counts = record { table = t; blocks = b; edges = e; regions = r; handlers = h; unresolved = u; calls = c }; graph = good }

-- the good graph with other records of one kind
abbrev with_table_law : List TableEntry → Held
with_table_law t = held (graph 2 t blocks edges regions handlers [] [])

abbrev with_blocks : List Block → Held
with_blocks bs = held (graph 0 table bs [] [] [] [] [])

abbrev with_edges_law : List Edge → Held
with_edges_law es = held (graph 2 table blocks es [] [] [] [])

abbrev with_regions_law : List Region → List HandlerRecord → Held
with_regions_law rs hs = held (graph 2 table blocks [] rs hs [] [])

-- ---- the table

pub record Row : Type 0 where
  pub name : String
  pub stands : Bool
  pub words : Held

abbrev stands : String → Held → Row
stands n h = record { name = n; stands = true; words = h }

abbrev falls : String → Held → Row
falls n h = record { name = n; stands = false; words = h }

pub rows : List Row
rows =
    stands "a graph" (held good) ∷
    stands "the empty table's" (held (graph 0 [] (run 0 0 ∷ []) [] [] [] [] [])) ∷
    stands "at the limits" (counting 512 1024 4096 32 32 1024 512) ∷
    falls "table above 512" (counting 513 3 2 3 2 1 1) ∷
    falls "no block" (counting 3 0 2 3 2 1 1) ∷
    falls "blocks above 1,024" (counting 3 1025 2 3 2 1 1) ∷
    falls "edges above 4,096" (counting 3 3 4097 3 2 1 1) ∷
    falls "regions above 32" (counting 3 3 2 33 2 1 1) ∷
    falls "handlers above 32" (counting 3 3 2 3 33 1 1) ∷
    falls "unresolved above 1,024" (counting 3 3 2 3 2 1025 1) ∷
    falls "calls above 512" (counting 3 3 2 3 2 1 513) ∷
    falls "3" (with_table_law (entry 0 1 1 1 0 ∷ entry 1 5 0 0 12 ∷ entry 2 3 1 1 1 ∷ [])) ∷
    falls "a flag above 1" (with_table_law (entry 0 1 1 1 0 ∷ entry 1 5 2 0 12 ∷ entry 2 3 1 1 1 ∷ [])) ∷
    falls "4" (with_table_law (entry 0 1 1 1 0 ∷ entry 1 1 1 0 12 ∷ entry 2 3 1 1 1 ∷ [])) ∷
    falls "5" (with_table_law (entry 0 1 1 1 0 ∷ entry 2 5 1 0 12 ∷ entry 2 3 1 1 1 ∷ [])) ∷
    falls "entry" (held (graph 3 table blocks [] [] [] [] [])) ∷
    falls "edge source" (with_edges_law (edge 3 0 0 0 ∷ [])) ∷
    falls "edge target" (with_edges_law (edge 0 3 0 0 ∷ [])) ∷
    falls "protected block" (with_regions_law (region 0 0 0 8 ∷ []) []) ∷
    falls "handler entry" (with_regions_law (region 0 0 1 0 ∷ []) (handler 0 0 3 0 ∷ [])) ∷
    falls "parent" (with_regions_law (region 1 1 0 0 ∷ []) []) ∷
    falls "handler of no region" (with_regions_law (region 0 0 1 0 ∷ []) (handler 1 0 0 0 ∷ [])) ∷
    falls "handler of no place" (with_regions_law (region 0 0 1 0 ∷ region 0 0 1 0 ∷ []) (handler 0 0 0 0 ∷ handler 1 1 0 0 ∷ [])) ∷
    falls "two references to one handler" (with_regions_law (region 0 0 1 0 ∷ region 0 0 1 0 ∷ []) (handler 0 0 0 0 ∷ handler 0 0 0 0 ∷ [])) ∷
    falls "handler without reference" (with_regions_law (region 0 0 2 0 ∷ []) (handler 0 1 0 0 ∷ [])) ∷
    falls "flow" (with_table_law (entry 0 1 1 1 13 ∷ entry 1 5 1 0 12 ∷ entry 2 3 1 1 1 ∷ [])) ∷
    falls "keeps" (with_table_law (entry 0 1 1 2 0 ∷ entry 1 5 1 0 12 ∷ entry 2 3 1 1 1 ∷ [])) ∷
    falls "kind" (with_edges_law (edge 0 0 8 0 ∷ [])) ∷
    falls "role" (with_edges_law (edge 0 0 0 12 ∷ [])) ∷
    falls "parent flag" (with_regions_law (region 2 0 0 0 ∷ []) []) ∷
    falls "handler kind" (with_regions_law (region 0 0 1 0 ∷ []) (handler 0 0 0 5 ∷ [])) ∷
    falls "unresolved role" (held (graph 0 table blocks [] [] [] (loose 10 ∷ []) [])) ∷
    falls "call's flag" (held (graph 0 table blocks [] [] [] [] (site 2 ∷ []))) ∷
    falls "table not covered" (with_blocks (run 0 1 ∷ run 1 1 ∷ [])) ∷
    falls "past the table" (with_blocks (run 0 1 ∷ run 1 3 ∷ [])) ∷
    falls "out of order" (with_blocks (run 1 2 ∷ run 0 1 ∷ [])) ∷
    falls "copy of no built run" (with_blocks (run 0 1 ∷ run 1 2 ∷ run 2 1 ∷ [])) ∷
    falls "empty built block" (with_blocks (run 0 0 ∷ run 0 1 ∷ run 1 2 ∷ [])) ∷
    falls "copy of the empty block" (held (graph 0 [] (run 0 0 ∷ run 0 0 ∷ []) [] [] [] [] [])) ∷
    []

every : List Row → Bool
every [] = true
every (r ∷ rs) = beq (well_formed r.words) r.stands && every rs

every_graph : every rows ≡ true
unfolding every rows held some all checks sum entry_at order_check instruction_check table_check within_limits is_block edge_ends_exist within region_blocks_exist parents_exist
    names_handler same_reference references_match in_sets filled is_built covers_table repeats copies_repeat none_empty well_formed
every_graph = refl
