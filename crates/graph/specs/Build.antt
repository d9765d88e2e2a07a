-- A build: `build_address_cfg` (mode 0), `build_address_cfg_with_routes` (1), `build_address_cfg_from_given_edges` (2). Its
-- refusals stand in the order of 'Refused because of the input'.
use Rattle.std.specs.Prelude.{Bool, cond, not, ◌&&◌, ◌||◌, List, ℕ, zero, suc, eqb, ltb, leb, length}
use Rattle.image.specs.Image.{Image}
use Rattle.image.specs.Read.{Reading, read, refusing, read_image}
use Rattle.image.specs.Refusal.{Refusal, refusal, Check, clear, ◌then◌, unless}
use Rattle.image.specs.declared.record.GivenEdge.{GivenEdge}
use Rattle.graph.specs.declared.record.TableEntry.{TableEntry}
use Rattle.graph.specs.Graph.{Graph}
use Rattle.graph.specs.Fold.{checks}
use Rattle.graph.specs.Table.{entry_at, is_start, range_check}
use Rattle.graph.specs.Flow.{Flow, falls_through, is_call}
use Rattle.graph.specs.Transfer.{table_of, size, instruction_at, address_at, Transfer, has_target, transfer_at, slot_count, source_at, is_given, given_at, given}
use Rattle.graph.specs.Route.{route_check}
use Rattle.graph.specs.Leaders.{handler_at, routes}
use Rattle.graph.specs.Blocks.{is_terminator, blocks_of, entry_of}
use Rattle.graph.specs.Edges.{resolved, edges_of, unresolved_of, calls_of}
use Rattle.graph.specs.Regions.{regions_of, handlers_of}

-- '3 AddressOverflow, 4 ZeroSizeInstruction, 5 UnorderedInstruction (previous, address), per instruction'
unfoldable pub order_check : List TableEntry → ℕ → Check
order_check t zero = clear
order_check t (suc p) =
    unless (ltb (entry_at t p).address (entry_at t (suc p)).address) (refusal 5 (entry_at t p).address (entry_at t (suc p)).address)

unfoldable pub instruction_check : List TableEntry → ℕ → Check
instruction_check t p =
    unless (eqb (entry_at t p).has_end 1) (refusal 3 (entry_at t p).address 0)
    then unless (ltb (entry_at t p).address (entry_at t p).end) (refusal 4 (entry_at t p).address 0)
    then order_check t p

unfoldable pub table_check : List TableEntry → Check
table_check t = checks (instruction_check t) (length t)

-- '6 MissingEntry. 7 MissingGivenSource, the lowest': the sources rise
unfoldable pub entry_check : Image → Check
entry_check m = unless (not m.header.has_entry || is_start (table_of m) m.header.entry) (refusal 6 m.header.entry 0)

unfoldable pub source_check : Image → ℕ → Check
source_check m s = unless (is_start (table_of m) (source_at m s).address) (refusal 7 (source_at m s).address 0)

-- 'By position: 8 MissingGivenTarget (source, target), 9 TransferWithoutGivenEdges': 'every flow but Next and the two calls
-- where no source is given'
unfoldable pub given_mode : Image → Bool
given_mode m = eqb m.header.mode 2

abbrev pub target_check : List TableEntry → ℕ → GivenEdge → Check
target_check t source e = unless (is_start t e.target) (refusal 8 source e.target)

unfoldable pub given_check : Image → ℕ → Check
given_check m p =
    cond (is_given m p) (checks (λ k. target_check (table_of m) (address_at m p) (given m p k)) (length (given_at m p)))
    (unless (not (given_mode m) || eqb (instruction_at m p).flow Flow.next || is_call (instruction_at m p).flow) (refusal 9 (address_at m p) 0))

-- 'Per handler: 10 EmptyProtectedRange (start, end), 11 MissingRangeStart, 12 MissingRangeEnd, 13 MissingHandlerEntry.'
unfoldable pub handler_check : Image → ℕ → Check
handler_check m h =
    range_check (table_of m) (handler_at m h).start (handler_at m h).end
    then unless (is_start (table_of m) (handler_at m h).entry) (refusal 13 (handler_at m h).entry 0)

-- '16 MissingContinuation (source, target)': 'in given mode the sequential and call kinds give 16'
unfoldable pub continues : Image → Transfer → Bool
continues m x = not (has_target x && falls_through x.role) || resolved m x

unfoldable pub continuation_check : Image → ℕ → Check
continuation_check m p =
    cond (given_mode m && is_terminator m p && not (is_given m p))
    (checks (λ k. unless (continues m (transfer_at m p k)) (refusal 16 (address_at m p) (transfer_at m p k).target)) (slot_count m p)) clear

-- 3 to 15
unfoldable pub input_check : Image → Check
input_check m =
    table_check (table_of m)
    then entry_check m
    then checks (source_check m) (length m.sources)
    then checks (given_check m) (size m)
    then checks (handler_check m) (length m.handlers)
    then checks (route_check (table_of m) (routes m)) (length (routes m))

-- 16, and '19 edges 4,096 (also last in a build)'
unfoldable pub result_check : Image → Check
result_check m = checks (continuation_check m) (size m) then unless (leb (length (edges_of m)) 4096) (refusal 19 0 0)

unfoldable pub build_check : Image → Check
build_check m = input_check m then result_check m

unfoldable pub graph_from : Image → Graph
graph_from m =
    record {
      entry = entry_of m;
      table = table_of m;
      blocks = blocks_of m;
      edges = edges_of m;
      regions = regions_of m;
      handlers = handlers_of m;
      unresolved = unresolved_of m;
      calls = calls_of m;
    }

pub data Outcome : Type 0 where
  built : Graph → Outcome
  refused : Refusal → Outcome

abbrev pub outcome : Check → Graph → Outcome
outcome clear g = built g
outcome (Check.refused r) g = refused r

unfoldable pub build_of : Image → Outcome
build_of m = outcome (build_check m) (graph_from m)

-- an image that was read, or the refusal of its reading (1, 2)
unfoldable pub build_read : Reading Image → Outcome
build_read (read m) = build_of m
build_read (refusing r) = refused r

unfoldable pub build_from : List ℕ → Outcome
build_from l = build_read (read_image l)
