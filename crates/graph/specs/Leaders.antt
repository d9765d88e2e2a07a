-- Leaders: the instructions that start a block. Each definition is a phrase of 'Marks fall on', for a position of the table.
use Rattle.std.specs.Prelude.{Bool, cond, not, ◌&&◌, ◌||◌, List, [], ℕ, suc, eqb, ltb, leb, length, get_or}
use Rattle.image.specs.Image.{Image}
use Rattle.image.specs.Record.{handler_from}
use Rattle.image.specs.Deal.{UnwindRoute, routes_of}
use Rattle.image.specs.declared.record.Handler.{Handler}
use Rattle.graph.specs.Fold.{some, among}
use Rattle.graph.specs.Table.{is_start, below}
use Rattle.graph.specs.Flow.{Flow}
use Rattle.graph.specs.Transfer.{table_of, size, instruction_at, address_at, has_target, transfer_at, slot_count, is_given, given_at, given, ends_at}
use Rattle.graph.specs.Route.{route_at, entries}

-- 'the first instruction, the entry'
unfoldable pub entry_mark : Image → ℕ → Bool
entry_mark m p = eqb p 0 || (m.header.has_entry && eqb (address_at m p) m.header.entry)

-- 'each instruction after a gap or overlap and the start at that end if any'
unfoldable pub goes_on : Image → ℕ → Bool
goes_on m q = ltb (suc q) (size m) && eqb (instruction_at m q).end (address_at m (suc q))

abbrev pub gap_mark : Image → ℕ → ℕ → Bool
gap_mark m q p = not (goes_on m q) && (eqb p (suc q) || eqb (address_at m p) (instruction_at m q).end)

unfoldable pub sequence_mark : Image → ℕ → Bool
sequence_mark m p = some (λ q. gap_mark m q p) (size m)

-- 'each target that is a start, each successor of a flow that ends its block'; a given source's targets are its edges'
unfoldable pub leads_to : Image → ℕ → ℕ → Bool
leads_to m q a =
    cond (is_given m q) (some (λ k. eqb (given m q k).target a) (length (given_at m q)))
    (some (λ k. has_target (transfer_at m q k) && eqb (transfer_at m q k).target a) (slot_count m q))

abbrev pub end_mark : Image → ℕ → ℕ → Bool
end_mark m q p = ends_at m q && (leads_to m q (address_at m p) || eqb p (suc q))

unfoldable pub flow_mark : Image → ℕ → Bool
flow_mark m p = some (λ q. end_mark m q p) (size m)

-- 'each `Exceptional` flow'
unfoldable pub exceptional_mark : Image → ℕ → Bool
exceptional_mark m p = eqb (instruction_at m p).flow Flow.exceptional

-- 'and handlers' and routes' starts, ends, entries and protected instructions': a range marks the positions from its start
-- up to its end, the end with them
unfoldable pub range_mark : Image → ℕ → ℕ → ℕ → Bool
range_mark m start end p = leb (below (table_of m) start) p && leb p (below (table_of m) end)

unfoldable pub handler_at : Image → ℕ → Handler
handler_at m h = get_or m.handlers h (handler_from [] 0)

abbrev pub protect_mark : Image → ℕ → ℕ → Bool
protect_mark m h p = range_mark m (handler_at m h).start (handler_at m h).end p || eqb (address_at m p) (handler_at m h).entry

unfoldable pub handler_mark : Image → ℕ → Bool
handler_mark m p = some (λ h. protect_mark m h p) (length m.handlers)

unfoldable pub routes : Image → List UnwindRoute
routes m = routes_of m.routes

unfoldable pub route_mark : Image → ℕ → Bool
route_mark m p =
    some (λ r. range_mark m (route_at (routes m) r).start (route_at (routes m) r).end p || among (entries (route_at (routes m) r)) (address_at m p)) (length (routes m))

-- 'With any route, a Return or a Jump to no start leads its own block.'
unfoldable pub ends_funclet : Image → ℕ → Bool
ends_funclet m p =
    eqb (instruction_at m p).flow Flow.return
    || (eqb (instruction_at m p).flow Flow.jump && not (is_start (table_of m) (instruction_at m p).target))

unfoldable pub is_leader : Image → ℕ → Bool
is_leader m p =
    entry_mark m p
    || sequence_mark m p
    || flow_mark m p
    || exceptional_mark m p
    || handler_mark m p
    || route_mark m p
    || (ltb 0 (length (routes m)) && ends_funclet m p)
