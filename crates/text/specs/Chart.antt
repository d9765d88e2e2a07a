-- 'The program chart': its lines, 'kind by kind in this order'.
use Rattle.std.specs.Prelude.{Bool, cond, not, ◌||◌, List, [], ◌∷◌, ◌++◌, map, ℕ, eqb, length, drop}
use Rattle.image.specs.Image.{table}
use Rattle.image.specs.Little.{le1}
use Rattle.image.specs.Read.{code_layout_of, end_of}
use Rattle.image.specs.Refusal.{Refusal}
use Rattle.graph.specs.Graph.{Graph, held, block, edge, region, handler, unresolved_transfer, call_site}
use Rattle.graph.specs.Table.{entry_at}
use Rattle.graph.specs.Flow.{HandlerKind, Unresolved}
use Rattle.graph.specs.Build.{Outcome, built, refused, build_from}
use Rattle.graph.specs.Reached.{reached_blocks}
use Rattle.addition.specs.Lists.{joined}
use Rattle.addition.specs.Ways.{HopEnd, Hop}
use Rattle.addition.specs.Add.{Outcome as Adding, added, refused as not_added, add_routes}
use Rattle.text.specs.declared.field.Field.{Field}
use Rattle.text.specs.declared.field.Field.TheVariants.{Number, Leave, Absent}
use Rattle.text.specs.Line.{bytes, present_if, line}

-- '`built` blocks edges regions unresolved calls'
unfoldable pub built_line : Graph → List ℕ
built_line g =
    line (bytes "built")
    (Number (length g.blocks) ∷ Number (length g.edges) ∷ Number (length g.regions) ∷ Number (length g.unresolved) ∷ Number (length g.calls) ∷ [])

-- '`block` number, first address, instructions': an empty block has no first address
unfoldable pub block_line : Graph → ℕ → List ℕ
block_line g b =
    let x = block g b in
    line (bytes "block")
    (Number b ∷ present_if (not (eqb x.count 0)) (entry_at g.table x.first).address ∷ Number x.count ∷ [])

-- '`edge` number, source, target, kind, role, role number'
unfoldable pub edge_line : Graph → ℕ → List ℕ
edge_line g e =
    let x = edge g e in
    line (bytes "edge")
    (Number e ∷ Number x.source ∷ Number x.target ∷ Number x.kind ∷ Number x.role ∷ Number x.number ∷ [])

-- '`region` number, parent, start, end'
unfoldable pub region_line : Graph → ℕ → List ℕ
region_line g r =
    let x = region g r in
    line (bytes "region")
    (Number r ∷ present_if (not (eqb x.has_parent 0)) x.parent ∷ Number x.start ∷ Number x.end ∷ [])

-- '`handler` input index, region, place, entry, kind, filter': a Filter alone has one
unfoldable pub handler_line : Graph → ℕ → List ℕ
handler_line g h =
    let x = handler g h in
    line (bytes "handler")
    (Number h ∷ Number x.region ∷ Number x.place ∷ Number x.entry ∷ Number x.kind ∷ present_if (eqb x.kind HandlerKind.filter) x.filter ∷ [])

-- '`unresolved` source, target, role, case index': the role tells what there is of a target and a case
unfoldable pub computes : ℕ → Bool
computes role =
    eqb role Unresolved.indirect || eqb role Unresolved.indirect_call || eqb role Unresolved.conditional_indirect || eqb role Unresolved.trap

unfoldable pub unresolved_line : Graph → ℕ → List ℕ
unresolved_line g u =
    let x = unresolved_transfer g u in
    line (bytes "unresolved")
    (Number x.source ∷ present_if (not (computes x.role)) x.target ∷ Number x.role ∷ present_if (eqb x.role Unresolved.switch_case) x.case_index ∷ [])

-- '`call` source, target'
unfoldable pub call_line : Graph → ℕ → List ℕ
call_line g c =
    let x = call_site g c in line (bytes "call") (Number x.source ∷ present_if (not (eqb x.has_target 0)) x.target ∷ [])

-- the lines of a graph: all up to the hops
unfoldable pub graph_lines : Graph → List (List ℕ)
graph_lines g =
    built_line g
    ∷ (table (block_line g) (length g.blocks)
    ++ (table (edge_line g) (length g.edges)
    ++ (table (region_line g) (length g.regions)
    ++ (table (handler_line g) (length g.handlers)
    ++ (table (unresolved_line g) (length g.unresolved)
    ++ table (call_line g) (length g.calls))))))

-- '`hop` source, end block or `leave`, tags'; 'What is absent, an empty tag list too, is `-`.'
unfoldable pub end_field : HopEnd → Field
end_field (HopEnd.block b) = Number b
end_field HopEnd.leave = Leave

unfoldable pub tag_fields : List ℕ → List Field
tag_fields [] = Absent ∷ []
tag_fields (t ∷ ts) = Number t ∷ map Number ts

unfoldable pub hop_line : Hop → List ℕ → List ℕ
hop_line h tags = line (bytes "hop") (Number h.source ∷ end_field h.end ∷ tag_fields tags)

-- 'one line a list, sorted': as the hops of an addition stand, and the lists of each
unfoldable pub hop_lines : List Hop → List (List ℕ)
hop_lines hs = joined (λ h. map (hop_line h) h.calls) hs

-- '`reached` count'
unfoldable pub reached_line : ℕ → List ℕ
reached_line n = line (bytes "reached") (Number n ∷ [])

-- 'A refusal prints only `refused` and its three numbers.'
unfoldable pub refused_line : Refusal → List ℕ
refused_line r = line (bytes "refused") (Number r.number ∷ Number r.first ∷ Number r.second ∷ [])

-- a graph and the hops of the addition that made it: 'Lines, kind by kind in this order'
unfoldable pub chart_lines : Graph → List Hop → List (List ℕ)
chart_lines g hs = graph_lines g ++ (hop_lines hs ++ (reached_line (length (reached_blocks g)) ∷ []))

-- the chart of a build, and of an addition
unfoldable pub chart_of : Outcome → List (List ℕ)
chart_of (refused r) = refused_line r ∷ []
chart_of (built g) = chart_lines g []

unfoldable pub added_chart : Adding → List (List ℕ)
added_chart (not_added r) = refused_line r ∷ []
added_chart (added a) = chart_lines a.graph a.hops

-- 'Routes for a later call are the last three sections alone.'
unfoldable pub route_bytes : List ℕ → List ℕ
route_bytes l = drop (end_of (code_layout_of l).handlers) l

-- 'in modes 1 and 2, adds the routes too; the lines then show the graph after the addition'
unfoldable pub with_routes : List ℕ → Outcome → List (List ℕ)
with_routes l (refused r) = chart_of (refused r)
with_routes l (built g) = cond (eqb (le1 l 1) 0) (chart_of (built g)) (added_chart (add_routes (held g) (route_bytes l)))

-- THE PROGRAM'S LINES for an image
unfoldable pub chart_from : List ℕ → List (List ℕ)
chart_from l = with_routes l (build_from l)
