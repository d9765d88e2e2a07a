-- `add_unwind_routes`: the graph and the hops afterwards, or the refusal.
use Rattle.std.specs.Prelude.{cond, not, ◌&&◌, List, [], ◌++◌, ℕ, leb, length, get_or}
use Rattle.std.proofs.Math.Option.{Option, none, some}
use Rattle.image.specs.Refusal.{Refusal, refusal, Check, clear, ◌then◌, unless}
use Rattle.image.specs.Image.{RouteImage}
use Rattle.image.specs.Read.{Reading, read, refusing, read_routes}
use Rattle.image.specs.Deal.{UnwindEnd, handler, propagate, resume, UnwindRoute, routes_of}
use Rattle.graph.specs.declared.record.Block.{Block}
use Rattle.graph.specs.declared.record.Edge.{Edge}
use Rattle.graph.specs.Graph.{Graph, Held}
use Rattle.graph.specs.Fold.{checks}
use Rattle.graph.specs.Table.{entry_at, range_check}
use Rattle.graph.specs.Route.{route_at, resumes_late}
use Rattle.graph.specs.WellFormed.{well_formed}
use Rattle.addition.specs.Lists.{joined}
use Rattle.addition.specs.Order.{tagged}
use Rattle.addition.specs.Blocks.{Leading, leads, inside, absent, leading, within}
use Rattle.addition.specs.Part.{funclets}
use Rattle.addition.specs.Trie.{Node, node_at, tries}
use Rattle.addition.specs.Instance.{clone_blocks, clone_edges}
use Rattle.addition.specs.Ways.{Hop, ways, hops_of, route_edges}

-- '14 MissingRouteEntry', '17 RouteAddressNotBlockStart'
unfoldable pub lead_found : ℕ → Leading → Check
lead_found a (leads b) = clear
lead_found a inside = Check.refused (refusal 17 a 0)
lead_found a absent = Check.refused (refusal 14 a 0)

unfoldable pub lead_check : Graph → ℕ → Check
lead_check g a = lead_found a (leading g a)

-- '17 RouteAddressNotBlockStart: per route after 15': each instruction of the range leads its block
unfoldable pub range_leads : Graph → UnwindRoute → ℕ → Check
range_leads g r p = cond (within r (entry_at g.table p).address) (lead_check g (entry_at g.table p).address) clear

-- 'Per route: 10 to 12, 15 ResumeAfterFunclet (route)', then 17
unfoldable pub route_check : Graph → List UnwindRoute → ℕ → Check
route_check g rs k =
    range_check g.table (route_at rs k).start (route_at rs k).end
    then unless (not (resumes_late (route_at rs k))) (refusal 15 k 0)
    then checks (range_leads g (route_at rs k)) (length g.table)

-- 'then per trie node, funclet before ends, where 14 may come too'
unfoldable pub funclet_check : Graph → Option ℕ → Check
funclet_check g none = clear
funclet_check g (some f) = lead_check g f

unfoldable pub end_check : Graph → UnwindEnd → Check
end_check g (handler h) = lead_check g h
end_check g propagate = clear
end_check g resume = clear

unfoldable pub node_check : Graph → Node → Check
node_check g n =
    funclet_check g n.funclet
    then checks (λ j. end_check g (get_or n.ends j (tagged [] propagate)).what) (length n.ends)

-- What the addition gives: blocks and edges behind those that stood, the hops, and all else as it was.
pub record Addition : Type 0 where
  pub graph : Graph
  pub hops : List Hop

-- the graph with more blocks and edges
unfoldable pub extended : Graph → List Block → List Edge → Graph
extended g bs es =
    record { entry = g.entry; table = g.table; blocks = g.blocks ++ bs; edges = g.edges ++ es; regions = g.regions; handlers = g.handlers; unresolved = g.unresolved; calls = g.calls }

unfoldable pub addition : Graph → List UnwindRoute → Addition
addition g rs =
    let z = (tries rs).nodes in
    let bs = clone_blocks g (funclets rs) z in
    let ws = ways g rs in
    record {
      graph = extended g bs (clone_edges g (funclets rs) z ++ route_edges (extended g bs []) [] ws);
      hops = hops_of ws;
    }

-- 'Last, in number order, when the definition's result exceeds: 18 blocks 1,024; 19 edges 4,096; 20 hops 2,048 or call
-- lists 4,096.'
unfoldable pub size_check : Addition → Check
size_check a =
    unless (leb (length a.graph.blocks) 1024) (refusal 18 0 0)
    then unless (leb (length a.graph.edges) 4096) (refusal 19 0 0)
    then unless (leb (length a.hops) 2048 && leb (length (joined (λ h. h.calls) a.hops)) 4096) (refusal 20 0 0)

pub data Outcome : Type 0 where
  added : Addition → Outcome
  refused : Refusal → Outcome

unfoldable pub outcome : Check → Addition → Outcome
outcome clear a = added a
outcome (Check.refused r) a = refused r

-- routes that were read, added to a graph that 21 lets pass
unfoldable pub add_routes_to : Graph → List UnwindRoute → Outcome
add_routes_to g rs =
    outcome
    (checks (route_check g rs) (length rs)
    then checks (λ i. node_check g (node_at (tries rs).nodes i)) (length (tries rs).nodes)
    then size_check (addition g rs))
    (addition g rs)

unfoldable pub add_read : Graph → Reading RouteImage → Outcome
add_read g (read m) = add_routes_to g (routes_of m)
add_read g (refusing r) = refused r

-- '21 the graph is none .. Checked first, before 1 and 2 of a route image.'
unfoldable pub add_routes : Held → List ℕ → Outcome
add_routes h l = cond (well_formed h) (add_read h.graph (read_routes l)) (refused (refusal 21 0 0))
