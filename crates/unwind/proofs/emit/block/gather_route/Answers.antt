-- `gather_route` meets its contract: it guards b, or it does not. Assumes nothing.
use mathlib.Core.Path.{sym, ap, ◌∙◌, subst}
use native.Mathlib.Omega.{arith}
use Rattle.image.specs.Image.{routes_in}
use Rattle.unwind.specs.declared.tries.store.NodeRecord.{NodeRecord}
use Rattle.unwind.specs.Nodes.{record_in, NodeFits}
use Rattle.unwind.specs.Gather.{NodeThere, record_exits}
use Rattle.unwind.proofs.PoolLaws.{node_room, adds_none, adds-some, adds_record, route_in, route_out}
use borrow.Author.Rules.{rules}
use Rattle.unwind.proofs.emit.block.gather_route.Goals as goal

pub gather_node-requires : goal.gather_node-requires
gather_node-requires c = let here = ap (record_in c.args.nodes.now) (sym c.number_in-i.ensures.0) in
    let fits = subst (λ (x : NodeRecord). NodeFits c.args.edges.now c.args.ends.now x) here c.requires.3 in
    let there = subst (NodeThere c.args.nodes.now c.args.edges.now c.args.heads.now c.args.landings.now) (sym c.number_in-i.ensures.0) c.requires.5 in
    record { ordered = c.requires.0.ordered; block = omega (arith, c.requires.1); room = node_room (routes_in c.args.s.now c.args.y) c.args.b c.args.edges.now c.args.ends.now c.args.heads.now c.args.landings.now c.args.exits.now c.args.held (record_in c.args.nodes.now c.number_in-i.result) c.requires.0 fits; there = search rules; fits = fits; node = there }

pub shape_of-exits-then-in_set : goal.shape_of-exits-then-in_set
shape_of-exits-then-in_set c = c.gather_node.ensures.long

pub returns-then-in_set : goal.returns-then-in_set
returns-then-in_set c = let here = ap (record_in c.args.nodes.now) (sym c.number_in-i.ensures.0) in
    let fits = subst (λ (x : NodeRecord). NodeFits c.args.edges.now c.args.ends.now x) here c.requires.3 in
    adds-some (routes_in c.args.s.now c.args.y) c.args.b c.args.edges.now c.args.ends.now c.args.heads.now c.args.landings.now (ap (record_exits (routes_in c.args.s.now c.args.y) c.args.b c.args.edges.now c.args.ends.now c.args.heads.now c.args.landings.now) (sym here) ∙ route_in (routes_in c.args.s.now c.args.y) c.args.b c.args.edges.now c.args.ends.now c.args.heads.now c.args.landings.now c.args.nodes.now c.args.roots.now c.args.guards.now c.args.r (sym c.if-in_set.true ∙ c.in_set.ensures))
    (adds_record (routes_in c.args.s.now c.args.y) c.args.b c.args.edges.now c.args.ends.now c.args.heads.now c.args.landings.now (record_in c.args.nodes.now c.number_in-i.result) c.requires.0 fits c.gather_node.ensures)

pub returns : goal.returns
returns c = adds-some (routes_in c.args.s.now c.args.y) c.args.b c.args.edges.now c.args.ends.now c.args.heads.now c.args.landings.now (route_out (routes_in c.args.s.now c.args.y) c.args.b c.args.edges.now c.args.ends.now c.args.heads.now c.args.landings.now c.args.nodes.now c.args.roots.now c.args.guards.now c.args.r (sym c.if-in_set.false ∙ c.in_set.ensures))
    (adds_none (routes_in c.args.s.now c.args.y) c.args.b c.args.edges.now c.args.ends.now c.args.heads.now c.args.landings.now c.args.exits.now c.args.held c.requires.0)
