-- `gather_returned` meets its contract: its part has b, or it has not. Assumes nothing.
use mathlib.Core.Path.{sym, ◌∙◌}
use Rattle.image.specs.Image.{routes_in}
use Rattle.unwind.specs.Nodes.{record_in}
use Rattle.unwind.proofs.PoolLaws.{node_room, adds_none, adds-some, adds_record, node_in_law, node_out}
use Rattle.unwind.proofs.emit.block.gather_returned.Goals as goal

pub gather_node-requires-clause-room : goal.gather_node-requires-clause-room
gather_node-requires-clause-room c = node_room (routes_in c.args.s.now c.args.y) c.args.b c.args.edges.now c.args.ends.now c.args.heads.now c.args.landings.now c.args.exits.now c.args.held (record_in c.args.nodes.now c.args.i) c.requires.0 c.requires.3

pub shape_of-exits-then-in_set : goal.shape_of-exits-then-in_set
shape_of-exits-then-in_set c = c.gather_node.ensures.long

pub returns-then-in_set : goal.returns-then-in_set
returns-then-in_set c = adds-some (routes_in c.args.s.now c.args.y) c.args.b c.args.edges.now c.args.ends.now c.args.heads.now c.args.landings.now (node_in_law (routes_in c.args.s.now c.args.y) c.args.b c.args.edges.now c.args.ends.now c.args.heads.now c.args.landings.now c.args.nodes.now c.args.parts.now c.args.i (sym c.if-in_set.true ∙ c.in_set.ensures))
    (adds_record (routes_in c.args.s.now c.args.y) c.args.b c.args.edges.now c.args.ends.now c.args.heads.now c.args.landings.now (record_in c.args.nodes.now c.args.i) c.requires.0 c.requires.3 c.gather_node.ensures)

pub returns : goal.returns
returns c = adds-some (routes_in c.args.s.now c.args.y) c.args.b c.args.edges.now c.args.ends.now c.args.heads.now c.args.landings.now (node_out (routes_in c.args.s.now c.args.y) c.args.b c.args.edges.now c.args.ends.now c.args.heads.now c.args.landings.now c.args.nodes.now c.args.parts.now c.args.i (sym c.if-in_set.false ∙ c.in_set.ensures))
    (adds_none (routes_in c.args.s.now c.args.y) c.args.b c.args.edges.now c.args.ends.now c.args.heads.now c.args.landings.now c.args.exits.now c.args.held c.requires.0)
