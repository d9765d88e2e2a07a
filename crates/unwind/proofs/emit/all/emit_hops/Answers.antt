-- `emit_hops` meets its contract: the blocks that stood, then the copies. Assumes nothing.
use mathlib.Core.Path.{sym, subst}
use mathlib.Core.List.{[], ◌++◌, append-nil}
use native.Mathlib.Omega.{arith}
use Rattle.image.specs.Image.{routes_in}
use Rattle.graph.specs.Lent.{held_of}
use Rattle.graph.specs.Fold.{flat}
use Rattle.unwind.specs.Placed.{returns_in}
use Rattle.unwind.specs.Lent.{block_hops}
use Rattle.unwind.specs.Copies.{node_hops}
use Rattle.unwind.specs.AllNodes.{behind_nodes}
use Rattle.unwind.proofs.ReturnLaws.{returns_long}
use Rattle.unwind.proofs.TrieNodes.{stored_fits}
use Rattle.unwind.proofs.LentLaws.{node_there}
use Rattle.unwind.proofs.MemberLaws.{nodes_sets, block_sets}
use Rattle.unwind.proofs.AllNodesLaws.{both_are, all_rise}
use Rattle.unwind.proofs.emit.all.emit_hops.Goals as goal

pub emit_blocks-requires-clause-few : goal.emit_blocks-requires-clause-few
emit_blocks-requires-clause-few g c = omega (arith, c.block_count-blocks.ensures, c.requires.bounded.few)

pub emit_blocks-requires-clause-sets : goal.emit_blocks-requires-clause-sets
emit_blocks-requires-clause-sets g c = rw c.block_count-blocks.ensures (block_sets (held_of c.args.g.now).graph (routes_in c.args.s.now c.args.y) c.args.guards.now c.args.bases.now (returns_in c.args.parts.now c.args.returners.now) c.args.stored c.requires.sides c.requires.guards_fit (rw (returns_long c.args.parts.now c.args.returners.now) c.requires.parts_fit))

pub emit_blocks-requires-clause-fits : goal.emit_blocks-requires-clause-fits
emit_blocks-requires-clause-fits g c = ((flat (node_hops (routes_in c.args.s.now c.args.y) c.args.nodes.now c.args.edges.now c.args.ends.now c.args.heads.now c.args.landings.now c.args.bases.now c.args.parts.now (returns_in c.args.parts.now c.args.returners.now) c.block_count-blocks.result) c.args.stored.nodes), subst g.V.Sink.fits (sym (both_are (held_of c.args.g.now).graph (routes_in c.args.s.now c.args.y) c.args.nodes.now c.args.edges.now c.args.ends.now c.args.roots.now c.args.heads.now c.args.landings.now c.args.guards.now c.args.bases.now c.args.parts.now (returns_in c.args.parts.now c.args.returners.now) c.args.stored c.requires.tries c.requires.leads c.requires.sides c.requires.parts c.requires.bounded c.block_count-blocks.result c.block_count-blocks.ensures)) c.requires.room)

pub emit_nodes-requires-clause-fit : goal.emit_nodes-requires-clause-fit
emit_nodes-requires-clause-fit g c = stored_fits c.args.nodes.now c.args.edges.now c.args.ends.now c.args.stored c.requires.tries.stored

pub emit_nodes-requires-clause-rise : goal.emit_nodes-requires-clause-rise
emit_nodes-requires-clause-rise g c = all_rise (held_of c.args.g.now).graph (routes_in c.args.s.now c.args.y) c.args.nodes.now c.args.edges.now c.args.ends.now c.args.roots.now c.args.heads.now c.args.landings.now c.args.guards.now c.args.bases.now c.args.parts.now (returns_in c.args.parts.now c.args.returners.now) c.args.stored c.requires.tries c.requires.leads c.requires.sides c.requires.parts c.requires.bounded c.block_count-blocks.result c.block_count-blocks.ensures

pub emit_nodes-requires-clause-few : goal.emit_nodes-requires-clause-few
emit_nodes-requires-clause-few g c = omega (arith, c.block_count-blocks.ensures, c.requires.bounded.few)

pub emit_nodes-requires-clause-roomy : goal.emit_nodes-requires-clause-roomy
emit_nodes-requires-clause-roomy g c = let room = c.requires.roomy in
    record { edges_few = room.edges_few; ends_few = room.ends_few; room = omega (arith, room.room, c.emit_blocks.ensures.long) }

pub emit_nodes-requires-clause-sets : goal.emit_nodes-requires-clause-sets
emit_nodes-requires-clause-sets g c = rw c.block_count-blocks.ensures (nodes_sets (held_of c.args.g.now).graph (routes_in c.args.s.now c.args.y) c.args.guards.now c.args.bases.now c.args.parts.now (returns_in c.args.parts.now c.args.returners.now) c.args.stored c.requires.sides c.requires.parts_fit (rw (returns_long c.args.parts.now c.args.returners.now) c.requires.parts_fit))

pub emit_nodes-requires-clause-nodes_there : goal.emit_nodes-requires-clause-nodes_there
emit_nodes-requires-clause-nodes_there g c = record { there = node_there (routes_in c.args.s.now c.args.y) c.args.nodes.now c.args.edges.now c.args.ends.now c.args.roots.now c.args.stored c.requires.tries c.args.heads.now c.args.landings.now c.requires.heads_fit c.requires.landings_fit }

pub emit_nodes-requires-clause-room : goal.emit_nodes-requires-clause-room
emit_nodes-requires-clause-room g c = ((flat (block_hops (routes_in c.args.s.now c.args.y) c.args.nodes.now c.args.edges.now c.args.ends.now c.args.heads.now c.args.landings.now c.args.roots.now c.args.guards.now c.args.bases.now (returns_in c.args.parts.now c.args.returners.now) c.args.stored) c.block_count-blocks.result), c.args.sink.now, c.emit_blocks.ensures.holds, [], rw (append-nil ((flat (block_hops (routes_in c.args.s.now c.args.y) c.args.nodes.now c.args.edges.now c.args.ends.now c.args.heads.now c.args.landings.now c.args.roots.now c.args.guards.now c.args.bases.now (returns_in c.args.parts.now c.args.returners.now) c.args.stored) c.block_count-blocks.result) ++ (flat (node_hops (routes_in c.args.s.now c.args.y) c.args.nodes.now c.args.edges.now c.args.ends.now c.args.heads.now c.args.landings.now c.args.bases.now c.args.parts.now (returns_in c.args.parts.now c.args.returners.now) c.block_count-blocks.result) c.args.stored.nodes))) (subst g.V.Sink.fits (sym (both_are (held_of c.args.g.now).graph (routes_in c.args.s.now c.args.y) c.args.nodes.now c.args.edges.now c.args.ends.now c.args.roots.now c.args.heads.now c.args.landings.now c.args.guards.now c.args.bases.now c.args.parts.now (returns_in c.args.parts.now c.args.returners.now) c.args.stored c.requires.tries c.requires.leads c.requires.sides c.requires.parts c.requires.bounded c.block_count-blocks.result c.block_count-blocks.ensures)) c.requires.room))

pub returns : goal.returns
returns g c = (
  behind_nodes c.args.bases.now c.args.parts.now c.block_count-blocks.result c.args.stored.nodes,
  subst (λ hs. g.V.Sink.holds (routes_in c.args.s.now c.args.y) (behind_nodes c.args.bases.now c.args.parts.now c.block_count-blocks.result c.args.stored.nodes) hs c.args.sink.now c.emit_nodes.new.sink) (both_are (held_of c.args.g.now).graph (routes_in c.args.s.now c.args.y) c.args.nodes.now c.args.edges.now c.args.ends.now c.args.roots.now c.args.heads.now c.args.landings.now c.args.guards.now c.args.bases.now c.args.parts.now (returns_in c.args.parts.now c.args.returners.now) c.args.stored c.requires.tries c.requires.leads c.requires.sides c.requires.parts c.requires.bounded c.block_count-blocks.result c.block_count-blocks.ensures) (c.emit_nodes.ensures (flat (block_hops (routes_in c.args.s.now c.args.y) c.args.nodes.now c.args.edges.now c.args.ends.now c.args.heads.now c.args.landings.now c.args.roots.now c.args.guards.now c.args.bases.now (returns_in c.args.parts.now c.args.returners.now) c.args.stored) c.block_count-blocks.result) c.args.sink.now c.emit_blocks.ensures.holds),
)
