-- The edge to the block that was found; one is, since its target is a start. Assumes nothing.
use Rattle.builder.specs.Code.{image_of}
use Rattle.graph.proofs.TableLaws.{length-entries}
use Rattle.graph.proofs.AddingLaws.{edge_added}
use Rattle.builder.proofs.EdgeLaws.{given_found}
use native.Mathlib.Omega.{arith}
use Rattle.builder.proofs.edges.add_given.Goals as goal

pub block_of-requires-2 : goal.block_of-requires-2
block_of-requires-2 c = let r = rw c.in-Some.is at c.find.ensures in
    omega (arith, r.2, length-entries (image_of c.args.numbered.now.code).instructions, c.args.numbered.now.emitting.sourced.accepted.instructions_most)

pub returns : goal.returns
returns c = let m = image_of c.args.numbered.now.code in
    let r = rw c.in-Some.is at c.find.ensures in
    rw (← c.edge-edge.ensures, given_found m c.args.numbered.now.blocks.now c.args.numbered.now.emitting c.args.p c.requires.p_in c.edge-edge.result _ _ _ r c.block_of.ensures c.block_of-2.ensures)
    (edge_added _ c.add_edge.ensures)
