-- The edge to the block that was found, or the record. Assumes nothing.
use mathlib.Core.Path.{refl}
use Rattle.builder.specs.Code.{image_of}
use Rattle.graph.proofs.AddingLaws.{edge_added}
use Rattle.builder.specs.Slots.{transfer_in}
use Rattle.builder.proofs.EdgeLaws.{edge_found, edge_none, unresolved_of_law, unresolved_none}
use native.Mathlib.Omega.{arith}
use Rattle.builder.proofs.edges.add_transfer.Goals as goal

pub block_of-requires-in-Some : goal.block_of-requires-in-Some
block_of-requires-in-Some c = let m = image_of c.args.numbered.now.code in
    let r = rw c.in-Some.is at (c.resolve.ensures m refl) in
    omega (arith, r.2, c.args.numbered.now.emitting.room)

pub returns-in-Some : goal.returns-in-Some
returns-in-Some c = let m = image_of c.args.numbered.now.code in
    let x = transfer_in c.args.x in
    let r = rw c.in-Some.is at (c.resolve.ensures m refl) in
    rw (unresolved_none m x c.args.p r.0, edge_found m x c.args.p c.args.numbered.now.blocks.now _ c.args.source _ _ _ c.args.numbered.now.emitting c.requires.p_in r c.requires.source c.block_of.ensures c.block_of-in-Some.ensures c.edge_between.ensures)
    (edge_added _ c.add_edge.ensures)

pub returns-in-None : goal.returns-in-None
returns-in-None c = let m = image_of c.args.numbered.now.code in
    let x = transfer_in c.args.x in
    let r = rw c.in-None.is at (c.resolve.ensures m refl) in
    rw (edge_none m x c.args.p r, unresolved_of_law m x c.args.p r, ← c.requires.source) c.report.ensures
