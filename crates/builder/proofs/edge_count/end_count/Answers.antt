-- Nothing, or the transfers: no edges are given in mode 0. Assumes nothing.
use Rattle.builder.specs.Code.{image_of}
use Rattle.builder.proofs.EdgeLaws.{flow_edges}
use Rattle.builder.proofs.CountLaws.{none-given}
use Rattle.builder.proofs.edge_count.end_count.Goals as goal

pub returns-then-ends : goal.returns-then-ends
returns-then-ends c = let m = image_of c.args.code.now in
    rw (c.if-ends.true, flow_edges m c.args.c.at ((none-given m c.requires.sourced.accepted c.requires.mode).1 c.args.c.at)) c.transfer_count.ensures
