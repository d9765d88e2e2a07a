-- Its given edges, then the next instruction. Assumes nothing.
use Rattle.builder.specs.Code.{image_of}
use Rattle.builder.proofs.MarkLaws.{few, mark_within}
use Rattle.builder.proofs.FlowLaws.{given_inside, given_marks}
use native.Mathlib.Omega.{arith}
use Rattle.builder.proofs.leaders.flows.mark_given.Goals as goal

pub mark_edges-requires : goal.mark_edges-requires
mark_edges-requires c = let among = given_inside (image_of c.args.checked.now.code) c.args.checked.now.passed.sourced c.args.c c.requires.cursor c.requires.at_in c.args.n c.requires.given in
    omega (arith, among)

pub returns : goal.returns
returns c = given_marks _ c.args.checked.now.passed.sourced _ c.requires.cursor c.requires.at_in _ c.requires.given c.mark_edges.ensures
    (mark_within _ (few _ c.args.checked.now.passed) c.mark_at.ensures)
