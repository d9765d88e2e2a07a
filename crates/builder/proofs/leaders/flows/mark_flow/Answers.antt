-- Where the flow ends its block, its targets and then the next instruction. Assumes nothing.
use mathlib.Core.Path.{sym, ap, ◌∙◌}
use Rattle.builder.specs.Code.{image_of}
use Rattle.image.specs.declared.record.Instruction.{Instruction}
use Rattle.graph.specs.Transfer.{instruction_at}
use Rattle.builder.proofs.MarkLaws.{few, mark_within}
use Rattle.builder.proofs.FlowLaws.{flow_inside, flow_marks, flow_none}
use native.Mathlib.Omega.{arith}
use Rattle.builder.proofs.leaders.flows.mark_flow.Goals as goal

pub mark_names-requires-clause-flow : goal.mark_names-requires-clause-flow
unfolding instruction_at
mark_names-requires-clause-flow c = let at = c.args.c.at in
    let among = flow_inside (image_of c.args.checked.now.code) c.args.checked.now.passed.sourced c.args.c c.requires.cursor c.requires.at_in c.args.i c.requires.instruction in
    omega (arith, ap (λ (i : Instruction). i.flow) c.requires.instruction, c.args.checked.now.passed.sourced.accepted.flows at)

pub mark_names-requires-clause-cases_in : goal.mark_names-requires-clause-cases_in
unfolding instruction_at
mark_names-requires-clause-cases_in c = let at = c.args.c.at in
    let among = flow_inside (image_of c.args.checked.now.code) c.args.checked.now.passed.sourced c.args.c c.requires.cursor c.requires.at_in c.args.i c.requires.instruction in
    omega (arith, among)

pub returns-then-ends_block : goal.returns-then-ends_block
returns-then-ends_block c = flow_marks _ c.args.checked.now.passed.sourced _ c.requires.cursor c.requires.at_in c.requires.given _ c.requires.instruction
    (sym c.ends_block.ensures ∙ c.if-ends_block.true) c.mark_names.ensures (mark_within _ (few _ c.args.checked.now.passed) c.mark_at.ensures)

pub returns-else-ends_block : goal.returns-else-ends_block
returns-else-ends_block c = flow_none _ c.args.checked.now.passed.sourced _ c.requires.cursor c.requires.at_in c.requires.given _ c.requires.instruction
    (sym c.ends_block.ensures ∙ c.if-ends_block.false)
