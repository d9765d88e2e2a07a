-- `add_if_kept` meets its contract: the edge between two blocks that are known, or none. Assumes nothing.
use mathlib.Core.Path.{sym, ap, ◌∙◌}
use Rattle.builder.specs.Code.{image_of}
use Rattle.image.specs.declared.record.Instruction.{Instruction}
use Rattle.graph.specs.Transfer.{instruction_at}
use Rattle.graph.proofs.AddingLaws.{added_none, edge_added}
use Rattle.builder.specs.Slots.{transfer_in}
use Rattle.builder.proofs.ExceptionLaws.{edge_to}
use Rattle.builder.proofs.exceptions.add_if_kept.Goals as goal

pub returns-then-i : goal.returns-then-i
unfolding instruction_at
returns-then-i c = let m = image_of c.args.numbered.now.code in
    rw (ap (λ (x : Instruction). x.keeps) (sym c.instruction-i.ensures) ∙ c.if-i.true, edge_to m (transfer_in c.args.x) c.args.p c.args.numbered.now.blocks.now c.instruction-i.result _ _ _ c.args.numbered.now.handled.numbered c.requires.p_in c.requires.resolved c.instruction-i.ensures c.block_of.ensures c.requires.to c.edge_between.ensures)
    (edge_added _ c.add_edge.ensures)

pub returns-else-i : goal.returns-else-i
unfolding instruction_at
returns-else-i c = rw (ap (λ (x : Instruction). x.keeps) (sym c.instruction-i.ensures) ∙ c.if-i.false) (added_none _)
