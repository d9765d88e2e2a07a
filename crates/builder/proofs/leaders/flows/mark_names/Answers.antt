-- The first slot, then the cases. Assumes nothing.
use Rattle.builder.specs.Code.{image_of}
use Rattle.builder.specs.Marks.{names_mark}
use Rattle.builder.proofs.MarkLaws.{mark_then, mark_as}
use Rattle.builder.proofs.FlowLaws.{under_most, names_are}
use Rattle.builder.proofs.leaders.flows.mark_names.Goals as goal

pub slots_of-slots-requires : goal.slots_of-slots-requires
slots_of-slots-requires c = rw c.flow_under-flow.ensures (under_most _ _ c.requires.flow)

pub returns : goal.returns
returns c = let m = image_of c.args.checked.now.code in
    mark_as (names_mark m c.args.first c.args.i)
    (λ p h. names_are m c.args.first c.args.i _ _ _ c.flow_under-flow.ensures c.slots_of-slots.ensures c.cases_of.ensures p)
    (mark_then c.mark_slot.ensures c.mark_cases.ensures)
