-- By where its target comes from. Assumes nothing.
use Rattle.builder.specs.Code.{image_of}
use Rattle.builder.specs.Slots.{slot_in}
use Rattle.builder.specs.Marks.{slot_mark}
use Rattle.builder.proofs.MarkLaws.{mark_as, mark_lead}
use Rattle.builder.proofs.leaders.flows.mark_slot.Goals as goal

pub returns-in-Named : goal.returns-in-Named
returns-in-Named c = let m = image_of c.args.checked.now.code in
    mark_as (slot_mark m c.args.i (slot_in c.args.slot)) (λ p h. rw c.in-Named.is) (mark_lead m _ c.mark_target.ensures)
