-- The place where the address is found, and no other. Assumes nothing.
use Rattle.builder.specs.Code.{image_of}
use Rattle.graph.proofs.TableLaws.{length-entries, start_never, start_place}
use Rattle.builder.proofs.MarkLaws.{mark_none, mark_as, mark_within}
use Rattle.builder.proofs.marks.mark_target.Goals as goal

pub returns-in_default : goal.returns-in_default
returns-in_default c = mark_none _ (λ p h. start_never _ c.args.a p (rw c.in_default.is at c.find.ensures) (rw (length-entries (image_of c.args.code.now).instructions) h))

pub returns : goal.returns
returns c = let found = rw c.in-Some.is at c.find.ensures in
    mark_as _ (λ p h. start_place _ c.args.code.now.rising c.args.a _ p found.0 found.1 (rw (length-entries (image_of c.args.code.now).instructions) h)) (mark_within _ c.args.code.now.image.accepted.instructions_most c.mark_at.ensures)
