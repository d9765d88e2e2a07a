-- Nothing where it goes on, else the next and the start at its end. Assumes nothing.
use mathlib.Core.Path.{sym, ◌∙◌}
use native.Mathlib.Numerals.{add-one}
use Rattle.builder.specs.Code.{image_of}
use Rattle.graph.specs.Leaders.{gap_mark}
use Rattle.builder.proofs.MarkLaws.{few, mark_then, mark_as, mark_within, mark_start}
use Rattle.builder.proofs.leaders.mark_gap.Goals as goal

pub returns : goal.returns
returns c = let m = image_of c.args.checked.now.code in
    mark_as (gap_mark m c.args.q) (λ p h. rw (sym c.goes_on.ensures ∙ c.if-goes_on.false, ← add-one c.args.q, ← c.requires.instruction))
    (mark_then (mark_within _ (few _ c.args.checked.now.passed) c.mark_at.ensures) (mark_start m _ c.mark_target.ensures))
