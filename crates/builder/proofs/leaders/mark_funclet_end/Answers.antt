-- With any route, by what ends there. Assumes nothing.
use mathlib.Core.Bool.{Bool, ◌&&◌}
use mathlib.Core.Path.{sym, ap, ◌∙◌}
use lib.Dec.{eqb}
use Rattle.builder.specs.Code.{image_of}
use Rattle.builder.specs.Marks.{funclet_end}
use Rattle.builder.proofs.MarkLaws.{few, mark_as, mark_within}
use Rattle.builder.proofs.leaders.mark_funclet_end.Goals as goal

pub returns-then-routed : goal.returns-then-routed
returns-then-routed c = mark_as (λ p. funclet_end (image_of c.args.checked.now.code) c.args.q && eqb p c.args.q)
    (λ p h. rw (sym c.requires.routed ∙ c.if-routed.true) (ap (λ (b : Bool). b && eqb p c.args.q) c.ends_funclet-ends.ensures))
    (mark_within _ (few _ c.args.checked.now.passed) c.mark_if.ensures)
