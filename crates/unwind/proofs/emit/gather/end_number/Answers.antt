-- `end_number` meets its contract. Assumes nothing.
use mathlib.Core.Path.{sym, ◌∙◌}
use Rattle.unwind.proofs.GatherLaws.{number_stays, number_lands}
use Rattle.unwind.proofs.emit.gather.end_number.Goals as goal

pub returns-then-l-eq-STAY : goal.returns-then-l-eq-STAY
returns-then-l-eq-STAY c = (number_stays c.args.b c.args.landings.now c.args.k (sym c.number_in-l.ensures.0 ∙ c.if-l-eq-STAY.true), c.requires.0)

pub returns : goal.returns
returns c = let read = c.number_in-l.ensures in
    (read.0 ∙ number_lands c.args.b c.args.landings.now c.args.k (λ e. c.if-l-eq-STAY.false (read.0 ∙ e)), read.1)
