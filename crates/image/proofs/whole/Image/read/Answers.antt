-- What is read is accepted. Assumes nothing.
use mathlib.Core.Path.{sym}
use Rattle.image.proofs.Accepted.{accepted}
use Rattle.image.proofs.whole.Image.read.Goals as goal

pub invariant_of-result-clause-accepted : goal.invariant_of-result-clause-accepted
invariant_of-result-clause-accepted c = accepted _ _ (sym c.in_ok-layout.ensures.answer)
