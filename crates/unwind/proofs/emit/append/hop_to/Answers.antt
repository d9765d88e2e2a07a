-- `hop_to` meets its contract. Assumes nothing.
use borrow.Author.Tests.{eq-eqb, ne_eqb}
use Rattle.unwind.specs.HopWords.{hop_to}
use Rattle.unwind.proofs.emit.append.hop_to.Goals as goal

pub returns-then-n-eq-LEAVE : goal.returns-then-n-eq-LEAVE
unfolding hop_to
returns-then-n-eq-LEAVE c = rw (eq-eqb c.args.n 65535 c.if-n-eq-LEAVE.true)

pub returns : goal.returns
unfolding hop_to
returns c = rw (ne_eqb c.args.n 65535 c.if-n-eq-LEAVE.false)
