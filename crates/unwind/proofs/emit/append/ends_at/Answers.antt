-- `ends_at` meets its contract. Assumes nothing.
use borrow.Author.Tests.{eq-eqb, ne_eqb}
use Rattle.unwind.specs.HopWords.{ends_at}
use Rattle.unwind.proofs.emit.append.ends_at.Goals as goal

pub returns-then-n-eq-LEAVE : goal.returns-then-n-eq-LEAVE
unfolding ends_at
returns-then-n-eq-LEAVE c = rw (eq-eqb c.args.n 65535 c.if-n-eq-LEAVE.true)

pub returns : goal.returns
unfolding ends_at
returns c = rw (ne_eqb c.args.n 65535 c.if-n-eq-LEAVE.false)
