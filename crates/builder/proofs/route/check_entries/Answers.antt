-- Path by path. Assumes nothing.
use mathlib.Core.Path.{sym}
use Rattle.image.proofs.Checks.{checks_stop}
use borrow.Author.Rules.{rules}
use Rattle.builder.proofs.route.check_entries.Goals as goal

pub returns-in_err-next-clause-check : goal.returns-in_err-next-clause-check
returns-in_err-next-clause-check c = rw (checks_stop _ c.loop-k.k c.args.n _ c.loop-k-test.true c.loop-k.invariant.2 (sym c.in_err-next.ensures.check)) (search rules)
