-- Each target is a start. Assumes nothing.
use Rattle.builder.specs.Code.{image_of}
use Rattle.builder.proofs.Row.{row_stops}
use borrow.Author.Rules.{rules}
use Rattle.builder.proofs.checks.check_targets.Invariants.{target}
use Rattle.builder.proofs.checks.check_targets.Goals as goal

pub returns-in_default : goal.returns-in_default
returns-in_default c =
    row_stops (target (image_of c.args.code.now) c.args.source c.args.edge) c.loop-k.k c.args.n _ (search rules) c.loop-k.invariant.1
    (rw (← c.edge-target.ensures, rw c.in_default.is at c.find.ensures))
