-- `is_idle` meets its contract. Assumes nothing.
use mathlib.Core.Bool.{false≢true}
use native.Mathlib.Omega.{arith}
use Rattle.unwind.proofs.wants.wanter.is_idle.Goals as goal

pub returns-then-k-routes : goal.returns-then-k-routes
returns-then-k-routes c = λ e. absurd (false≢true e)

pub returns : goal.returns
returns c = λ e. (omega (arith, c.if-k-routes.false), c.is_over.ensures e)
