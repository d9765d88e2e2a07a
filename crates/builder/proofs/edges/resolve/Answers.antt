-- By the look-up, where there is a target. Assumes nothing.
use mathlib.Core.Path.{sym, ◌∙◌}
use Rattle.builder.specs.Slots.{transfer_in}
use Rattle.builder.proofs.EdgeLaws.{resolves, resolved-not}
use Rattle.builder.proofs.edges.resolve.Goals as goal

pub returns-then-has_target : goal.returns-then-has_target
returns-then-has_target c = λ m same. resolves m (transfer_in c.args.x) c.find.result (sym c.has_target.ensures ∙ c.if-has_target.true) (rw same c.find.ensures)

pub returns : goal.returns
returns c = λ m same. resolved-not m (transfer_in c.args.x) (sym c.has_target.ensures ∙ c.if-has_target.false)
