-- The refusal of the reading, or the build of what was read. Assumes nothing.
use mathlib.Core.Path.{◌∙◌}
use Rattle.builder.proofs.BuildLaws.{read_refused, read_built}
use Rattle.builder.proofs.Passes.{graphed}
use Rattle.builder.proofs.build.build.Goals as goal

pub returns-in_err-image-clause-answer : goal.returns-in_err-image-clause-answer
returns-in_err-image-clause-answer c = read_refused c.args.s.now c.args.g.now _ c.from_residual.result c.from_residual.ensures.1 c.in_err-image.ensures

pub returns-clause-answer : goal.returns-clause-answer
returns-clause-answer c = c.build_read.ensures.answer ∙ read_built c.args.s.now _ c.in_ok-image.ensures

pub returns-clause-graphed : goal.returns-clause-graphed
returns-clause-graphed c = graphed c.args.s.now c.args.g.now _ c.build_read.result (c.build_read.ensures.answer ∙ read_built c.args.s.now _ c.in_ok-image.ensures) c.build_read.ensures.leaves
