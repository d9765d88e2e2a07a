-- Both ends are the same, or not. Assumes nothing.
use mathlib.Core.Path.{◌∙◌}
use borrow.Author.Tests.{eq-eqb, ne_eqb}
use Rattle.builder.proofs.DraftLaws.{same_is}
use Rattle.builder.proofs.drafts.same_range.Goals as goal

pub returns-then-starts-a : goal.returns-then-starts-a
returns-then-starts-a c = λ m e. rw (eq-eqb _ _ c.if-starts-a.true) at (same_is e c.args.a c.args.b)

pub returns-else-starts-a : goal.returns-else-starts-a
returns-else-starts-a c = λ m e. ne_eqb _ _ c.if-starts-a.false ∙ (rw (ne_eqb _ _ c.if-starts-a.false) at (same_is e c.args.a c.args.b))
