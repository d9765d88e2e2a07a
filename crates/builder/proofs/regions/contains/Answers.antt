-- Another range, and both ends of it. Assumes nothing.
use mathlib.Core.Path.{sym, ◌∙◌}
use borrow.Author.Tests.{le-leb, lt-leb}
use Rattle.builder.proofs.RegionLaws.{contains_is}
use Rattle.builder.proofs.regions.contains.Goals as goal

pub returns-then-same_range : goal.returns-then-same_range
returns-then-same_range c = λ m e. rw (sym (c.same_range.ensures m e) ∙ c.if-same_range.true) at (contains_is e c.args.a c.args.b)

pub returns-then-starts-a : goal.returns-then-starts-a
returns-then-starts-a c = λ m e. rw (sym (c.same_range.ensures m e) ∙ c.if-same_range.false, le-leb _ _ c.if-starts-a.true) at (contains_is e c.args.a c.args.b)

pub returns-else-starts-a : goal.returns-else-starts-a
returns-else-starts-a c = λ m e. lt-leb _ _ c.if-starts-a.false ∙ (rw (sym (c.same_range.ensures m e) ∙ c.if-same_range.false, lt-leb _ _ c.if-starts-a.false) at (contains_is e c.args.a c.args.b))
