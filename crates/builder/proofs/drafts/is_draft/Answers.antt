use mathlib.Core.Path.{◌≡◌, refl, sym, ◌∙◌}
use Rattle.graph.specs.Fold.{some}
use Rattle.graph.specs.Regions.{same_range, is_draft}
use Rattle.graph.proofs.FoldLaws.{some_more, some_at}
use native.Mathlib.Omega.{arith}
use borrow.Author.Rules.{rules}
use Rattle.builder.proofs.drafts.is_draft.Goals as goal

pub loop-g-init : goal.loop-g-init
unfolding some
loop-g-init c = (search rules, λ m e. refl)

pub returns-then-same_range : goal.returns-then-same_range
unfolding is_draft
returns-then-same_range c = let h = c.args.h in
    λ m e. rw (some_at (λ g. same_range m g h) h c.loop-g.g c.loop-g-test.true (sym (c.same_range.ensures m e) ∙ c.if-same_range.true))

pub loop-g-preserved : goal.loop-g-preserved
loop-g-preserved c = let h = c.args.h in
    (search rules, λ m e. some_more (λ g. same_range m g h) c.loop-g.g (c.loop-g.invariant.1 m e) (sym (c.same_range.ensures m e) ∙ c.if-same_range.false))

pub returns : goal.returns
unfolding is_draft
returns c = let all : c.loop-g.g ≡ c.args.h = omega arith in
    λ m e. rw (rw all at (c.loop-g.invariant.1 m e))
