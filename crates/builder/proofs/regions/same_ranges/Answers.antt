use mathlib.Core.Path.{refl, sym, ◌∙◌}
use mathlib.Core.Logic.{⊎_elim}
use native.Mathlib.Numerals.{add-one}
use Rattle.graph.specs.Fold.{count}
use Rattle.graph.specs.Regions.{same_range}
use Rattle.graph.proofs.FoldLaws.{count_yes, count_no}
use native.Mathlib.Omega.{arith}
use borrow.Author.Rules.{rules}
use Rattle.builder.proofs.regions.same_ranges.Goals as goal

pub loop-g-init : goal.loop-g-init
unfolding count
loop-g-init c = (search rules, search rules, λ m e. refl)

pub loop-g-preserved : goal.loop-g-preserved
loop-g-preserved c = let h = c.args.h in
    let is = c.same_range.ensures in
    ⊎_elim (λ w. (search rules, omega arith, λ m e. rw (add-one c.loop-g.g) (omega (arith, c.loop-g.invariant.2 m e, count_yes (λ g. same_range m g h) c.loop-g.g (sym (is m e) ∙ w.if-same_range.true))))) (λ w. (search rules, omega arith, λ m e. rw (add-one c.loop-g.g) (omega (arith, c.loop-g.invariant.2 m e, count_no (λ g. same_range m g h) c.loop-g.g (sym (is m e) ∙ w.if-same_range.false))))) c.if-same_range.branch-raw
