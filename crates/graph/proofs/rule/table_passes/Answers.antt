-- `table_passes` meets its contract. Assumes nothing.
use borrow.Author.Rules.{rules}
use borrow.Author.Tests.{tests}
use mathlib.Core.Path.{sym, ◌∙◌}
use Rattle.graph.specs.Build.{table_check}
use Rattle.graph.proofs.RuleLaws.{passes-checks}
use Rattle.graph.proofs.FoldLaws.{all_below}
use Rattle.graph.proofs.rule.table_passes.Goals as goal

pub returns : goal.returns
unfolding table_check
returns c = all_below _ _ _ _ _ c.all.ensures.ran (cc) (λ x b q k. search (rules, tests)) ∙ sym (passes-checks _ _)
