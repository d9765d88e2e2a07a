-- `named_before` meets its contract. Assumes nothing.
use borrow.Author.Rules.{rules}
use borrow.Author.Tests.{tests}
use Rattle.graph.proofs.FoldLaws.{some_below}
use Rattle.graph.proofs.rule.named_before.Goals as goal

pub returns : goal.returns
returns c = some_below _ _ _ _ _ c.any.ensures.ran (cc) (λ x b q k. search (rules, tests))
