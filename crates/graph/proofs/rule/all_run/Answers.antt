-- `all_run` meets its contract. Assumes nothing.
use borrow.Author.Rules.{rules}
use borrow.Author.Tests.{tests}
use lib.Dec.{ltb}
use Rattle.graph.specs.Graph.{no_block}
use Rattle.graph.specs.declared.record.Block.{Block}
use Rattle.graph.proofs.FoldLaws.{all_each}
use Rattle.graph.proofs.rule.all_run.Goals as goal

pub returns : goal.returns
returns c = all_each (λ (r : Block). ltb 0 r.count) _ no_block _ _ _ c.all.ensures.ran (cc) (λ x b q k. search (rules, tests))
