-- `calls_in_sets` meets its contract. Assumes nothing.
use borrow.Author.Rules.{rules}
use borrow.Author.Tests.{tests}
use lib.Dec.{leb}
use Rattle.graph.specs.Graph.{no_call}
use Rattle.graph.specs.declared.record.CallSite.{CallSite}
use Rattle.graph.proofs.FoldLaws.{all_each}
use Rattle.graph.proofs.rule.calls_in_sets.Goals as goal

pub returns : goal.returns
returns c = all_each (λ (r : CallSite). leb r.has_target 1) _ no_call _ _ _ c.all.ensures.ran (cc) (λ x b q k. search (rules, tests))
