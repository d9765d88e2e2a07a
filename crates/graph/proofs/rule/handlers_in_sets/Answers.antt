-- `handlers_in_sets` meets its contract. Assumes nothing.
use borrow.Author.Rules.{rules}
use borrow.Author.Tests.{tests}
use lib.Dec.{leb}
use Rattle.graph.specs.Graph.{no_handler}
use Rattle.graph.specs.declared.record.HandlerRecord.{HandlerRecord}
use Rattle.graph.proofs.FoldLaws.{all_each}
use Rattle.graph.proofs.rule.handlers_in_sets.Goals as goal

pub returns : goal.returns
returns c = all_each (λ (r : HandlerRecord). leb r.kind 4) _ no_handler _ _ _ c.all.ensures.ran (cc) (λ x b q k. search (rules, tests))
