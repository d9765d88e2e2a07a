-- `entries_exist` meets its contract. Assumes nothing.
use borrow.Author.Rules.{rules}
use borrow.Author.Tests.{tests}
use Rattle.graph.specs.Graph.{no_handler}
use Rattle.graph.specs.Lent.{held_of}
use Rattle.graph.specs.WellFormed.{is_block}
use Rattle.graph.specs.declared.record.HandlerRecord.{HandlerRecord}
use Rattle.graph.proofs.FoldLaws.{all_each}
use Rattle.graph.proofs.rule.entries_exist.Goals as goal

pub returns : goal.returns
returns c = all_each (λ (r : HandlerRecord). is_block (held_of c.args.g.now).graph r.entry) _ no_handler _ _ _ c.all.ensures.ran (cc) (λ x b q k. search (rules, tests))
