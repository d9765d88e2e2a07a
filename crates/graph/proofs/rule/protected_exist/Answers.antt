-- `protected_exist` meets its contract. Assumes nothing.
use borrow.Author.Rules.{rules}
use borrow.Author.Tests.{tests}
use lib.ListN.{length}
use Rattle.graph.specs.Graph.{no_region}
use Rattle.graph.specs.Lent.{held_of}
use Rattle.graph.specs.WellFormed.{within}
use Rattle.graph.specs.declared.record.Region.{Region}
use Rattle.graph.proofs.FoldLaws.{all_each}
use Rattle.graph.proofs.rule.protected_exist.Goals as goal

pub returns : goal.returns
returns c = all_each (λ (r : Region). within (length (held_of c.args.g.now).graph.blocks) r.protected) _ no_region _ _ _ c.all.ensures.ran (cc) (λ x b q k. search (rules, tests))
