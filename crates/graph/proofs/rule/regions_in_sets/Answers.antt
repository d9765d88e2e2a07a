-- `regions_in_sets` meets its contract. Assumes nothing.
use borrow.Author.Rules.{rules}
use borrow.Author.Tests.{tests}
use lib.Dec.{leb}
use Rattle.graph.specs.Graph.{no_region}
use Rattle.graph.specs.declared.record.Region.{Region}
use Rattle.graph.proofs.FoldLaws.{all_each}
use Rattle.graph.proofs.rule.regions_in_sets.Goals as goal

pub returns : goal.returns
returns c = all_each (λ (r : Region). leb r.has_parent 1) _ no_region _ _ _ c.all.ensures.ran (cc) (λ x b q k. search (rules, tests))
