-- `parents_exist` meets its contract. Assumes nothing.
use borrow.Author.Rules.{rules}
use borrow.Author.Tests.{tests}
use mathlib.Core.Bool.{◌||◌}
use lib.Dec.{eqb, ltb}
use lib.ListN.{length}
use Rattle.graph.specs.Graph.{no_region}
use Rattle.graph.specs.Lent.{held_of}
use Rattle.graph.specs.WellFormed.{parents_exist}
use Rattle.graph.specs.declared.record.Region.{Region}
use Rattle.graph.proofs.FoldLaws.{all_each}
use Rattle.graph.proofs.rule.parents_exist.Goals as goal

pub returns : goal.returns
unfolding parents_exist
returns c = all_each (λ (r : Region). eqb r.has_parent 0 || ltb r.parent (length (held_of c.args.g.now).graph.regions)) _ no_region _ _ _ c.all.ensures.ran (cc) (λ x b q k. search (rules, tests))
