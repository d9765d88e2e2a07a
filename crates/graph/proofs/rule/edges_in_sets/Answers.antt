-- `edges_in_sets` meets its contract. Assumes nothing.
use borrow.Author.Rules.{rules}
use borrow.Author.Tests.{tests}
use mathlib.Core.Bool.{◌&&◌}
use lib.Dec.{leb}
use Rattle.graph.specs.Graph.{no_edge}
use Rattle.graph.specs.Lent.{held_of}
use Rattle.graph.specs.declared.record.Edge.{Edge}
use Rattle.graph.proofs.FoldLaws.{all_each}
use Rattle.graph.proofs.rule.edges_in_sets.Goals as goal

pub returns : goal.returns
returns c = all_each (λ (r : Edge). leb r.kind 7 && leb r.role 11) (held_of c.args.g.now).graph.edges no_edge _ _ _ c.all.ensures.ran (cc) (λ x b q k. search (rules, tests))
