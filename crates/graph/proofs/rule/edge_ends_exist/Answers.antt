-- `edge_ends_exist` meets its contract. Assumes nothing.
use borrow.Author.Rules.{rules}
use borrow.Author.Tests.{tests}
use mathlib.Core.Bool.{◌&&◌}
use Rattle.graph.specs.Graph.{no_edge}
use Rattle.graph.specs.Lent.{held_of}
use Rattle.graph.specs.WellFormed.{is_block, edge_ends_exist}
use Rattle.graph.specs.declared.record.Edge.{Edge}
use Rattle.graph.proofs.FoldLaws.{all_each}
use Rattle.graph.proofs.rule.edge_ends_exist.Goals as goal

pub returns : goal.returns
unfolding edge_ends_exist
returns c = all_each (λ (r : Edge). is_block (held_of c.args.g.now).graph r.source && is_block (held_of c.args.g.now).graph r.target) _ no_edge _ _ _ c.all.ensures.ran (cc) (λ x b q k. search (rules, tests))
