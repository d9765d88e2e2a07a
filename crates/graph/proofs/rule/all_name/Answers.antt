-- `all_name` meets its contract. Assumes nothing.
use borrow.Author.Rules.{rules}
use borrow.Author.Tests.{tests}
use mathlib.Core.Bool.{◌&&◌}
use lib.Dec.{ltb}
use lib.ListN.{length}
use Rattle.graph.specs.Graph.{region, no_handler}
use Rattle.graph.specs.Lent.{held_of}
use Rattle.graph.specs.WellFormed.{names_handler}
use Rattle.graph.specs.declared.record.HandlerRecord.{HandlerRecord}
use Rattle.graph.proofs.FoldLaws.{all_each}
use Rattle.graph.proofs.rule.all_name.Goals as goal

pub returns : goal.returns
unfolding names_handler
returns c = all_each (λ (r : HandlerRecord). ltb r.region (length (held_of c.args.g.now).graph.regions) && ltb r.place (region (held_of c.args.g.now).graph r.region).handlers) _ no_handler _ _ _ c.all.ensures.ran (cc) (λ x b q k. search (rules, tests))
