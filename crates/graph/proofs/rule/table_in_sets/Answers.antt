-- `table_in_sets` meets its contract. Assumes nothing.
use borrow.Author.Rules.{rules}
use borrow.Author.Tests.{tests}
use mathlib.Core.Bool.{◌&&◌}
use lib.Dec.{leb}
use Rattle.graph.specs.Table.{no_entry, entry_at}
use Rattle.graph.specs.Lent.{held_of}
use Rattle.graph.specs.declared.record.TableEntry.{TableEntry}
use Rattle.graph.proofs.FoldLaws.{all_each}
use Rattle.graph.proofs.rule.table_in_sets.Goals as goal

pub returns : goal.returns
unfolding entry_at
returns c = all_each (λ (r : TableEntry). leb r.flow 12 && leb r.keeps 1) (held_of c.args.g.now).graph.table no_entry _ _ _ c.all.ensures.ran (cc) (λ x b q k. search (rules, tests))
