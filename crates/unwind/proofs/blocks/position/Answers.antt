-- `position` meets its contract: the addresses of the table rise. Assumes nothing.
use mathlib.Core.Path.{sym}
use lib.Dec.{ltb}
use Rattle.std.proofs.Common.{rules, of_calls}
use Rattle.std.proofs.lemmas.Fn.{always_returns_same}
use Rattle.graph.specs.declared.record.TableEntry.{TableEntry}
use Rattle.graph.specs.Table.{entry_at, no_entry}
use Rattle.graph.specs.Lent.{held_of}
use Rattle.unwind.proofs.Standing.{less_point, table_rises, below-cut}
use Rattle.unwind.proofs.blocks.position.Goals as goal

pub returns : goal.returns
unfolding entry_at
returns c =
    let t = (held_of c.args.g.now).graph.table in
    let point = rw c.entries.ensures at (c.partition_point.ensures.partitioned (λ e. ltb e.address c.args.a) (always_returns_same _ _ _ (λ a r f k. search (rules, of_calls)))) in
    let cut = less_point (λ (e : TableEntry). e.address) t no_entry c.args.a c.partition_point.result (table_rises (held_of c.args.g.now).graph c.requires) point in
    sym (below-cut t c.args.a c.partition_point.result (rw c.entries.ensures at c.partition_point.ensures.bound) cut.0 cut.1)
