use mathlib.Core.Path.{ap, ◌∙◌}
use lib.Seq.{take_all}
use Rattle.builder.specs.Code.{image_of}
use Rattle.graph.specs.Transfer.{table_of, table_entry, instruction_at}
use Rattle.graph.proofs.TableLaws.{length-entries}
use Rattle.graph.proofs.AddingLaws.{table_none, table_more}
use Rattle.builder.proofs.LaidLaws.{table_next}
use native.Mathlib.Omega.{arith}
use borrow.Author.Rules.{rules}
use Rattle.builder.proofs.blocks.store_table.Goals as goal

pub loop-p-init : goal.loop-p-init
loop-p-init c = (search rules, table_none _)

pub loop-p-preserved : goal.loop-p-preserved
unfolding instruction_at
loop-p-preserved c = let is = (image_of c.args.code.now).instructions in
    let entry = c.table_entry.ensures ∙ ap table_entry c.instruction.ensures in
    (search rules, rw (table_next is c.loop-p.p (omega arith), ← entry) (table_more _ _ c.loop-p.invariant.1 c.add_entry.ensures))

pub returns : goal.returns
returns c = rw (take_all c.loop-p.p (table_of (image_of c.args.code.now)) (omega (arith, length-entries (image_of c.args.code.now).instructions))) at c.loop-p.invariant.1
