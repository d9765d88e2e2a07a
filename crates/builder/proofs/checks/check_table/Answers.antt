-- One instruction more: it is clear, and its end is among the ends. Assumes nothing.
use Prim.Native.Nat.{◌<◌}
use native.Mathlib.Omega.{arith}
use lib.ListN.{length}
use Rattle.graph.specs.Transfer.{entries_of}
use Rattle.graph.specs.Build.{instruction_check}
use Rattle.graph.proofs.TableLaws.{length-entries, end_is}
use Rattle.graph.proofs.RangeLaws.{code_end_more}
use Rattle.builder.proofs.Row.{row_more}
use borrow.Author.Rules.{rules}
use Rattle.builder.proofs.checks.check_table.Goals as goal

pub loop-p-preserved : goal.loop-p-preserved
loop-p-preserved c =
    let is = c.args.table.now in
    let p = c.loop-p.p in
    let inside : p < length (entries_of is) = omega (arith, length-entries is) in (
      search rules,
      row_more (instruction_check (entries_of is)) p c.loop-p.invariant.1 c.in_ok-check_instruction.ensures,
      search rules,
      omega (arith, c.max-greatest.ensures, code_end_more (entries_of is) p inside, end_is is p _ c.get.ensures, c.loop-p.invariant.3),
    )
