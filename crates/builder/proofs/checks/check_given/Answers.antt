-- The cursor goes on by what is given. Assumes nothing.
use Rattle.builder.specs.Code.{image_of}
use Rattle.graph.specs.Build.{given_check}
use Rattle.builder.proofs.Row.{row_more}
use Rattle.builder.proofs.ScanLaws.{scan_at, scan_fits, scan_next}
use borrow.Author.Rules.{rules}
use Rattle.builder.proofs.checks.check_given.Goals as goal

pub cursor_after-next-requires : goal.cursor_after-next-requires
cursor_after-next-requires c = scan_fits (image_of c.args.code.now) c.requires.sourced c.loop-p.p c.loop-p.c c.loop-p.invariant.1 (rw c.size-n.ensures at c.loop-p-test.true) _ c.instruction-i.ensures _ c.given_at-given.ensures

pub loop-p-preserved : goal.loop-p-preserved
loop-p-preserved c = (
  search rules,
  scan_next (image_of c.args.code.now) c.requires.sourced c.loop-p.p c.loop-p.c c.loop-p.invariant.1 (rw c.size-n.ensures at c.loop-p-test.true) _ c.instruction-i.ensures _ c.given_at-given.ensures _ c.cursor_after-next.ensures,
  row_more (given_check (image_of c.args.code.now)) c.loop-p.p c.loop-p.invariant.2 (rw (scan_at _ _ _ c.loop-p.invariant.1) at c.in_ok-check_visit.ensures),
)
