-- The cursor goes on by what is given. Assumes nothing.
use Rattle.builder.specs.Code.{image_of}
use Rattle.graph.specs.Build.{continuation_check}
use Rattle.builder.proofs.Row.{row_more}
use Rattle.builder.proofs.ScanLaws.{scan_fits, scan_next}
use borrow.Author.Rules.{rules}
use Rattle.builder.proofs.continuations.check_continuations.Goals as goal

pub cursor_after-next-requires : goal.cursor_after-next-requires
cursor_after-next-requires c = scan_fits (image_of c.args.checked.now.code) c.args.checked.now.passed.sourced c.loop-p.p c.loop-p.c c.loop-p.invariant.1 (rw c.size-n.ensures at c.loop-p-test.true) _ c.instruction-i.ensures _ c.given_at-given.ensures

pub loop-p-preserved : goal.loop-p-preserved
loop-p-preserved c = (
  search rules,
  scan_next (image_of c.args.checked.now.code) c.args.checked.now.passed.sourced c.loop-p.p c.loop-p.c c.loop-p.invariant.1 (rw c.size-n.ensures at c.loop-p-test.true) _ c.instruction-i.ensures _ c.given_at-given.ensures _ c.cursor_after-next.ensures,
  row_more (continuation_check (image_of c.args.checked.now.code)) c.loop-p.p c.loop-p.invariant.2 c.in_ok-check_continuation.ensures,
)
