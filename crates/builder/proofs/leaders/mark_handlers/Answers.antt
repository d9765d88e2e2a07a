use mathlib.Core.Path.{◌≡◌}
use lib.ListN.{length}
use Rattle.builder.specs.Code.{image_of}
use Rattle.graph.specs.Leaders.{protect_mark, handler_mark}
use Rattle.builder.proofs.MarkLaws.{marks_none, marks_more}
use native.Mathlib.Omega.{arith}
use borrow.Author.Rules.{rules}
use Rattle.builder.proofs.leaders.mark_handlers.Goals as goal

pub loop-h-init : goal.loop-h-init
loop-h-init c = (search rules, marks_none (protect_mark _))

pub loop-h-preserved : goal.loop-h-preserved
loop-h-preserved c = (search rules, marks_more (protect_mark _) c.loop-h.h c.loop-h.invariant.1 c.mark_handler.ensures)

pub returns : goal.returns
unfolding handler_mark
returns c = let all : c.loop-h.h ≡ length (image_of c.args.checked.now.code).handlers = omega (arith, c.handler_count-n.ensures) in
    rw all at c.loop-h.invariant.1
