-- `draw` meets its contract: what the sequence gives is what the chart shows. Assumes nothing.
use mathlib.Core.Path.{ap, ◌∙◌}
use Rattle.print.proofs.DrawLaws.{lines_of, drawn}
use Rattle.print.proofs.draw.draw.Goals as goal

pub returns-in-Ok : goal.returns-in-Ok
returns-in-Ok c = ap lines_of c.in-Ok.ensures.answer ∙ drawn c.args.s.now

pub returns-in-Err-Unrouted : goal.returns-in-Err-Unrouted
returns-in-Err-Unrouted c = ap lines_of (rw c.in-Err-Unrouted.field-0-is at c.in-Err-Unrouted.ensures.answer) ∙ drawn c.args.s.now

pub returns-in-Err-Refused : goal.returns-in-Err-Refused
returns-in-Err-Refused c = ap lines_of (rw c.in-Err-Refused.field-0-is at c.in-Err-Refused.ensures.answer) ∙ drawn c.args.s.now
