-- `add_list` meets its contract: the row behind the last is written, then counted. Assumes nothing.
use mathlib.Core.Path.{◌∙◌}
use native.Mathlib.Omega.{arith}
use Rattle.unwind.proofs.HopLaws.{lists_long, list_added}
use Rattle.unwind.proofs.hops.add_list.Goals as goal

pub returns : goal.returns
returns c = list_added c.args.h.now c.put_row.ensures.0 c.args.t c.list_count-n.result (c.list_count-n.ensures.0 ∙ lists_long c.args.h.now) (omega (arith, c.list_count-n.ensures.0, c.requires)) c.put_row.new.h c.put_row.ensures.1
