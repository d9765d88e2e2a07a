-- `add_hop` meets its contract: the row behind the last is written, then counted. Assumes nothing.
use mathlib.Core.Path.{◌∙◌}
use native.Mathlib.Omega.{arith}
use Rattle.unwind.proofs.HopLaws.{hops_number, hop_added}
use Rattle.unwind.proofs.hops.add_hop.Goals as goal

pub returns : goal.returns
returns c = hop_added c.args.h.now c.put_row.ensures.0 c.args.x c.hop_count-n.result (c.hop_count-n.ensures.0 ∙ hops_number c.args.h.now) (omega (arith, c.hop_count-n.ensures.0, c.requires)) c.put_row.new.h c.put_row.ensures.1
