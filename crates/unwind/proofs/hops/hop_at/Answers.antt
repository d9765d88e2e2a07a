-- `hop_at` meets its contract. Assumes nothing.
use mathlib.Core.Path.{sym}
use Rattle.unwind.proofs.HopLaws.{hop_is}
use Rattle.unwind.proofs.hops.hop_at.Goals as goal

pub returns : goal.returns
returns c = sym (hop_is c.args.h.now c.args.i c.requires)
