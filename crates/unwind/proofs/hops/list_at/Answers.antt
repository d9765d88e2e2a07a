-- `list_at` meets its contract. Assumes nothing.
use mathlib.Core.Path.{sym}
use Rattle.unwind.proofs.ListRowLaws.{list_is}
use Rattle.unwind.proofs.hops.list_at.Goals as goal

pub returns : goal.returns
returns c = sym (list_is c.args.h.now c.args.k c.requires)
