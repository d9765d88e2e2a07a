-- `empty_hops` meets its contract. Assumes nothing.
use Rattle.unwind.proofs.HopLaws.{hops_emptied}
use Rattle.unwind.proofs.hops.empty_hops.Goals as goal

pub returns : goal.returns
returns c = hops_emptied c.args.h.now c.whole.ensures
