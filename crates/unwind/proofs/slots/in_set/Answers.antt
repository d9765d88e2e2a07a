-- `in_set` meets its contract: the word and its digit are the set's. Assumes nothing.
use Rattle.unwind.proofs.PoolLaws.{set_in}
use Rattle.unwind.proofs.slots.in_set.Goals as goal

pub returns : goal.returns
returns c = set_in c.args.sets.now c.args.i c.args.b c.requires.1
