-- `funclet_of` meets its contract. Assumes nothing.
use Rattle.unwind.proofs.TrieIntern.{funclet_none, funclet_some}
use Rattle.unwind.proofs.tries.intern.funclet_of.Goals as goal

pub returns-then-g-eq0 : goal.returns-then-g-eq0
returns-then-g-eq0 c = funclet_none c.args.g c.if-g-eq0.true

pub returns : goal.returns
returns c = funclet_some c.args.g c.if-g-eq0.false
