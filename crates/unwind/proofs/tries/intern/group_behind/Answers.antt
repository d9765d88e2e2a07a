-- `group_behind` meets its contract. Assumes nothing.
use mathlib.Core.Path.{refl}
use Rattle.unwind.specs.Interns.{group_behind}
use Rattle.unwind.proofs.tries.intern.group_behind.Goals as goal

pub returns : goal.returns
unfolding group_behind
returns c = refl
