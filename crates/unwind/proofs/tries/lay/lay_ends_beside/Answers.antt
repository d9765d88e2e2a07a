-- `lay_ends_beside` meets its contract: where as many paths lead on as there are, none ends. Assumes nothing.
use native.Mathlib.Omega.{arith}
use Rattle.unwind.proofs.TrieLaid.{ends_nothing}
use Rattle.unwind.proofs.tries.lay.lay_ends_beside.Goals as goal

pub returns-then-n-g : goal.returns-then-n-g
returns-then-n-g c = ends_nothing _ _ _ _ (omega arith)
