-- `number_in` meets its contract. Assumes nothing.
use mathlib.Core.Path.{refl}
use native.Mathlib.Omega.{arith}
use Rattle.unwind.proofs.tries.store.number_in.Goals as goal

pub overflow_cast-result : goal.overflow_cast-result
overflow_cast-result c = omega (arith, c.type_inv.list c.args.k)

pub returns : goal.returns
returns c = (refl, omega (arith, c.type_inv.list c.args.k))
