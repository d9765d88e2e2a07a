-- `number_at` meets its contract. Assumes nothing.
use mathlib.Core.Path.{refl, sym}
use native.Mathlib.Omega.{arith}
use lib.ListN.{get_or-eq_default}
use borrow.Author.Rules.{rules}
use Rattle.unwind.proofs.tries.store.number_at.Goals as goal

pub overflow_cast-result : goal.overflow_cast-result
overflow_cast-result c = omega (arith, c.type_inv.list c.args.k)

pub returns-then-k-list : goal.returns-then-k-list
returns-then-k-list c = (refl, omega (arith, c.type_inv.list c.args.k))

pub returns-else-k-list : goal.returns-else-k-list
returns-else-k-list c = (sym (get_or-eq_default c.args.list.now 0 c.if-k-list.false), search rules)
