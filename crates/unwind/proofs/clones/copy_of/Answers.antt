-- `copy_of` meets its contract. Assumes nothing.
use mathlib.Core.Path.{sym, ◌∙◌}
use native.Mathlib.Omega.{arith}
use Rattle.unwind.proofs.CloneLaws.{rank_few, copy_in, copy_out}
use Rattle.unwind.proofs.clones.copy_of.Goals as goal

pub overflow_add-source : goal.overflow_add-source
overflow_add-source c = omega (arith, c.rank_in.ensures, rank_few c.args.set.now (omega arith) c.args.e.source, c.requires)

pub overflow_add-target : goal.overflow_add-target
overflow_add-target c = omega (arith, c.rank_in-then-has_in.ensures, rank_few c.args.set.now (omega arith) c.args.e.target, c.requires)

pub returns-then-has_in : goal.returns-then-has_in
returns-then-has_in c = copy_in c.args.base c.args.set.now c.args.e _ _ c.rank_in.ensures c.rank_in-then-has_in.ensures (sym c.has_in.ensures ∙ c.if-has_in.true)

pub returns-else-has_in : goal.returns-else-has_in
returns-else-has_in c = copy_out c.args.base c.args.set.now c.args.e _ c.rank_in.ensures (sym c.has_in.ensures ∙ c.if-has_in.false)
