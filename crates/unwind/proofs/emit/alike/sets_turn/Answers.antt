use mathlib.Core.Path.{◌≡◌}
use native.Mathlib.Omega.{arith}
use Rattle.unwind.proofs.AlikeLaws.{steady_none, steady_more}
use Rattle.unwind.proofs.emit.alike.sets_turn.Goals as goal

pub loop-i-init : goal.loop-i-init
loop-i-init c = (omega arith, steady_none c.args.sets.now c.args.k 0)

pub overflow_mul-i : goal.overflow_mul-i
overflow_mul-i c = omega (arith, c.loop-i-test.true, c.requires.0)

pub overflow_add-i : goal.overflow_add-i
overflow_add-i c = omega (arith, c.loop-i-test.true, c.requires.0, c.requires.1)

pub loop-i-preserved : goal.loop-i-preserved
loop-i-preserved c = (omega (arith, c.loop-i-test.true), steady_more c.args.sets.now c.loop-i.i c.args.k c.loop-i.t c.turns_at-t.ensures c.loop-i.invariant.1)

pub returns : goal.returns
returns c = let all : c.loop-i.i ≡ c.args.n = omega (arith, c.loop-i.invariant.0) in
    rw all at c.loop-i.invariant.1
