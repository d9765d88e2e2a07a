use mathlib.Core.Path.{◌≡◌}
use native.Mathlib.Omega.{arith}
use Rattle.unwind.proofs.BusyLaws.{joins_none, joins_more}
use Rattle.unwind.proofs.emit.busy.guarded_in.Goals as goal

pub loop-r-init : goal.loop-r-init
loop-r-init c = (omega arith, joins_none c.args.guards.now (λ r. r) c.args.w)

pub overflow_mul-all : goal.overflow_mul-all
overflow_mul-all c = omega (arith, c.requires.0, c.loop-r-test.true)

pub overflow_add-all : goal.overflow_add-all
overflow_add-all c = omega (arith, c.requires.0, c.requires.1, c.loop-r-test.true)

pub offset_bounds-guards-r : goal.offset_bounds-guards-r
offset_bounds-guards-r c = omega (arith, c.requires.0, c.requires.1, c.loop-r-test.true)

pub bounds-guards-r : goal.bounds-guards-r
bounds-guards-r c = omega (arith, c.requires.0, c.requires.1, c.loop-r-test.true)

pub loop-r-preserved : goal.loop-r-preserved
loop-r-preserved c = (omega (arith, c.loop-r-test.true), joins_more c.args.guards.now (λ r. r) c.args.w c.loop-r.r c.loop-r.all c.requires.1 c.loop-r.invariant.1)

pub returns : goal.returns
returns c = let all : c.loop-r.r ≡ c.args.routes = omega (arith, c.loop-r.invariant.0) in
    rw all at c.loop-r.invariant.1
