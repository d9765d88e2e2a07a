-- `entry_to` meets its contract. Assumes nothing.
use native.Mathlib.Omega.{arith}
use Rattle.unwind.proofs.GatherLaws.{entry_some, entry_none}
use Rattle.unwind.proofs.emit.gather.entry_to.Goals as goal

pub returns-then-e-eq0 : goal.returns-then-e-eq0
returns-then-e-eq0 c = record { small = record { step = omega arith; calls = omega arith; what = c.requires.1 }; is = λ m b. entry_none m b c.args.e c.args.end c.if-e-eq0.true }

pub returns : goal.returns
returns c = let small = c.requires.0 in
    record { small = record { step = small.step; calls = small.calls; what = c.requires.1 }; is = λ m b. entry_some m b c.args.e c.args.end }
