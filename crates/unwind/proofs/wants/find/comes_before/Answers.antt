-- `comes_before` meets its contract: by the sources, then by the ends. Assumes nothing.
use Rattle.unwind.proofs.FindLaws.{less_apart, less_equal}
use Rattle.unwind.proofs.wants.find.comes_before.Goals as goal

pub returns-then-x-b : goal.returns-then-x-b
returns-then-x-b c = less_apart c.args.x c.args.b c.args.t c.if-x-b.true

pub returns : goal.returns
returns c = less_equal c.args.x c.args.b c.args.t c.if-x-b.false
