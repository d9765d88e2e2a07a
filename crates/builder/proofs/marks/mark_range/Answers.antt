use mathlib.Core.Path.{◌≡◌}
use Rattle.graph.specs.Leaders.{range_mark}
use Rattle.builder.proofs.MarkLaws.{run_more, run_all}
use native.Mathlib.Omega.{arith}
use Rattle.builder.proofs.marks.mark_range.Goals as goal

pub returns : goal.returns
unfolding range_mark
returns c m start end passes ranges = let found = rw c.in-Ok.is at ranges in
    let all : c.loop-p.p ≡ c.in-Ok.range.past = omega (arith, found.3, c.loop-p.invariant.1 (omega (arith, found.3)), c.loop-p-test.false) in
    rw (found.1, found.2) at (run_all _ _ (run_more _ _ (omega (arith, found.3)) (rw all at c.loop-p.invariant.2) c.mark_at-2.ensures))
