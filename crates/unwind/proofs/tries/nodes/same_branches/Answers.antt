use mathlib.Core.Path.{sym, ◌∙◌}
use native.Mathlib.Omega.{arith}
use Rattle.unwind.proofs.TrieNodes.{alike_start, alike_on, alike_other, alike_end}
use Rattle.unwind.proofs.tries.nodes.same_branches.Goals as goal

pub loop-i-init : goal.loop-i-init
loop-i-init c = alike_start

pub returns-then-is_ne : goal.returns-then-is_ne
returns-then-is_ne c = alike_other c.loop-i.invariant c.loop-i-test.true c.branch_in-x.ensures c.branch_in-z.ensures c.compare_branches.result c.compare_branches.ensures (sym c.is_ne.ensures ∙ c.if-is_ne.true)

pub loop-i-preserved : goal.loop-i-preserved
loop-i-preserved c = alike_on c.loop-i.invariant c.loop-i-test.true c.branch_in-x.ensures c.branch_in-z.ensures c.compare_branches.result c.compare_branches.ensures (sym c.is_ne.ensures ∙ c.if-is_ne.false)

pub returns : goal.returns
returns c = alike_end c.loop-i.invariant (omega arith)
