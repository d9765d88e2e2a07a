use mathlib.Core.Path.{◌≡◌}
use Rattle.builder.specs.Code.{image_of}
use Rattle.graph.specs.Fold.{flat}
use Rattle.graph.specs.Transfer.{size}
use Rattle.graph.specs.Edges.{calls_of}
use Rattle.graph.proofs.AddingLaws.{added_none, calls_more}
use native.Mathlib.Omega.{arith}
use borrow.Author.Tests.{eq-eqb, ne_eqb}
use borrow.Author.Rules.{rules}
use Rattle.builder.proofs.calls.add_calls.Goals as goal

pub returns-then-code-ne-FLATTEN : goal.returns-then-code-ne-FLATTEN
unfolding calls_of
returns-then-code-ne-FLATTEN c = rw (ne_eqb _ _ c.if-code-ne-FLATTEN.true) (added_none _)

pub loop-p-init : goal.loop-p-init
unfolding flat
loop-p-init c = (search rules, added_none _)

pub loop-p-preserved : goal.loop-p-preserved
loop-p-preserved c = (search rules, calls_more _ c.loop-p.p c.loop-p.invariant.1 c.add_call_at.ensures)

pub returns : goal.returns
unfolding calls_of
returns c = let all : c.loop-p.p ≡ size (image_of c.args.code.now) = omega (arith, c.size-n.ensures) in
    rw (eq-eqb _ _ c.if-code-ne-FLATTEN.false, ← all) c.loop-p.invariant.1
