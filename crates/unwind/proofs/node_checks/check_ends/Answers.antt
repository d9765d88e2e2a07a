use mathlib.Core.Path.{refl, sym, ◌∙◌}
use Rattle.image.specs.Refusal.{checks}
use Rattle.image.specs.Image.{routes_in}
use Rattle.image.proofs.Checks.{checks-more, checks_stop}
use Rattle.graph.specs.Lent.{held_of}
use Rattle.unwind.proofs.NodeChecks.{ends_check}
use borrow.Author.Rules.{rules}
use Rattle.unwind.proofs.node_checks.check_ends.Goals as goal

pub returns-in_err-check_end : goal.returns-in_err-check_end
returns-in_err-check_end c = let here = rw c.branch_in.ensures.is at c.in_err-check_end.ensures in
    rw (checks_stop (ends_check (held_of c.args.g.now).graph (routes_in c.args.s.now c.args.y) c.args.ends.now c.args.first) c.loop-k.k c.args.n _ c.loop-k-test.true c.loop-k.invariant (sym here)) (search rules)

pub loop-k-preserved : goal.loop-k-preserved
loop-k-preserved c = let here = rw c.branch_in.ensures.is at c.in_ok-check_end.ensures in
    checks-more (ends_check (held_of c.args.g.now).graph (routes_in c.args.s.now c.args.y) c.args.ends.now c.args.first) c.loop-k.k c.loop-k.invariant ∙ sym here

pub loop-k-init : goal.loop-k-init
unfolding checks
loop-k-init c = refl
