use mathlib.Core.Path.{◌≡◌, refl, sym, ◌∙◌}
use native.Mathlib.Omega.{arith}
use Rattle.image.specs.Refusal.{checks}
use Rattle.image.specs.Image.{routes_in}
use Rattle.image.proofs.Checks.{checks-more, checks_stop}
use Rattle.graph.specs.Lent.{held_of}
use Rattle.unwind.proofs.NodeChecks.{node_check_law, entered-none, entered-more}
use borrow.Author.Rules.{rules}
use Rattle.unwind.proofs.node_checks.check_nodes.Goals as goal

pub loop-i-init : goal.loop-i-init
unfolding checks
loop-i-init c = (λ edges. refl, refl, entered-none _ _ _ _)

pub returns-in_err-check_node-clause-check : goal.returns-in_err-check_node-clause-check
returns-in_err-check_node-clause-check c = let test = c.loop-i-test.true in
    λ edges. rw (checks_stop _ c.loop-i.i c.args.n _ test (c.loop-i.invariant.0 edges) (node_check_law (held_of c.args.g.now).graph (routes_in c.args.s.now c.args.y) edges c.args.ends.now c.args.nodes.now c.args.n c.loop-i.i test ∙ sym (c.in_err-check_node.ensures.check edges))) (search rules)

pub loop-i-preserved : goal.loop-i-preserved
loop-i-preserved c = let test = c.loop-i-test.true in (
  λ edges. checks-more _ c.loop-i.i (c.loop-i.invariant.0 edges)
      ∙ node_check_law (held_of c.args.g.now).graph (routes_in c.args.s.now c.args.y) edges c.args.ends.now c.args.nodes.now c.args.n c.loop-i.i test
      ∙ sym (c.in_ok-check_node.ensures.check edges),
  c.check_node.auto.entries ∙ c.loop-i.invariant.1,
  rw c.in_ok-check_node.ensures.entry (entered-more (held_of c.args.g.now).graph (routes_in c.args.s.now c.args.y) c.args.nodes.now c.loop-i.entries c.loop-i.i (omega (arith, c.requires.entries_fit, c.loop-i.invariant.1)) c.loop-i.invariant.2),
)

pub returns-clause-check : goal.returns-clause-check
returns-clause-check c = let all : c.loop-i.i ≡ c.args.n = omega arith in
    λ edges. sym (rw all at (c.loop-i.invariant.0 edges))
