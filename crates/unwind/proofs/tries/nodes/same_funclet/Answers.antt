-- `same_funclet` meets its contract. Assumes nothing.
use mathlib.Core.Path.{ap₂, ◌∙◌}
use lib.Dec.{eqb}
use Rattle.image.specs.Image.{routes_in}
use Rattle.image.specs.declared.record.Step.{Step}
use Rattle.unwind.proofs.TrieNodes.{funclet_root, funclet_other, funclet_both}
use Rattle.unwind.proofs.tries.nodes.same_funclet.Goals as goal

pub returns-then-a-eq0 : goal.returns-then-a-eq0
returns-then-a-eq0 c = funclet_root (routes_in c.args.s.now c.args.y) c.args.a c.args.b c.if-a-eq0.true

pub returns-then-b-eq0 : goal.returns-then-b-eq0
returns-then-b-eq0 c = funclet_other (routes_in c.args.s.now c.args.y) c.args.a c.args.b c.if-a-eq0.false c.if-b-eq0.true

pub returns : goal.returns
returns c = ap₂ (λ (x z : Step). eqb x.value z.value) c.step_of-x.ensures c.step_of-z.ensures
    ∙ funclet_both (routes_in c.args.s.now c.args.y) c.args.a c.args.b c.if-a-eq0.false c.if-b-eq0.false
