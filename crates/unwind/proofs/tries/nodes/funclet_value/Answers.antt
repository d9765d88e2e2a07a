-- `funclet_value` meets its contract. Assumes nothing.
use mathlib.Core.Path.{ap, ◌∙◌}
use Rattle.image.specs.Image.{routes_in}
use Rattle.image.specs.declared.record.Step.{Step}
use Rattle.unwind.proofs.TrieNodes.{value_root, value_other}
use Rattle.unwind.proofs.tries.nodes.funclet_value.Goals as goal

pub returns-then-a-eq0 : goal.returns-then-a-eq0
returns-then-a-eq0 c = value_root (routes_in c.args.s.now c.args.y) c.args.a c.if-a-eq0.true

pub returns : goal.returns
returns c = ap (λ (x : Step). x.value) c.step_of.ensures ∙ value_other (routes_in c.args.s.now c.args.y) c.args.a c.if-a-eq0.false
