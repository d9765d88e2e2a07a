use mathlib.Core.Path.{sym, ap₂, ◌∙◌}
use native.Mathlib.Omega.{arith}
use Rattle.std.specs.Ordering.{nat_cmp}
use Rattle.image.specs.Image.{routes_in}
use Rattle.image.specs.declared.record.Step.{Step}
use Rattle.unwind.proofs.TrieCompare.{calls_start, calls_apart, calls_next, calls_done}
use borrow.Author.Rules.{rules}
use Rattle.unwind.proofs.tries.compare.compare_calls.Goals as goal

pub loop-i-init : goal.loop-i-init
loop-i-init c = (search rules, search rules, calls_start (routes_in c.args.s.now c.args.y) c.args.a c.args.n c.args.b c.args.k)

pub returns-then-is_ne : goal.returns-then-is_ne
returns-then-is_ne c =
    calls_apart (routes_in c.args.s.now c.args.y) c.args.a c.args.n c.args.b c.args.k c.loop-i.i (omega arith) (omega arith) c.cmp-order.result
    (c.cmp-order.ensures ∙ ap₂ (λ (x z : Step). nat_cmp x.value z.value) c.step_of-x.ensures c.step_of-z.ensures)
    (sym c.is_ne.ensures ∙ c.if-is_ne.true)
    ∙ c.loop-i.invariant.2

pub loop-i-preserved : goal.loop-i-preserved
loop-i-preserved c = (
  omega arith,
  omega arith,
  sym
      (calls_next (routes_in c.args.s.now c.args.y) c.args.a c.args.n c.args.b c.args.k c.loop-i.i (omega arith) (omega arith) c.cmp-order.result
      (c.cmp-order.ensures ∙ ap₂ (λ (x z : Step). nat_cmp x.value z.value) c.step_of-x.ensures c.step_of-z.ensures)
      (sym c.is_ne.ensures ∙ c.if-is_ne.false))
      ∙ c.loop-i.invariant.2,
)

pub returns : goal.returns
returns c =
    calls_done (routes_in c.args.s.now c.args.y) c.args.a c.args.n c.args.b c.args.k c.loop-i.i (omega arith) (omega arith) (omega arith) c.cmp.result c.cmp.ensures
    ∙ c.loop-i.invariant.2
