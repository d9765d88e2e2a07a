-- `compare_keys` meets its contract: the tags decide, or the funclets behind them. Assumes nothing.
use mathlib.Core.Path.{sym, ap₂, ◌∙◌}
use Prim.Native.Nat.{compare}
use native.Mathlib.Omega.{arith}
use Rattle.image.specs.Record.{step_from}
use Rattle.image.specs.Image.{routes_in}
use Rattle.image.specs.declared.record.Step.{Step}
use Rattle.image.proofs.Tables.{length-records}
use Rattle.unwind.specs.Keys.{key_in}
use Rattle.unwind.proofs.TrieCompare.{number_cmp, tagged_first, tagged_second}
use Rattle.unwind.proofs.tries.keys.compare_keys.Goals as goal

pub returns-then-is_ne : goal.returns-then-is_ne
unfolding key_in
returns-then-is_ne c = let m = routes_in c.args.s.now c.args.y in
    tagged_first compare (key_in m c.args.a) (key_in m c.args.b) c.compare_calls-calls.result c.compare_calls-calls.ensures (sym c.is_ne.ensures ∙ c.if-is_ne.true)

pub step_in-x-requires : goal.step_in-x-requires
step_in-x-requires c = (c.requires.there.steps_there, omega (arith, c.requires.within_a, length-records step_from c.args.s.now c.args.y.steps))

pub step_in-z-requires : goal.step_in-z-requires
step_in-z-requires c = (c.requires.there.steps_there, omega (arith, c.requires.within_b, length-records step_from c.args.s.now c.args.y.steps))

pub returns : goal.returns
unfolding key_in
returns c = let m = routes_in c.args.s.now c.args.y in
    number_cmp _ _ c.cmp.result c.cmp.ensures
    ∙ ap₂ (λ (u v : Step). compare u.value v.value) c.step_in-x.ensures c.step_in-z.ensures
    ∙ tagged_second compare (key_in m c.args.a) (key_in m c.args.b) c.compare_calls-calls.result c.compare_calls-calls.ensures (sym c.is_ne.ensures ∙ c.if-is_ne.false)
