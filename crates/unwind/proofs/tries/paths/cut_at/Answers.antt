use mathlib.Core.Path.{sym, ap, ◌∙◌}
use native.Mathlib.Omega.{arith}
use Rattle.image.specs.Record.{step_from}
use Rattle.image.specs.Image.{routes_in}
use Rattle.image.specs.declared.record.Step.{Step}
use Rattle.image.proofs.Tables.{length-records}
use Rattle.unwind.specs.Interning.{cut_of}
use Rattle.unwind.proofs.TriePaths.{cut_start, cut_on, cut_enters, key_steps_law, cut_over}
use borrow.Author.Rules.{rules}
use Rattle.unwind.proofs.tries.paths.cut_at.Goals as goal

pub loop-i-init : goal.loop-i-init
loop-i-init c = (search rules, cut_start _ _ _)

pub step_in-requires : goal.step_in-requires
step_in-requires c = (c.requires.there.steps_there, omega (arith, c.loop-i-test.true, c.requires.within, length-records step_from c.args.s.now c.args.y.steps))

pub returns-then-step_in-eq-FUNCLET : goal.returns-then-step_in-eq-FUNCLET
unfolding cut_of
returns-then-step_in-eq-FUNCLET c = let m = routes_in c.args.s.now c.args.y in
    let i = c.loop-i.i in
    let here = sym (ap (λ (x : Step). x.code) c.step_in.ensures) ∙ c.if-step_in-eq-FUNCLET.true in
    record {
      is = cut_enters m c.args.a c.args.n i c.loop-i-test.true c.loop-i.invariant.1 here;
      stands = (c.loop-i-test.true, key_steps_law m c.args.a c.args.n i c.loop-i-test.true c.loop-i.invariant.1 here);
    }

pub loop-i-preserved : goal.loop-i-preserved
loop-i-preserved c = let m = routes_in c.args.s.now c.args.y in
    let read = ap (λ (x : Step). x.code) c.step_in.ensures in
    (search rules, cut_on m c.args.a c.args.n c.loop-i.i c.loop-i-test.true c.loop-i.invariant.1 (λ e. c.if-step_in-eq-FUNCLET.false (read ∙ e)))

pub returns : goal.returns
unfolding cut_of
returns c = let m = routes_in c.args.s.now c.args.y in
    record { is = cut_over m c.args.a c.args.n c.loop-i.i (omega arith) (omega arith) c.loop-i.invariant.1; stands = tt }
