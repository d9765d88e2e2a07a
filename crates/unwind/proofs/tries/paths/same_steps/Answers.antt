use mathlib.Core.Bool.{false}
use mathlib.Core.Path.{◌≡◌, sym, ◌∙◌}
use Prim.Native.Nat.{◌+◌}
use native.Mathlib.Omega.{arith}
use Rattle.image.specs.Record.{step_from}
use Rattle.image.specs.Image.{routes_in}
use Rattle.image.specs.Deal.{step_of}
use Rattle.image.proofs.Tables.{length-records}
use Rattle.unwind.specs.Interning.{same_step}
use Rattle.unwind.proofs.TriePaths.{same_start, same_next, same_end, codes_differ, values_differ, steps_agree}
use Rattle.unwind.proofs.TrieEarly.{same_self}
use borrow.Author.Rules.{rules}
use Rattle.unwind.proofs.tries.paths.same_steps.Goals as goal
use Rattle.unwind.proofs.tries.paths.same_steps.Goals.{then-x-z-via-then-x-z, then-x-z-via-else-x-z+then-x-z-2}

pub returns-then-a-b : goal.returns-then-a-b
returns-then-a-b c = let m = routes_in c.args.s.now c.args.y in
    sym (rw c.if-a-b.true (same_self m c.args.b c.args.n))

pub loop-i-init : goal.loop-i-init
loop-i-init c = (search rules, sym (same_start _ _ _ _))

pub step_in-x-requires : goal.step_in-x-requires
step_in-x-requires c = (c.requires.there.steps_there, omega (arith, c.loop-i-test.true, c.requires.first, length-records step_from c.args.s.now c.args.y.steps))

pub step_in-z-requires : goal.step_in-z-requires
step_in-z-requires c = (c.requires.there.steps_there, omega (arith, c.loop-i-test.true, c.requires.second, length-records step_from c.args.s.now c.args.y.steps))

pub returns-then-x-z : goal.returns-then-x-z
returns-then-x-z c = let m = routes_in c.args.s.now c.args.y in
    let differ : same_step (step_of c.step_in-x.result) (step_of c.step_in-z.result) ≡ false =
    elim c.then-x-z.branch [
      | then-x-z-via-then-x-z w ↦ codes_differ c.step_in-x.result c.step_in-z.result (rw c.step_in-x.ensures (c.requires.accepted.codes (c.args.a + c.loop-i.i))) (rw c.step_in-z.ensures (c.requires.accepted.codes (c.args.b + c.loop-i.i))) w.if-x-z.true
      | then-x-z-via-else-x-z+then-x-z-2 w ↦ values_differ c.step_in-x.result c.step_in-z.result w.if-x-z.false w.if-x-z-2.true
    ] in
    let here = rw (c.step_in-x.ensures, c.step_in-z.ensures) at differ in
    sym (c.loop-i.invariant.1 ∙ same_next m c.args.a c.args.b c.args.n c.loop-i.i c.loop-i-test.true ∙ rw here)

pub loop-i-preserved : goal.loop-i-preserved
loop-i-preserved c = let m = routes_in c.args.s.now c.args.y in
    let agree = rw (c.step_in-x.ensures, c.step_in-z.ensures) at (steps_agree c.step_in-x.result c.step_in-z.result c.if-x-z.false c.if-x-z-2.false) in
    (search rules, c.loop-i.invariant.1 ∙ same_next m c.args.a c.args.b c.args.n c.loop-i.i c.loop-i-test.true ∙ rw agree)

pub returns : goal.returns
returns c = sym (c.loop-i.invariant.1 ∙ same_end (routes_in c.args.s.now c.args.y) c.args.a c.args.b c.args.n c.loop-i.i (omega arith))
