use mathlib.Core.Path.{sym, ◌∙◌}
use native.Mathlib.Omega.{arith}
use borrow.Author.Rules.{rules}
use Rattle.graph.proofs.BlockLaws.{lowest_from, none_more}
use Rattle.graph.proofs.NextLaws.{next_here, rest-none}
use Rattle.graph.proofs.blockset.next_in.Goals as goal

pub returns-then-rest-ne0 : goal.returns-then-rest-ne0
returns-then-rest-ne0 c = let rest = c.digits_from-rest.ensures in
    let zeros = c.zeros_of.ensures in
    rw (zeros.0, rest.0) (next_here c.args.w.now c.args.from rest.1 (omega (arith, c.requires.0)) (λ z. c.if-rest-ne0.true (rest.0 ∙ z)) (rw rest.0 at zeros.2))

pub loop-i-init : goal.loop-i-init
loop-i-init c = (omega arith, c.sixteen.ensures, rest-none c.args.w.now c.args.from (sym c.digits_from-rest.ensures.0 ∙ c.if-rest-ne0.false))

pub returns-then-word-ne0 : goal.returns-then-word-ne0
returns-then-word-ne0 c = let zeros = c.zeros_of-then-word-ne0.ensures in
    rw zeros.0 (lowest_from c.args.w.now c.loop-i.i zeros.2 c.args.from c.loop-i.invariant.0 (search rules) c.if-word-ne0.true c.loop-i.invariant.2)

pub loop-i-preserved : goal.loop-i-preserved
loop-i-preserved c = (omega (arith, c.loop-i.invariant.0), c.loop-i.invariant.1, none_more c.args.w.now c.loop-i.i c.args.from c.if-word-ne0.false c.loop-i.invariant.2)
