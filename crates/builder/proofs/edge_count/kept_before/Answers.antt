use mathlib.Core.Path.{◌≡◌, refl}
use lib.ListN.{length-set}
use Rattle.builder.specs.Code.{image_of}
use Rattle.graph.specs.Fold.{count}
use Rattle.graph.specs.Transfer.{instruction_at}
use Rattle.graph.proofs.FoldLaws.{count_le}
use Rattle.builder.proofs.CountLaws.{bit_most, kept_next, kept_more}
use native.Mathlib.Omega.{arith}
use borrow.Author.Rules.{rules}
use Rattle.builder.proofs.edge_count.kept_before.Goals as goal

pub loop-p-init : goal.loop-p-init
unfolding count
loop-p-init c = (search rules, omega (arith, c.args.code.now.image.accepted.instructions_most, c.size-n.ensures), refl, λ q h. let e : q ≡ 0 = omega arith in rw e)

pub overflow_add-kept : goal.overflow_add-kept
overflow_add-kept c = omega (arith, c.from.ensures, bit_most c.instruction-i.result.keeps, c.loop-p.invariant.3 c.loop-p.p (omega arith), count_le (λ q. (instruction_at (image_of c.args.code.now) q).keeps) c.loop-p.p, c.loop-p-test.true)

pub loop-p-preserved : goal.loop-p-preserved
unfolding instruction_at
loop-p-preserved c = let m = image_of c.args.code.now in
    let now = rw (← c.from.ensures) at (kept_next m c.loop-p.p _ c.instruction-i.result c.instruction-i.ensures (c.loop-p.invariant.3 c.loop-p.p (omega arith))) in (
      search rules,
      search rules,
      simp length-set c.loop-p.invariant.2,
      kept_more m c.loop-p.kept c.loop-p.p _ (omega (arith, c.loop-p.invariant.2, c.loop-p-test.true)) now c.loop-p.invariant.3,
    )

pub returns : goal.returns
returns c = record { before = λ p h. c.loop-p.invariant.3 p (omega (arith, c.size-n.ensures)) }
