use mathlib.Core.Path.{◌≡◌, refl, ap, ◌∙◌}
use lib.ListN.{get_or, length-set}
use mathlib.Core.Bool.{false}
use Rattle.graph.specs.Fold.{count}
use Rattle.graph.specs.Blocks.{block_of}
use Rattle.builder.proofs.LaidLaws.{number_is, numbers_more, stepped, one_more}
use native.Mathlib.Omega.{arith}
use borrow.Author.Rules.{rules}
use Rattle.builder.proofs.blocks.number_blocks.Goals as goal

pub loop-p-init : goal.loop-p-init
unfolding block_of count
loop-p-init c = (search rules, search rules, search rules, refl, λ m sized leading. (refl, λ q h. let e : q ≡ 0 = omega arith in rw e c.requires.first))

pub loop-p-preserved : goal.loop-p-preserved
loop-p-preserved c = (
  search rules,
  omega (arith, c.loop-p-test.true),
  omega (arith, c.from-block.ensures, c.loop-p.invariant.2, stepped (get_or c.args.marks.now c.loop-p.p false) c.loop-p.block, one_more (get_or c.args.marks.now c.loop-p.p false) c.loop-p.block),
  simp length-set c.loop-p.invariant.3,
  λ m sized leading.
      let before = c.loop-p.invariant.4 m sized leading in
      let now = number_is m c.args.marks.now leading c.loop-p.p c.loop-p.block _ c.loop-p.invariant.0 (rw sized c.loop-p-test.true) before.0 (rw c.from-block.ensures (stepped (get_or c.args.marks.now c.loop-p.p false) c.loop-p.block)) in
      (now ∙ ap (block_of m) (omega arith), numbers_more m c.loop-p.numbers c.loop-p.p _ (omega (arith, c.loop-p.invariant.3, c.requires, c.loop-p-test.true)) now before.1),
)
