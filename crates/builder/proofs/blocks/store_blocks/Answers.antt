use mathlib.Core.Path.{◌≡◌, refl, sym, ◌∙◌}
use native.Mathlib.Numerals.{add-one}
use Rattle.graph.specs.Fold.{flat}
use Rattle.graph.specs.Transfer.{size}
use Rattle.graph.specs.Blocks.{first_of, block_end}
use Rattle.graph.proofs.AddingLaws.{blocks_none, block_one, blocks_then}
use Rattle.graph.proofs.BuiltBlocks.{no_blocks, all_blocks}
use native.Mathlib.Omega.{arith}
use borrow.Author.Rules.{rules}
use Rattle.builder.proofs.blocks.store_blocks.Goals as goal

pub returns-then-n-eq0 : goal.returns-then-n-eq0
returns-then-n-eq0 c = λ m sized leading. rw (no_blocks m (sized ∙ c.if-n-eq0.true)) (block_one _ c.add_block.ensures)

pub loop-p-init : goal.loop-p-init
unfolding flat first_of
loop-p-init c = (search rules, search rules, λ m sized leading. (blocks_none _, λ h. refl))

pub loop-p-preserved : goal.loop-p-preserved
unfolding flat
loop-p-preserved c = let stored = c.store_block-first.ensures in (
  search rules,
  stored.within,
  λ m sized leading.
      let before = c.loop-p.invariant.2 m sized leading in
      let here = before.1 c.loop-p-test.true in
      (rw (add-one c.loop-p.p) (blocks_then _ (block_end m c.loop-p.p) before.0 (stored.stored m sized leading here)), λ h. rw (add-one c.loop-p.p) (stored.first m sized leading here (rw (add-one c.loop-p.p) at h))),
)

pub returns : goal.returns
returns c = λ m sized leading.
    let all : c.loop-p.p ≡ size m = omega (arith, sized) in
    rw (all_blocks m (λ e. c.if-n-eq0.false (sym sized ∙ e)), ← all) (c.loop-p.invariant.2 m sized leading).0
