use mathlib.Core.Path.{sym, ◌∙◌}
use mathlib.Core.Logic.{⊎_elim}
use native.Mathlib.Nat.{le_trans}
use Rattle.graph.specs.Lent.{held_of}
use Rattle.unwind.specs.Clones.{block_copies}
use Rattle.unwind.proofs.StoodLaws.{blocks_grow, no_blocks, node_skips, node_blocks}
use Rattle.unwind.proofs.clones.add_clone_blocks.Goals as goal

pub loop-i-init : goal.loop-i-init
loop-i-init c = no_blocks c.args.g.now c.args.bases.now c.args.parts.now

pub copy_blocks-requires : goal.copy_blocks-requires
copy_blocks-requires c = rw c.set_at-part.ensures (λ b m. le_trans (c.requires.sets_in.stand c.loop-i.i b c.loop-i-test.true m) (blocks_grow (block_copies (held_of c.args.g.now).graph c.args.bases.now c.args.parts.now c.loop-i.i) c.loop-i.invariant))

pub loop-i-preserved : goal.loop-i-preserved
loop-i-preserved c = let base = c.number_in.ensures.0 in
    ⊎_elim (λ w. rw w.g-is
    (node_blocks c.args.g.now c.loop-i.g c.args.bases.now c.args.parts.now c.loop-i.i c.loop-i.invariant (λ e. w.if-number_in-ne0.true (base ∙ e)) (λ b m. c.requires.sets_in.stand c.loop-i.i b c.loop-i-test.true m) _ (rw w.set_at-part.ensures at w.copy_blocks.ensures))) (λ w. rw w.g-is (node_skips c.args.g.now c.loop-i.g c.args.bases.now c.args.parts.now c.loop-i.i c.loop-i.invariant (sym base ∙ w.if-number_in-ne0.false))) c.if-number_in-ne0.branch-raw
