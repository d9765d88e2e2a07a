use mathlib.Core.Path.{refl}
use native.Mathlib.Omega.{arith}
use Rattle.graph.specs.Fold.{count}
use Rattle.graph.proofs.BlockLaws.{size-more}
use Rattle.graph.proofs.blockset.size_of.Goals as goal

pub loop-word-init : goal.loop-word-init
unfolding count
loop-word-init c = record { few = omega arith; counted = refl }

pub loop-word-preserved : goal.loop-word-preserved
loop-word-preserved c = let more = size-more c.args.w.now c.loop-word.word-index c.ones_of-n.ensures.2 in
    record { few = omega arith; counted = omega arith }
