use mathlib.Core.Path.{◌≡◌, refl, ap, ◌∙◌}
use Prim.Native.Nat.{◌+◌, ◌*◌, ◌%◌, min}
use native.Mathlib.Omega.{arith}
use lib.Count.{ones}
use Rattle.graph.specs.Fold.{count}
use Rattle.graph.specs.BlockSet.{member}
use Rattle.graph.proofs.Bit.{ones_none}
use Rattle.graph.proofs.BlockLaws.{size-more, rank-more, rank-all}
use Rattle.graph.proofs.blockset.rank_in.Goals as goal
use Rattle.graph.proofs.blockset.rank_in.Goals.{then-word-ne0, else-word-ne0}

pub loop-i-init : goal.loop-i-init
unfolding count
loop-i-init c = record { past = omega arith; few = omega arith; counted = refl }

pub returns-then-b-i : goal.returns-then-b-i
returns-then-b-i c = let here : 64 * c.loop-i.i + c.args.b % 64 ≡ c.args.b = omega arith in
    omega (arith, ap (count (member c.args.w.now)) here, rank-more c.args.w.now c.loop-i.i (c.args.b % 64) (omega arith) c.ones_below.ensures.2)

pub loop-i-preserved : goal.loop-i-preserved
loop-i-preserved c =
    elim c.if-word-ne0.branch [
      | then-word-ne0 w ↦ let more = size-more c.args.w.now c.loop-i.i w.ones_of-n.ensures.2 in record { past = omega arith; few = omega arith; counted = omega arith }
      | else-word-ne0 w ↦ let none = ap ones w.if-word-ne0.false in let more = size-more c.args.w.now c.loop-i.i (omega arith) in record { past = omega arith; few = omega arith; counted = omega (arith, ones_none) }
    ]

pub returns : goal.returns
returns c = let all : 64 * c.loop-i.i ≡ min c.args.b 1024 = omega arith in
    c.loop-i.invariant.counted ∙ ap (count (member c.args.w.now)) all ∙ rank-all c.args.w.now c.sixteen.ensures c.args.b
