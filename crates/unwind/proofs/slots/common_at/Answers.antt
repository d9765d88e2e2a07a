use Prim.Native.Nat.{◌*◌}
use native.Mathlib.Omega.{arith}
use Rattle.unwind.specs.Placed.{returns_in}
use Rattle.unwind.proofs.ReturnLaws.{returns_word}
use Rattle.unwind.proofs.SlotLaws.{filled_none, filled_more, filled-all}
use Rattle.unwind.proofs.slots.common_at.Goals as goal

pub loop-k-init : goal.loop-k-init
loop-k-init c = (omega arith, filled_none _ _)

pub loop-k-preserved : goal.loop-k-preserved
loop-k-preserved c = let word = returns_word c.args.sets.now c.args.v.now c.args.i c.loop-k.k (omega arith) in
    (omega arith, rw word at (filled_more (returns_in c.args.sets.now c.args.v.now) (16 * c.args.i) c.loop-k.w c.loop-k.k c.loop-k.invariant.1 (omega arith)))

pub returns : goal.returns
returns c = filled-all (returns_in c.args.sets.now c.args.v.now) c.args.i c.loop-k.w c.loop-k.k c.loop-k.invariant.1 (omega arith)
