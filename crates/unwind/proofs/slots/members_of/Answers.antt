use mathlib.Core.Path.{refl}
use Prim.Native.Nat.{◌+◌, ◌*◌, ◌≤◌, ◌<◌, ◌^◌}
use native.Mathlib.Omega.{arith}
use lib.Count.{ones, ones-le}
use lib.ListN.{get_or}
use Rattle.graph.specs.Fold.{count}
use Rattle.unwind.specs.Placed.{set_at}
use Rattle.unwind.proofs.MostLaws.{members_less, members_next}
use Rattle.unwind.proofs.slots.members_of.Goals as goal

pub loop-k-init : goal.loop-k-init
unfolding count
loop-k-init c = (omega arith, omega arith, refl)

pub overflow_cast-n : goal.overflow_cast-n
overflow_cast-n c =
    let word : get_or c.args.sets.now (16 * c.args.i + c.loop-k.k) 0 < 2 ^ 64 = (c.type_inv.sets (16 * c.args.i + c.loop-k.k)).fits in
    let few : ones (get_or c.args.sets.now (16 * c.args.i + c.loop-k.k) 0) ≤ 64 = ones-le 64 _ (word) in
    omega (arith, few)

pub overflow_add-n-in-loop-k : goal.overflow_add-n-in-loop-k
overflow_add-n-in-loop-k c =
    let word : get_or c.args.sets.now (16 * c.args.i + c.loop-k.k) 0 < 2 ^ 64 = (c.type_inv.sets (16 * c.args.i + c.loop-k.k)).fits in
    let few : ones (get_or c.args.sets.now (16 * c.args.i + c.loop-k.k) 0) ≤ 64 = ones-le 64 _ (word) in
    omega (arith, few)

pub loop-k-preserved : goal.loop-k-preserved
loop-k-preserved c =
    let word : get_or c.args.sets.now (16 * c.args.i + c.loop-k.k) 0 < 2 ^ 64 = (c.type_inv.sets (16 * c.args.i + c.loop-k.k)).fits in
    let few : ones (get_or c.args.sets.now (16 * c.args.i + c.loop-k.k) 0) ≤ 64 = ones-le 64 _ (word) in
    (omega arith, omega (arith, few), omega (arith, c.loop-k.invariant.2, members_next c.args.sets.now c.args.i c.loop-k.k (omega arith) (word)))

pub returns : goal.returns
returns c = (omega (arith, c.loop-k.invariant.2, members_less (set_at c.args.sets.now c.args.i) c.args.blocks (64 * c.loop-k.k) (omega arith)), omega (arith, c.loop-k.invariant.2, members_less (set_at c.args.sets.now c.args.i) (64 * c.loop-k.k) 1024 (omega arith)))
