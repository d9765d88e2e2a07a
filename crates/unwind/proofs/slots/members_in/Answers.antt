use mathlib.Core.Path.{refl}
use Prim.Native.Nat.{◌+◌, ◌*◌, ◌≤◌, ◌<◌, ◌^◌}
use native.Mathlib.Omega.{arith}
use lib.Bits.{bit_and, and_le_l}
use lib.Count.{ones, ones-le}
use lib.ListN.{get_or}
use Rattle.graph.specs.Fold.{count}
use Rattle.unwind.specs.Placed.{set_at, returns_in}
use Rattle.unwind.proofs.MostLaws.{members_less, members_next}
use Rattle.unwind.proofs.ReturnLaws.{returns_word}
use Rattle.unwind.proofs.slots.members_in.Goals as goal

pub loop-k-init : goal.loop-k-init
unfolding count
loop-k-init c = (omega arith, omega arith, refl)

pub overflow_cast-n : goal.overflow_cast-n
overflow_cast-n c =
    let word : bit_and (get_or c.args.sets.now (16 * c.args.i + c.loop-k.k) 0) (get_or c.args.v.now c.loop-k.k 0) < 2 ^ 64 = let k = c.loop-k.k in
    omega (arith, (c.type_inv.sets (16 * c.args.i + k)).fits, and_le_l (get_or c.args.sets.now (16 * c.args.i + k) 0) (get_or c.args.v.now k 0)) in
    let few : ones (bit_and (get_or c.args.sets.now (16 * c.args.i + c.loop-k.k) 0) (get_or c.args.v.now c.loop-k.k 0)) ≤ 64 = ones-le 64 _ (word) in
    omega (arith, few)

pub overflow_add-n-in-loop-k : goal.overflow_add-n-in-loop-k
overflow_add-n-in-loop-k c =
    let word : bit_and (get_or c.args.sets.now (16 * c.args.i + c.loop-k.k) 0) (get_or c.args.v.now c.loop-k.k 0) < 2 ^ 64 = let k = c.loop-k.k in
    omega (arith, (c.type_inv.sets (16 * c.args.i + k)).fits, and_le_l (get_or c.args.sets.now (16 * c.args.i + k) 0) (get_or c.args.v.now k 0)) in
    let few : ones (bit_and (get_or c.args.sets.now (16 * c.args.i + c.loop-k.k) 0) (get_or c.args.v.now c.loop-k.k 0)) ≤ 64 = ones-le 64 _ (word) in
    omega (arith, few)

pub loop-k-preserved : goal.loop-k-preserved
loop-k-preserved c =
    let word : bit_and (get_or c.args.sets.now (16 * c.args.i + c.loop-k.k) 0) (get_or c.args.v.now c.loop-k.k 0) < 2 ^ 64 = let k = c.loop-k.k in
    omega (arith, (c.type_inv.sets (16 * c.args.i + k)).fits, and_le_l (get_or c.args.sets.now (16 * c.args.i + k) 0) (get_or c.args.v.now k 0)) in
    let few : ones (bit_and (get_or c.args.sets.now (16 * c.args.i + c.loop-k.k) 0) (get_or c.args.v.now c.loop-k.k 0)) ≤ 64 = ones-le 64 _ (word) in
    let same = returns_word c.args.sets.now c.args.v.now c.args.i c.loop-k.k (omega arith) in
    let next = rw same at (members_next (returns_in c.args.sets.now c.args.v.now) c.args.i c.loop-k.k (omega arith) (rw same (word))) in
    (omega arith, omega (arith, few), omega (arith, c.loop-k.invariant.2, next))

pub returns : goal.returns
returns c = (omega (arith, c.loop-k.invariant.2, members_less (set_at (returns_in c.args.sets.now c.args.v.now) c.args.i) c.args.blocks (64 * c.loop-k.k) (omega arith)), omega (arith, c.loop-k.invariant.2, members_less (set_at (returns_in c.args.sets.now c.args.v.now) c.args.i) (64 * c.loop-k.k) 1024 (omega arith)))
