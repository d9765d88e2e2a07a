-- `next_block` meets its contract, as `next_in` does. The loop's invariant: none of the blocks from `from` on stands before
-- word i. Assumes nothing.
use mathlib.Core.Path.{◌≡◌}
use mathlib.Core.Bool.{false}
use Prim.Native.Nat.{ℕ, ◌*◌, ◌≤◌, ◌<◌}
use Rattle.graph.specs.BlockSet.{member}
use Rattle.unwind.specs.Placed.{returns_in}
use Rattle.unwind.specs.Wanters.{wanter_set}
use Rattle.unwind.proofs.wants.wanter.next_block.Given as goal

abbrev pub invariant-loop-i : goal.invariant-loop-i
invariant-loop-i l = (l.from ≤ 64 * l.i) × ((c : ℕ) → l.from ≤ c → c < 64 * l.i → member (wanter_set l.guards (returns_in l.parts l.returners) l.routes l.k) c ≡ false)
