-- `next_in` meets its contract. The loop's invariant: none of the blocks from `from` on stands before word i. Assumes nothing.
use mathlib.Core.Path.{◌≡◌}
use mathlib.Core.Bool.{false}
use Prim.Native.Nat.{ℕ, ◌-◌, ◌*◌, ◌≤◌, ◌<◌}
use lib.ListN.{length}
use Rattle.graph.specs.BlockSet.{member}
use Rattle.graph.proofs.blockset.next_in.Given as goal

abbrev pub invariant-loop-i : goal.invariant-loop-i
invariant-loop-i l = (l.from ≤ 64 * l.i) × (length l.w ≡ 16) × ((c : ℕ) → l.from ≤ c → c < 64 * l.i → member l.w c ≡ false)

abbrev pub decreases-loop-i : goal.decreases-loop-i
decreases-loop-i l = l.words - l.i
