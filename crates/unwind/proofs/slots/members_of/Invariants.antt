-- `members_of` meets its contract. The loop's invariant: n is how many of the first 64 k blocks there are. Assumes nothing.
use mathlib.Core.Path.{◌≡◌}
use Prim.Native.Nat.{◌*◌, ◌≤◌}
use Rattle.graph.specs.Fold.{count}
use Rattle.graph.specs.BlockSet.{member}
use Rattle.unwind.specs.Placed.{set_at}
use Rattle.unwind.proofs.slots.members_of.Given as goal

abbrev pub invariant-loop-k : goal.invariant-loop-k
invariant-loop-k l = (l.k ≤ l.words) × (l.n ≤ 64 * l.k) × (l.n ≡ count (member (set_at l.sets l.i)) (64 * l.k))
