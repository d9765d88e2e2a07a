-- `members_in` meets its contract. The loop's invariant: n is how many of the first 64 k blocks both have. Assumes nothing.
use mathlib.Core.Path.{◌≡◌}
use Prim.Native.Nat.{◌*◌, ◌≤◌}
use Rattle.graph.specs.Fold.{count}
use Rattle.graph.specs.BlockSet.{member}
use Rattle.unwind.specs.Placed.{set_at, returns_in}
use Rattle.unwind.proofs.slots.members_in.Given as goal

abbrev pub invariant-loop-k : goal.invariant-loop-k
invariant-loop-k l = (l.k ≤ l.words) × (l.n ≤ 64 * l.k) × (l.n ≡ count (member (set_at (returns_in l.sets l.v) l.i)) (64 * l.k))
