-- `next_key` meets its contract: none comes after a key that says so. The invariant: `best` is the next key of the paths
-- passed. Assumes nothing.
use Prim.Native.Nat.{◌≤◌}
use Rattle.image.specs.Image.{routes_in}
use Rattle.unwind.specs.Keys.{NextAmong}
use Rattle.unwind.proofs.tries.keys.next_key.Given as goal

abbrev pub invariant-loop-k : goal.invariant-loop-k
invariant-loop-k l = (l.k ≤ l.g.count) × NextAmong (routes_in l.s l.y) l.g l.last l.k l.best
