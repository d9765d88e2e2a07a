-- `most_guarded` meets its contract. The loop's invariant: `most` is no less than the sum so far, and small. Assumes nothing.
use Prim.Native.Nat.{◌*◌, ◌≤◌}
use Rattle.unwind.specs.Most.{guarded_ways}
use Rattle.unwind.proofs.add.most.most_guarded.Given as goal

abbrev pub invariant-loop-r : goal.invariant-loop-r
invariant-loop-r l = (guarded_ways l.nodes l.roots l.guards l.blocks l.r ≤ l.most) × (l.most ≤ 134217728 * l.r)
