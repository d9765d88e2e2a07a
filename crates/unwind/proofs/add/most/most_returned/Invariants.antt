-- `most_returned` meets its contract. The loop's invariant: `most` is no less than the sum so far, and small. Assumes nothing.
use Prim.Native.Nat.{◌*◌, ◌≤◌}
use Rattle.unwind.specs.Placed.{returns_in}
use Rattle.unwind.specs.Most.{returned_ways}
use Rattle.unwind.proofs.add.most.most_returned.Given as goal

abbrev pub invariant-loop-i : goal.invariant-loop-i
invariant-loop-i l = (returned_ways l.nodes (returns_in l.parts l.returners) l.blocks l.i ≤ l.most) × (l.most ≤ 134217728 * l.i)
