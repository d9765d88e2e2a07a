-- `guarded_in` meets its contract. The invariant: the words of the sets passed are joined. Assumes nothing.
use Prim.Native.Nat.{◌≤◌}
use Rattle.unwind.specs.Gather.{in_set}
use Rattle.unwind.specs.Members.{Joins}
use Rattle.unwind.proofs.emit.busy.guarded_in.Given as goal

abbrev pub invariant-loop-r : goal.invariant-loop-r
invariant-loop-r l = (l.r ≤ l.routes) × Joins (λ k b. in_set l.guards k b) l.r l.w l.all
