-- `gather_nodes` meets its contract: b does not return, or each is asked. The invariant: those passed are gathered. Assumes nothing.
use Prim.Native.Nat.{◌≤◌}
use lib.ListN.{get_or}
use Rattle.image.specs.Image.{routes_in}
use Rattle.graph.specs.Fold.{flat}
use Rattle.unwind.specs.Gather.{return_records, Adds}
use Rattle.unwind.proofs.emit.block.gather_nodes.Given as goal

abbrev pub invariant-loop-k : goal.invariant-loop-k
invariant-loop-k l = (l.k ≤ l.count) × Adds (routes_in l.s l.y) l.b l.edges l.ends l.heads l.landings l.initial.exits l.held (flat (λ j. return_records (routes_in l.s l.y) l.b l.edges l.ends l.heads l.landings l.nodes l.parts (get_or l.originals j 0)) l.k) l.exits l.n
