-- `add_route_edges` meets its contract. The loop's invariant: what the wanters before k want is added, from no flag on. Assumes
-- nothing.
use Prim.Native.Nat.{◌≤◌}
use Rattle.graph.specs.Fold.{flat}
use Rattle.unwind.specs.Placed.{returns_in}
use Rattle.unwind.specs.Flags.{AllWanted}
use Rattle.unwind.specs.Wanters.{wanter_ways}
use Rattle.unwind.proofs.wants.add_route_edges.Given as goal

abbrev pub invariant-loop-k : goal.invariant-loop-k
invariant-loop-k l = (l.k ≤ l.all) × AllWanted l.h l.initial.g l.initial.done (λ m e. flat (wanter_ways m l.nodes l.edges e l.heads l.landings l.roots l.guards l.bases l.parts (returns_in l.parts l.returners) l.routes) l.k) l.g l.done
