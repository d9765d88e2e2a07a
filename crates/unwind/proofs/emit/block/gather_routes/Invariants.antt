-- `gather_routes` meets its contract: none guards b, or each is asked. The invariant: those passed are gathered. Assumes nothing.
use Prim.Native.Nat.{◌≤◌}
use Rattle.image.specs.Image.{routes_in}
use Rattle.graph.specs.Fold.{flat}
use Rattle.unwind.specs.Gather.{route_records, Adds}
use Rattle.unwind.proofs.emit.block.gather_routes.Given as goal

abbrev pub invariant-loop-r : goal.invariant-loop-r
invariant-loop-r l = (l.r ≤ l.count) × Adds (routes_in l.s l.y) l.b l.edges l.ends l.heads l.landings l.initial.exits l.held (flat (route_records (routes_in l.s l.y) l.b l.edges l.ends l.heads l.landings l.nodes l.roots l.guards) l.r) l.exits l.n
