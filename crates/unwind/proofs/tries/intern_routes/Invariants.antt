-- `intern_routes` meets its contract. The invariant: the routes before r are interned, and the marks of their nodes were
-- seen. Assumes nothing.
use Prim.Native.Nat.{◌≤◌}
use Rattle.image.specs.Image.{routes_in}
use Rattle.unwind.specs.Seen.{Seen}
use Rattle.unwind.proofs.TrieRoutes.{Routed}
use Rattle.unwind.proofs.tries.intern_routes.Given as goal

abbrev pub invariant-loop-r : goal.invariant-loop-r
invariant-loop-r l = (l.r ≤ l.y.routes.count) × Routed (routes_in l.s l.y) l.initial.nodes l.initial.edges l.initial.ends l.initial.stack l.initial.roots l.nodes l.edges l.ends l.stack l.roots l.counts l.first l.r × Seen (routes_in l.s l.y) l.nodes l.counts.nodes l.seen
