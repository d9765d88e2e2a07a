-- The invariant: the routes before r are clear, and `path` and `step` are where the children of route r start. Assumes nothing.
use mathlib.Core.Path.{◌≡◌}
use Prim.Native.Nat.{◌-◌, ◌≤◌}
use Rattle.builder.specs.Code.{image_of}
use Rattle.graph.specs.Transfer.{table_of}
use Rattle.image.specs.Whole.{routes_of}
use Rattle.image.specs.Refusal.{clear, checks}
use Rattle.image.specs.Deal.{routes_of as dealt}
use Rattle.graph.specs.Route.{route_check, paths_before, steps_before}
use Rattle.builder.proofs.route.check_routes.Given as goal

abbrev pub invariant-loop-r : goal.invariant-loop-r
invariant-loop-r l = (l.r ≤ l.n) × (l.path ≡ paths_before (routes_of l.routes) l.r) × (l.step ≡ steps_before (routes_of l.routes) l.path) × (checks (route_check (table_of (image_of l.code)) (dealt (routes_of l.routes))) l.r ≡ clear)

abbrev pub decreases-loop-r : goal.decreases-loop-r
decreases-loop-r l = l.n - l.r
