-- `check_routes` meets its contract. The loop's invariant: the routes before r are clear, and `path` and `step` are where the children
-- of route r start. Assumes nothing.
use mathlib.Core.Path.{◌≡◌}
use Rattle.image.specs.Refusal.{clear, checks}
use Rattle.image.specs.Image.{routes_in}
use Rattle.image.specs.Deal.{routes_of}
use Rattle.graph.specs.Lent.{held_of}
use Rattle.graph.specs.Route.{paths_before, steps_before}
use Rattle.addition.specs.Add.{route_check}
use Rattle.unwind.proofs.checks.check_routes.Given as goal

abbrev pub invariant-loop-r : goal.invariant-loop-r
invariant-loop-r l = (l.path ≡ paths_before (routes_in l.s l.y) l.r) × (l.step ≡ steps_before (routes_in l.s l.y) l.path) × (checks (route_check (held_of l.g).graph (routes_of (routes_in l.s l.y))) l.r ≡ clear)
