-- `guard_routes` meets its contract. The loop's invariant: the routes before r have their sets. Assumes nothing.
use mathlib.Core.Path.{◌≡◌}
use lib.ListN.{length}
use Rattle.image.specs.Image.{routes_in}
use Rattle.graph.specs.Lent.{held_of}
use Rattle.unwind.specs.Sides.{GuardsIn}
use Rattle.unwind.proofs.sides.guard_routes.Given as goal

abbrev pub invariant-loop-r : goal.invariant-loop-r
invariant-loop-r l = (length l.guards ≡ length l.initial.guards) × GuardsIn (held_of l.g).graph (routes_in l.s l.y) l.guards l.r
