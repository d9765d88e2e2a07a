-- `steps_behind` meets its contract. The loop's invariant: where the steps of the next path start. Assumes nothing.
use mathlib.Core.Path.{◌≡◌}
use Prim.Native.Nat.{◌+◌}
use Rattle.image.specs.Image.{routes_in}
use Rattle.graph.specs.Route.{steps_before}
use Rattle.unwind.proofs.checks.steps_behind.Given as goal

abbrev pub invariant-loop-k : goal.invariant-loop-k
invariant-loop-k l = l.next ≡ steps_before (routes_in l.s l.y) (l.path + l.k)
