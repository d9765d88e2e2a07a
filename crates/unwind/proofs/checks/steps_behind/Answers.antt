-- The steps of one path more. Assumes nothing.
use mathlib.Core.Path.{◌≡◌, ap}
use Prim.Native.Nat.{◌+◌}
use native.Mathlib.Omega.{arith}
use Rattle.image.specs.Image.{routes_in}
use Rattle.image.specs.declared.record.Path.{Path}
use Rattle.graph.specs.Route.{steps_before}
use Rattle.graph.proofs.RouteLaws.{steps_next}
use Rattle.unwind.proofs.checks.steps_behind.Goals as goal

pub loop-k-preserved : goal.loop-k-preserved
loop-k-preserved c = let m = routes_in c.args.s.now c.args.y in
    let on : c.args.path + (c.loop-k.k + 1) ≡ c.args.path + c.loop-k.k + 1 = omega arith in
    omega (arith, ap (steps_before m) on, steps_next m (c.args.path + c.loop-k.k), c.loop-k.invariant, ap (λ (x : Path). x.steps) c.path_in-next.ensures)
