use mathlib.Core.Path.{◌≡◌, refl, ◌∙◌}
use Prim.Native.Nat.{◌<◌}
use native.Mathlib.Omega.{arith}
use lib.ListN.{length}
use Rattle.image.specs.Record.{route_from}
use Rattle.image.specs.Image.{records_in, routes_in}
use Rattle.image.proofs.Tables.{length-records}
use Rattle.graph.specs.Lent.{held_of}
use Rattle.unwind.proofs.SideLaws.{guards_none, guards_more}
use Rattle.unwind.proofs.sides.guard_routes.Goals as goal

pub loop-r-init : goal.loop-r-init
loop-r-init c = (refl, guards_none (held_of c.args.g.now).graph (routes_in c.args.s.now c.args.y) c.args.guards.now)

pub loop-r-preserved : goal.loop-r-preserved
loop-r-preserved c = let among : c.loop-r.r < length (records_in route_from c.args.s.now c.args.y.routes) = rw (length-records route_from c.args.s.now c.args.y.routes) (omega arith) in
    (c.guard_blocks.ensures.others.long ∙ c.loop-r.invariant.0, guards_more (held_of c.args.g.now).graph (routes_in c.args.s.now c.args.y) c.loop-r.guards _ c.loop-r.r among (rw c.route_in-route.ensures at c.guard_blocks.ensures.guards) c.guard_blocks.ensures.others c.loop-r.invariant.1)

pub returns : goal.returns
returns c = let all : c.loop-r.r ≡ length (routes_in c.args.s.now c.args.y).routes = rw (length-records route_from c.args.s.now c.args.y.routes) (omega arith) in
    rw all at c.loop-r.invariant.1
