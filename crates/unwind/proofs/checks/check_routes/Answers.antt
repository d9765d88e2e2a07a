use mathlib.Core.Path.{◌≡◌, refl, sym, ap, ◌∙◌}
use Prim.Native.Nat.{◌+◌, ◌<◌}
use native.Mathlib.Omega.{arith}
use borrow.Author.Rules.{rules}
use lib.ListN.{length}
use Rattle.image.specs.Record.{route_from}
use Rattle.image.specs.Refusal.{checks}
use Rattle.image.specs.Image.{routes_in}
use Rattle.image.specs.Deal.{total, routes_of}
use Rattle.image.specs.declared.record.Route.{Route}
use Rattle.image.proofs.Checks.{checks-more, checks_stop}
use Rattle.image.proofs.Tables.{length-records}
use Rattle.graph.specs.Lent.{held_of}
use Rattle.graph.specs.Route.{paths_before, steps_before}
use Rattle.graph.proofs.RouteLaws.{length-routes, paths_next}
use Rattle.addition.specs.Add.{route_check}
use Rattle.unwind.proofs.checks.check_routes.Goals as goal

pub loop-r-preserved : goal.loop-r-preserved
loop-r-preserved c = let m = routes_in c.args.s.now c.args.y in
    let next : c.loop-r.path + c.route_in-size.result.paths ≡ paths_before m (c.loop-r.r + 1) = omega (arith, paths_next m c.loop-r.r, c.loop-r.invariant.0, ap (λ (x : Route). x.paths) c.route_in-size.ensures) in
    (next, c.steps_behind-step.ensures, checks-more _ c.loop-r.r c.loop-r.invariant.2 ∙ sym c.in_ok-check_route.ensures)

pub returns : goal.returns
returns c = let m = routes_in c.args.s.now c.args.y in
    let all : c.loop-r.r ≡ length (routes_of m) = rw (length-routes m, length-records route_from c.args.s.now c.args.y.routes) (omega arith) in
    sym (rw all at c.loop-r.invariant.2)

pub loop-r-init : goal.loop-r-init
unfolding checks paths_before steps_before total
loop-r-init c = (refl, refl, refl)

pub returns-in_err-check_route : goal.returns-in_err-check_route
returns-in_err-check_route c = let m = routes_in c.args.s.now c.args.y in
    let within : c.loop-r.r < length (routes_of m) = rw (length-routes m, length-records route_from c.args.s.now c.args.y.routes) (omega arith) in
    rw (checks_stop (route_check (held_of c.args.g.now).graph (routes_of m)) c.loop-r.r _ _ within c.loop-r.invariant.2 (sym c.in_err-check_route.ensures)) (search rules)
