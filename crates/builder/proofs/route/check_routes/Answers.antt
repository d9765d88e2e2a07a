-- Route by route. Assumes nothing.
use mathlib.Core.Path.{◌≡◌, refl, sym, ap, ◌∙◌}
use Prim.Native.Nat.{◌+◌, ◌<◌}
use native.Mathlib.Omega.{arith}
use lib.ListN.{length}
use Rattle.builder.specs.Code.{image_of}
use Rattle.image.specs.Refusal.{checks}
use Rattle.image.specs.Deal.{total, routes_of as dealt}
use Rattle.image.specs.Whole.{routes_of}
use Rattle.image.specs.declared.record.Route.{Route}
use Rattle.image.proofs.Checks.{checks-more, checks_stop}
use Rattle.graph.specs.Transfer.{table_of}
use Rattle.graph.specs.Leaders.{routes}
use Rattle.graph.specs.Route.{route_check, paths_before, steps_before}
use Rattle.graph.proofs.RouteLaws.{length-routes, paths_in, paths_next}
use borrow.Author.Rules.{rules}
use Rattle.builder.proofs.route.check_routes.Goals as goal

pub loop-r-init : goal.loop-r-init
unfolding checks paths_before steps_before total
loop-r-init c = (search rules, refl, refl, refl)

pub returns-in_err-step : goal.returns-in_err-step
unfolding routes
returns-in_err-step c = let m = routes_of c.routes-routes.result in
    let within : c.loop-r.r < length (dealt m) = omega (arith, length-routes m, c.len-n.ensures ∙ ap length c.routes.ensures) in
    let stop = checks_stop (route_check (table_of (image_of c.args.code.now)) (dealt m)) c.loop-r.r _ _ within c.loop-r.invariant.3 (sym c.in_err-step.ensures.check) in
    rw (rw c.routes-routes.ensures at stop) (search rules)

pub overflow_add-path : goal.overflow_add-path
overflow_add-path c = let m = routes_of c.routes-routes.result in
    let among : c.loop-r.r < length m.routes = omega (arith, c.len-n.ensures ∙ ap length c.routes.ensures) in
    let ok = c.routes-routes.result.accepted in
    omega (arith, paths_in m ok c.loop-r.r among, ok.paths_most, c.loop-r.invariant.1, ap (λ (x : Route). x.paths) (rw c.routes-in-loop-r.ensures at c.get-path.ensures))

pub loop-r-preserved : goal.loop-r-preserved
loop-r-preserved c = let m = routes_of c.routes-routes.result in
    let next : c.loop-r.path + c.get-path.result.paths ≡ paths_before m (c.loop-r.r + 1) = omega (arith, paths_next m c.loop-r.r, c.loop-r.invariant.1, ap (λ (x : Route). x.paths) (rw c.routes-in-loop-r.ensures at c.get-path.ensures)) in
    (search rules, next, c.in_ok-step.ensures.next ∙ ap (steps_before m) (sym next), checks-more _ c.loop-r.r c.loop-r.invariant.3 ∙ sym c.in_ok-step.ensures.check)

pub returns : goal.returns
unfolding routes
returns c = let m = routes_of c.routes-routes.result in
    let all : c.loop-r.r ≡ length (dealt m) = omega (arith, length-routes m, c.len-n.ensures ∙ ap length c.routes.ensures) in
    sym (rw (all, c.routes-routes.ensures) at c.loop-r.invariant.3)
