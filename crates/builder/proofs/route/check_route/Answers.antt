-- The range, then Resume after a funclet, then the entries. Assumes nothing.
use mathlib.Core.Path.{◌≡◌, sym, ap, ◌∙◌}
use Prim.Native.Nat.{ℕ, ◌+◌}
use native.Mathlib.Omega.{arith}
use Rattle.builder.specs.Code.{image_of}
use Rattle.graph.specs.Transfer.{table_of}
use Rattle.image.specs.Whole.{routes_of}
use Rattle.image.specs.Deal.{routes_of as dealt}
use Rattle.image.specs.Refusal.{checks}
use Rattle.image.specs.declared.record.Route.{Route}
use Rattle.graph.specs.Route.{route_check, paths_before, path_in}
use Rattle.graph.proofs.RouteLaws.{paths_in, paths_next}
use Rattle.builder.specs.Ranges.{path_check}
use Rattle.builder.proofs.RouteChecks.{route_check_law}
use borrow.Author.Rules.{rules}
use Rattle.builder.proofs.route.check_route.Goals as goal

pub returns-in_err-check_range-clause-check : goal.returns-in_err-check_range-clause-check
returns-in_err-check_range-clause-check c = let m = routes_of c.args.routes.now in
    let t = table_of (image_of c.args.code.now) in
    let range = rw (rw c.routes.ensures at c.get-route.ensures) at c.in_err-check_range.ensures in
    rw (route_check_law m c.requires.placed.0 c.args.r c.requires.placed.1 t, ← range) (search rules)

pub returns-then-resumes_late-clause-check : goal.returns-then-resumes_late-clause-check
returns-then-resumes_late-clause-check c = let m = routes_of c.args.routes.now in
    let t = table_of (image_of c.args.code.now) in
    let range = rw (rw c.routes.ensures at c.get-route.ensures) at c.in_ok-check_range.ensures in
    let late = sym c.resumes_late.ensures ∙ c.if-resumes_late.true in
    rw (route_check_law m c.requires.placed.0 c.args.r c.requires.placed.1 t, ← range, late)

pub check_entries-requires-clause-paths_in : goal.check_entries-requires-clause-paths_in
check_entries-requires-clause-paths_in c = let p = c.requires.placed in
    let within = paths_in (routes_of c.args.routes.now) p.0 c.args.r p.1 in
    omega (arith, within, p.2, ap (λ (x : Route). x.paths) (rw c.routes.ensures at c.get-route.ensures))

pub returns-clause-check : goal.returns-clause-check
returns-clause-check c = let p = c.requires.placed in
    let m = routes_of c.args.routes.now in
    let t = table_of (image_of c.args.code.now) in
    let range = rw (rw c.routes.ensures at c.get-route.ensures) at c.in_ok-check_range.ensures in
    let late = sym c.resumes_late.ensures ∙ c.if-resumes_late.false in
    let rest : checks (λ (k : ℕ). path_check t (path_in m (c.args.path + k))) c.get-route.result.paths ≡ route_check t (dealt m) c.args.r = rw (p.2, (rw c.routes.ensures at c.get-route.ensures), route_check_law m p.0 c.args.r p.1 t, ← range, late) in
    c.check_entries.ensures.check ∙ rest

pub returns-clause-next : goal.returns-clause-next
returns-clause-next c = let p = c.requires.placed in
    let m = routes_of c.args.routes.now in
    let next : c.args.path + c.get-route.result.paths ≡ paths_before m (c.args.r + 1) = rw (paths_next m c.args.r, p.2, (rw c.routes.ensures at c.get-route.ensures)) in
    rw next at c.check_entries.ensures.next
