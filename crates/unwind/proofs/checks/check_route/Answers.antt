-- `check_route` meets its contract: check by check, in the order of the definition. Assumes nothing.
use mathlib.Core.Path.{sym, ◌∙◌}
use native.Mathlib.Omega.{arith}
use Rattle.image.specs.Image.{routes_in}
use Rattle.graph.specs.Lent.{held_of}
use Rattle.graph.proofs.TableLaws.{below_most}
use Rattle.unwind.proofs.RouteChecks.{paths_at, route_checks}
use borrow.Author.Rules.{rules}
use Rattle.unwind.proofs.checks.check_route.Goals as goal

pub returns-then-resumes_late : goal.returns-then-resumes_late
returns-then-resumes_late c = let range = rw c.route_in-route.ensures at (sym c.in_ok-check_range.ensures) in
    let late = sym c.resumes_late.ensures ∙ c.if-resumes_late.true in
    sym (route_checks (held_of c.args.g.now).graph (routes_in c.args.s.now c.args.y) c.args.r c.requires.placed.1 ∙ rw (range, late))

pub check_leads-requires-clause-past_within : goal.check_leads-requires-clause-past_within
check_leads-requires-clause-past_within c = let g = (held_of c.args.g.now).graph in
    omega (arith, c.position-past.ensures, below_most g.table c.route_in-route.result.end)

pub returns : goal.returns
returns c = let m = routes_in c.args.s.now c.args.y in
    let range = rw c.route_in-route.ensures at (sym c.in_ok-check_range.ensures) in
    let late = sym c.resumes_late.ensures ∙ c.if-resumes_late.false in
    (rw c.route_in-route.ensures at (c.check_leads.ensures _ _ c.position-first.ensures c.position-past.ensures (paths_at m c.args.r))) ∙ sym (route_checks (held_of c.args.g.now).graph m c.args.r c.requires.placed.1 ∙ rw (range, late))

pub returns-in_err-check_range : goal.returns-in_err-check_range
returns-in_err-check_range c = let range = rw c.route_in-route.ensures at (sym c.in_err-check_range.ensures) in
    rw (route_checks (held_of c.args.g.now).graph (routes_in c.args.s.now c.args.y) c.args.r c.requires.placed.1) (rw range (search rules))
