-- The routes' own checks, and then the addition of what they let pass. Assumes nothing.
use mathlib.Core.Path.{sym}
use Rattle.image.specs.Image.{routes_in}
use Rattle.image.specs.Deal.{routes_of}
use Rattle.graph.specs.Lent.{held_of}
use Rattle.unwind.proofs.Standing.{stands_of}
use Rattle.unwind.proofs.Outcomes.{first_refused}
use Rattle.unwind.proofs.AnswerLaws.{adds_refused}
use Rattle.std.proofs.lemmas.Result.{err_from_is_err_and}
use Rattle.unwind.proofs.add.add_read.Goals as goal

pub check_routes-requires-clause-stands : goal.check_routes-requires-clause-stands
check_routes-requires-clause-stands c = stands_of (held_of c.args.g.now) c.requires.graph

pub returns-in_err-check_routes : goal.returns-in_err-check_routes
returns-in_err-check_routes c = let m = routes_in c.args.s.now c.args.y in
    let p = err_from_is_err_and c.from_residual.result c.from_residual.ensures.1 in
    rw (p.1, p.2) (adds_refused m c.args.g.now c.args.h.now _ (first_refused (held_of c.args.g.now).graph (routes_of m) _ (sym c.in_err-check_routes.ensures)))

pub add_checked-requires-clause-checked : goal.add_checked-requires-clause-checked
add_checked-requires-clause-checked c = record { graphed = c.requires.graph; built = c.built_count-built.ensures; accepted = c.requires.accepted; passed = sym c.in_ok-check_routes.ensures }
