-- What is given decides which of the two checks is made. Assumes nothing.
use mathlib.Core.Path.{◌∙◌}
use Rattle.builder.specs.Code.{image_of}
use Rattle.builder.proofs.GivenLaws.{visit_within, visit_edges, visit_flow}
use native.Mathlib.Omega.{arith}
use Rattle.builder.proofs.checks.check_visit.Goals as goal

pub check_targets-requires : goal.check_targets-requires
check_targets-requires c = let m = image_of c.args.code.now in
    let within = visit_within m c.requires.sourced c.args.c.at c.requires.at_in c.args.c c.args.visit c.requires.cursor c.requires.visit _ c.in-Some.is in
    omega (arith, within)

pub returns-in-Some : goal.returns-in-Some
returns-in-Some c = let m = image_of c.args.code.now in
    c.check_targets.ensures ∙ visit_edges m c.requires.sourced c.args.c.at c.requires.at_in c.args.c c.args.visit c.requires.cursor c.requires.visit _ c.in-Some.is

pub returns-in-None : goal.returns-in-None
returns-in-None c = let m = image_of c.args.code.now in
    c.check_flow.ensures ∙ visit_flow m c.requires.sourced c.args.c.at c.requires.at_in c.args.c c.args.visit c.requires.cursor c.requires.visit c.requires.mode c.in-None.is
