-- What is read at the cursor is what stands there; mark by mark. Assumes nothing.
use mathlib.Core.Bool.{◌&&◌}
use mathlib.Core.Path.{refl, ap}
use lib.Dec.{eqb}
use Rattle.builder.specs.Code.{image_of}
use Rattle.image.specs.declared.record.Instruction.{Instruction}
use Rattle.graph.specs.Leaders.{exceptional_mark}
use Rattle.builder.proofs.MarkLaws.{few, mark_then, mark_as, mark_within}
use Rattle.builder.proofs.ScanLaws.{scan-given, scan_fits, scan_next}
use Rattle.builder.proofs.FlowLaws.{lead_marks}
use Rattle.builder.proofs.leaders.mark_visit.Goals as goal

pub mark_gap-requires-clause-instruction : goal.mark_gap-requires-clause-instruction
mark_gap-requires-clause-instruction c = c.instruction-i.ensures

pub mark_lead-requires-clause-given : goal.mark_lead-requires-clause-given
mark_lead-requires-clause-given c = scan-given (image_of c.args.checked.now.code) c.args.checked.now.passed.sourced c.args.c.at c.args.c c.requires.cursor c.requires.at_in _ c.instruction-i.ensures _ c.given_at-given.ensures

pub mark_lead-requires-clause-instruction : goal.mark_lead-requires-clause-instruction
mark_lead-requires-clause-instruction c = c.instruction-i.ensures

pub mark_funclet_end-requires-clause-instruction : goal.mark_funclet_end-requires-clause-instruction
mark_funclet_end-requires-clause-instruction c = c.instruction-i.ensures

pub cursor_after-requires : goal.cursor_after-requires
cursor_after-requires c = scan_fits (image_of c.args.checked.now.code) c.args.checked.now.passed.sourced c.args.c.at c.args.c c.requires.cursor c.requires.at_in _ c.instruction-i.ensures _ c.given_at-given.ensures

pub returns : goal.returns
unfolding exceptional_mark
returns c = let m = image_of c.args.checked.now.code in
    let q = c.args.c.at in
    let instruction = c.instruction-i.ensures in
    let next = scan_next (image_of c.args.checked.now.code) c.args.checked.now.passed.sourced c.args.c.at c.args.c c.requires.cursor c.requires.at_in _ c.instruction-i.ensures _ c.given_at-given.ensures _ c.cursor_after.ensures in
    let leads = lead_marks m c.args.checked.now.passed.sourced q c.requires.at_in refl c.mark_gap.ensures c.mark_lead.ensures in
    let throws = mark_as (λ p. exceptional_mark m q && eqb p q) (λ p h. ap (λ (x : Instruction). eqb x.flow 9 && eqb p q) instruction) (mark_within _ (few _ c.args.checked.now.passed) c.mark_if.ensures) in
    record { next = next; marked = mark_then (mark_then leads throws) c.mark_funclet_end.ensures }
