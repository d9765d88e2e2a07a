-- The cursor stands at its position, so what is read there is what the image gives for it. Assumes nothing.
use Rattle.builder.specs.Code.{image_of}
use Rattle.builder.proofs.ScanLaws.{scan_fits, scan_visit}
use Rattle.builder.proofs.cursor.visit_at.Goals as goal

pub cursor_after-next-requires : goal.cursor_after-next-requires
cursor_after-next-requires c = scan_fits (image_of c.args.code.now) c.requires.sourced c.args.c.at c.args.c c.requires.cursor c.requires.at_in _ c.instruction-instruction.ensures _ c.given_at-given.ensures

pub returns : goal.returns
returns c = scan_visit (image_of c.args.code.now) c.requires.sourced c.args.c.at c.args.c c.requires.cursor c.requires.at_in _ c.instruction-instruction.ensures _ c.given_at-given.ensures _ c.cursor_after-next.ensures
