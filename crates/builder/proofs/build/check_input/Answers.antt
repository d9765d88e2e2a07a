-- Each where those before it found nothing. Assumes nothing.
use mathlib.Core.Path.{sym}
use Rattle.builder.proofs.GivenLaws.{sourced}
use Rattle.builder.proofs.build.check_input.Goals as goal

pub check_given-requires : goal.check_given-requires
check_given-requires c = record { sourced = sourced _ c.args.code.now.image.accepted c.args.code.now.ended.0 (sym c.in_ok-check_sources.ensures) }
