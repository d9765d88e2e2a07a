-- `build_sequence` meets its contract: the refusal of the reading, or what is built of what was read and the addition of what
-- stands behind it in the image. Assumes nothing.
use mathlib.Core.Path.{sym, ◌∙◌}
use Rattle.image.specs.Image.{image_in}
use Rattle.image.proofs.Accepted.{accepted}
use Rattle.sequence.proofs.SequenceLaws.{stands, checked, unread_gives, unbuilt_gives, plain_gives, mapped, routed_gives}
use Rattle.sequence.proofs.build_sequence.Goals as goal

pub returns-in_err-layout : goal.returns-in_err-layout
returns-in_err-layout c = unread_gives _ _ _ _ _ c.in_err-layout.ensures.answer c.from_residual.ensures.1

pub invariant_of-image : goal.invariant_of-image
invariant_of-image c = record {
  there = c.in_ok-layout.ensures.there;
  accepted = accepted c.args.s.now (image_in c.args.s.now c.in_ok-layout.layout) (sym c.in_ok-layout.ensures.answer);
}

pub returns-in_err-build_read : goal.returns-in_err-build_read
returns-in_err-build_read c = unbuilt_gives _ _ _ _ _ _ _ c.in_ok-layout.ensures.answer c.in_err-build_read.ensures.answer c.in_err-build_read.ensures.leaves c.from_residual-in_err-build_read.ensures.1

pub returns-then-byte_at-eq0 : goal.returns-then-byte_at-eq0
returns-then-byte_at-eq0 c =
    let stands = stands _ _ _ c.in_ok-layout.layout c.in_ok-layout.ensures.answer c.in_ok-build_read.ensures.answer c.in_ok-build_read.ensures.leaves in
    plain_gives _ _ _ _ stands (sym c.byte_at.ensures.0 ∙ c.if-byte_at-eq0.true) c.empty_hops.ensures.holds c.empty_hops.ensures.kept

pub add_checked-requires-clause-checked : goal.add_checked-requires-clause-checked
add_checked-requires-clause-checked c =
    let stands = stands _ _ _ c.in_ok-layout.layout c.in_ok-layout.ensures.answer c.in_ok-build_read.ensures.answer c.in_ok-build_read.ensures.leaves in
    checked _ _ _ _ stands _ c.in_ok-layout.ensures.answer c.block_count-built.ensures

pub returns : goal.returns
returns c =
    let stands = stands _ _ _ c.in_ok-layout.layout c.in_ok-layout.ensures.answer c.in_ok-build_read.ensures.answer c.in_ok-build_read.ensures.leaves in
    rw (mapped _ _ c.map_err.ensures.cases) (routed_gives _ _ _ _ stands (λ e. c.if-byte_at-eq0.false (c.byte_at.ensures.0 ∙ e)) c.in_ok-layout.ensures.answer _ _ _ _ c.add_checked.ensures)
