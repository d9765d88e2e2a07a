-- By what the look-up answers. Assumes nothing.
use mathlib.Core.Path.{refl, ap, ◌∙◌}
use mir.Val.{bool_byte}
use Rattle.builder.specs.Code.{image_of}
use Rattle.builder.proofs.CountLaws.{resolved_told}
use Rattle.builder.specs.Slots.{transfer_in}
use Rattle.builder.proofs.edge_count.resolves.Goals as goal

pub returns : goal.returns
returns c = c.from.ensures ∙ ap bool_byte c.is_some.ensures ∙ resolved_told (image_of c.args.code.now) (transfer_in c.args.x) c.resolve.result (c.resolve.ensures (image_of c.args.code.now) refl)
