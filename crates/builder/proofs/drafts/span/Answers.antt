-- Where a range ends before it starts, the difference is 0. Assumes nothing.
use mathlib.Core.Path.{◌∙◌}
use Rattle.builder.proofs.DraftLaws.{span_is}
use Rattle.builder.proofs.drafts.span.Goals as goal

pub returns : goal.returns
returns c = λ m e. c.saturating_sub.ensures ∙ span_is e c.args.h
