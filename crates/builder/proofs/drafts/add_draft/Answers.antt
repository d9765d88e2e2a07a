-- `add_draft` meets its contract: a draft goes to its place, and any other handler leaves the drafts as they are. Assumes nothing.
use mathlib.Core.Path.{sym, ap, ◌∙◌}
use Rattle.graph.specs.Regions.{place}
use Rattle.builder.proofs.DraftLaws.{drafts_in, drafts_out}
use Rattle.builder.proofs.drafts.add_draft.Goals as goal

pub returns-then-is_draft-clause-drafts : goal.returns-then-is_draft-clause-drafts
returns-then-is_draft-clause-drafts c = let h = c.args.h in
    λ m e was.
    c.insert.ensures.list ∙ sym (c.place_of-j.ensures.place m e) ∙ ap (place m h) was ∙ sym (drafts_in m h (sym (c.is_draft.ensures m e) ∙ c.if-is_draft.true))

pub returns-clause-drafts : goal.returns-clause-drafts
returns-clause-drafts c = λ m e was. was ∙ sym (drafts_out m c.args.h (sym (c.is_draft.ensures m e) ∙ c.if-is_draft.false))
