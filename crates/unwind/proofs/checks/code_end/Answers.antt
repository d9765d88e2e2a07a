-- `code_end` meets its contract: of the entries so far the greatest end is at hand. Assumes nothing.
use mathlib.Core.Path.{◌≡◌, refl, ap, ◌∙◌}
use mathlib.Core.List.{[], ◌∷◌}
use Rattle.std.proofs.Common.{rules, arith}
use Rattle.std.proofs.lemmas.Fn.{fold_over, slice_gives, fronts}
use Rattle.graph.specs.Table.{code_end_of}
use Rattle.graph.proofs.RangeLaws.{code_end_append}
use Rattle.unwind.proofs.checks.code_end.Goals as goal

pub returns : goal.returns
unfolding code_end_of
returns c =
    fold_over fronts (λ y. y.now) _ (λ ys n. n ≡ code_end_of ys) _ (λ ys a x b f' j k. let more = code_end_append ys (x.now ∷ []) in search (rules, arith))
    _ _ _ _ (slice_gives c.iter.result) refl c.fold.ensures.ran
    ∙ ap code_end_of (c.iter.ensures.rest ∙ c.entries.ensures)
