use mathlib.Core.Path.{refl}
use Rattle.graph.specs.Regions.{drafts_below}
use borrow.Author.Rules.{rules}
use Rattle.builder.proofs.drafts.drafts_of.Goals as goal

pub loop-h-init : goal.loop-h-init
unfolding drafts_below
loop-h-init c = (search rules, search rules, c.requires.counted, λ m e. refl)
