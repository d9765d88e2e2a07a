-- `copies_repeat` meets its contract: each block before the copies is built. Assumes nothing.
use mathlib.Core.Path.{◌∙◌}
use borrow.Author.Rules.{rules}
use borrow.Author.Tests.{tests}
use lib.ListN.{length}
use Rattle.graph.specs.Fold.{some}
use Rattle.graph.specs.Lent.{held_of}
use Rattle.graph.specs.WellFormed.{repeats}
use Rattle.graph.proofs.FoldLaws.{all_between}
use Rattle.graph.proofs.RuleLaws.{copies_only}
use Rattle.graph.proofs.rule.copies_repeat.Goals as goal

pub returns : goal.returns
returns c = let g = (held_of c.args.g.now).graph in
    all_between (λ b. some (repeats g b) (length g.blocks)) _ (length g.blocks) _ _ _ c.all.ensures.ran (cc) (λ x b q k. search (rules, tests))
    ∙ copies_only g _ c.built_count-built.ensures
