-- `compare_entries` meets its contract: the numbers of the ends decide, or the tags. Assumes nothing.
use mathlib.Core.Path.{sym, ◌∙◌}
use Rattle.image.specs.Image.{routes_in}
use Rattle.unwind.proofs.TrieCompare.{number_cmp, then_cmp}
use Rattle.unwind.proofs.EntryLaws.{exits_compare}
use borrow.Author.Rules.{rules}
use Rattle.unwind.proofs.emit.entries.compare_entries.Goals as goal

pub returns : goal.returns
returns c = record {
  is = λ b. then_cmp c.cmp.result c.then_with.result _ _ (number_cmp _ _ c.cmp.result c.cmp.ensures) (λ h. search rules) c.then_with.ensures ∙ sym (exits_compare (routes_in c.args.s.now c.args.y) b c.args.a c.args.b c.requires.small_a c.requires.small_b);
}
