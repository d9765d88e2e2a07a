use mathlib.Core.Path.{◌≡◌, ap, ◌∙◌}
use Rattle.image.specs.Image.{RouteImage}
use Rattle.builder.specs.Code.{image_of}
use Rattle.builder.proofs.MarkLaws.{marks_none, marks_more}
use lib.ListN.{length}
use Rattle.builder.specs.Marks.{path_mark, path_end_mark}
use native.Mathlib.Omega.{arith}
use borrow.Author.Rules.{rules}
use Rattle.builder.proofs.leaders.routes.mark_path_ends.Goals as goal

pub loop-k-init : goal.loop-k-init
loop-k-init c = (search rules, marks_none (λ i p. path_mark _ i p))

pub loop-k-preserved : goal.loop-k-preserved
loop-k-preserved c = (search rules, marks_more (λ i p. path_mark _ i p) c.loop-k.k c.loop-k.invariant.1 c.mark_path_end.ensures)

pub returns : goal.returns
unfolding path_end_mark
returns c = let all : c.loop-k.k ≡ length (image_of c.args.checked.now.code).routes.paths = omega (arith, c.len-n.ensures ∙ ap length (c.paths.ensures ∙ ap (λ (r : RouteImage). r.paths) c.routes.ensures)) in
    rw all at c.loop-k.invariant.1
