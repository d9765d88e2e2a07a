use mathlib.Core.Path.{◌≡◌, ap, ◌∙◌}
use Rattle.image.specs.Image.{RouteImage}
use lib.ListN.{length}
use Rattle.builder.specs.Code.{image_of}
use Rattle.graph.specs.Leaders.{routes}
use Rattle.builder.specs.Marks.{route_range, route_range_mark}
use Rattle.builder.proofs.MarkLaws.{marks_none, marks_more, any_routes}
use native.Mathlib.Omega.{arith}
use borrow.Author.Rules.{rules}
use Rattle.builder.proofs.leaders.routes.mark_route_ranges.Goals as goal

pub loop-r-init : goal.loop-r-init
loop-r-init c = (search rules, marks_none (route_range _))

pub loop-r-preserved : goal.loop-r-preserved
loop-r-preserved c = (search rules, marks_more (route_range _) c.loop-r.r c.loop-r.invariant.1 c.mark_route_range.ensures)

pub returns : goal.returns
unfolding route_range_mark
returns c = let all : c.loop-r.r ≡ length (routes (image_of c.args.checked.now.code)) = omega (arith, any_routes (image_of c.args.checked.now.code), c.len-n.ensures ∙ ap length (c.routes-2.ensures ∙ ap (λ (r : RouteImage). r.routes) c.routes.ensures)) in
    rw all at c.loop-r.invariant.1
