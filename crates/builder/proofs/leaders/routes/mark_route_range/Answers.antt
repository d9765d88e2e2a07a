-- Its range. Assumes nothing.
use mathlib.Core.List.{List, []}
use mathlib.Core.Path.{ap, ◌∙◌}
use lib.ListN.{get_or}
use Rattle.image.specs.Image.{RouteImage}
use Rattle.image.specs.Record.{route_from}
use Rattle.image.specs.declared.record.Route.{Route}
use Rattle.builder.specs.Code.{image_of}
use Rattle.graph.specs.Leaders.{range_mark}
use Rattle.builder.specs.Marks.{route_range}
use Rattle.builder.proofs.MarkLaws.{few, any_routes, route_range_law, route_start, route_end, mark_as, mark_within}
use Rattle.builder.proofs.leaders.routes.mark_route_range.Goals as goal

pub returns : goal.returns
unfolding range_mark
returns c = let m = image_of c.args.checked.now.code in
    let own = (c.get-route.ensures ∙ ap (λ (l : List Route). get_or l c.args.r (route_from [] 0)) (c.routes-2.ensures ∙ ap (λ (r : RouteImage). r.routes) c.routes.ensures)) in
    let within = c.requires.r_in in
    let passed = route_range_law m c.args.checked.now.passed c.args.r (rw (any_routes (image_of c.args.checked.now.code)) c.requires.r_in) in
    let clear = rw (route_start m c.args.r within, route_end m c.args.r within, ← own) at passed in
    mark_as (route_range m c.args.r) (λ p h. rw (route_start m c.args.r within, route_end m c.args.r within, ← own)) (mark_within _ (few _ c.args.checked.now.passed) (c.mark_range.ensures m _ _ clear c.range_check-range.ensures))
