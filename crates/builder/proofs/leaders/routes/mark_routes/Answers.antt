-- Ranges, funclets, handlers. Assumes nothing.
use Rattle.graph.specs.Leaders.{route_mark}
use Rattle.builder.proofs.MarkLaws.{mark_then, mark_as}
use Rattle.builder.proofs.RouteMarks.{route_marks}
use Rattle.builder.proofs.leaders.routes.mark_routes.Goals as goal

pub returns : goal.returns
returns c = mark_as (route_mark _) (λ p h. route_marks _ c.args.checked.now.passed.sourced.accepted.routed p)
    (mark_then (mark_then c.mark_route_ranges.ensures c.mark_funclets.ensures) c.mark_path_ends.ensures)
