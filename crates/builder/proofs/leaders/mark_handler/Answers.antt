-- Its range, then its entry. Assumes nothing.
use mathlib.Core.Bool.{◌&&◌, ◌||◌}
use mathlib.Core.Path.{ap}
use lib.Dec.{eqb, leb}
use Rattle.builder.specs.Code.{image_of}
use Rattle.image.specs.declared.record.Handler.{Handler}
use Rattle.graph.specs.Table.{below}
use Rattle.graph.specs.Transfer.{table_of, address_at}
use Rattle.graph.specs.Leaders.{range_mark, handler_at, protect_mark}
use Rattle.builder.proofs.MarkLaws.{few, handler_range, mark_then, mark_as, mark_within, mark_start}
use Rattle.builder.proofs.leaders.mark_handler.Goals as goal

pub returns : goal.returns
unfolding handler_at range_mark
returns c = let m = image_of c.args.checked.now.code in
    let own = c.handler-handler.ensures in
    let passed = handler_range m c.args.checked.now.passed c.args.h c.requires.h_in in
    let marked = c.mark_range.ensures m _ _ (rw (← own) at passed) c.range_check-range.ensures in
    mark_as (protect_mark m c.args.h)
    (λ p h. ap (λ (x : Handler). (leb (below (table_of m) x.start) p && leb p (below (table_of m) x.end)) || eqb (address_at m p) x.entry) own)
    (mark_then (mark_within _ (few _ c.args.checked.now.passed) marked) (mark_start m _ c.mark_target.ensures))
