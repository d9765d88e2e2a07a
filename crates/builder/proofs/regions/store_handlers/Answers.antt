use mathlib.Core.Path.{◌≡◌}
use lib.ListN.{length}
use Rattle.builder.specs.Code.{image_of}
use Rattle.image.specs.Image.{table}
use Rattle.graph.specs.Lent.{held_of}
use Rattle.graph.specs.Stored.{with_handler}
use Rattle.graph.specs.Build.{handler_check}
use Rattle.graph.specs.Regions.{handler_record, handlers_of}
use Rattle.graph.proofs.CheckLaws.{checks_at}
use Rattle.graph.proofs.StoredLaws.{stored_onto}
use Rattle.builder.proofs.RegionLaws.{handlers_none, handlers_more}
use native.Mathlib.Omega.{arith}
use borrow.Author.Rules.{rules}
use Rattle.builder.proofs.regions.store_handlers.Goals as goal

pub loop-h-init : goal.loop-h-init
unfolding table
loop-h-init c = (search rules, omega (arith, c.handler_count-n.ensures), handlers_none _ c.requires.whole c.requires.no_handlers)

pub handler_record-requires-clause-checked : goal.handler_record-requires-clause-checked
handler_record-requires-clause-checked c = let m = image_of c.args.numbered.now.code in
    let size = c.handler_count-n.ensures in
    let few = c.args.numbered.now.handled.few in
    checks_at (handler_check m) (length m.handlers) c.loop-h.h c.args.numbered.now.handled.passed (omega arith)

pub loop-h-preserved : goal.loop-h-preserved
loop-h-preserved c = (
  search rules,
  search rules,
  stored_onto (λ h. with_handler h c.handler_record.result) c.loop-h.invariant.2 c.add_handler.ensures
      (handlers_more (held_of c.args.g.now).graph (handler_record (image_of c.args.numbered.now.code)) c.loop-h.h _ (omega arith) c.handler_record.ensures),
)

pub returns : goal.returns
unfolding handlers_of
returns c = let all : c.loop-h.h ≡ length (image_of c.args.numbered.now.code).handlers = omega (arith, c.handler_count-n.ensures) in
    rw all at c.loop-h.invariant.2
