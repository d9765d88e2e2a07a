use mathlib.Core.Path.{◌≡◌, ap}
use lib.ListN.{length}
use Rattle.builder.specs.Code.{image_of}
use Rattle.image.specs.declared.record.Handler.{Handler}
use Rattle.builder.proofs.DraftLaws.{filled_none, filled_more, extents_read}
use native.Mathlib.Omega.{arith}
use borrow.Author.Rules.{rules}
use Rattle.builder.proofs.drafts.read_ranges.Goals as goal

pub loop-h-init : goal.loop-h-init
loop-h-init c = let size = c.handler_count-n.ensures in
    (search rules, omega arith, rw c.requires.no_starts (filled_none _), rw c.requires.no_ends (filled_none _))

pub loop-h-preserved : goal.loop-h-preserved
loop-h-preserved c = let own = c.handler-own.ensures in (
  search rules,
  search rules,
  filled_more c.loop-h.invariant.2 _ (omega arith) (ap (λ (x : Handler). x.start) own),
  filled_more c.loop-h.invariant.3 _ (omega arith) (ap (λ (x : Handler). x.end) own),
)

pub returns : goal.returns
returns c = let m = image_of c.args.code.now in
    let all : c.loop-h.h ≡ length m.handlers = omega (arith, c.handler_count-n.ensures) in
    extents_read m _ _ c.loop-h.h all c.loop-h.invariant.2 c.loop-h.invariant.3
