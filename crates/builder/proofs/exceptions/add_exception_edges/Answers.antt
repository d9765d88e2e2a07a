use mathlib.Core.Path.{◌≡◌}
use lib.ListN.{length}
use Rattle.builder.specs.Code.{image_of}
use Rattle.graph.specs.Fold.{flat}
use Rattle.graph.specs.Build.{handler_check}
use Rattle.graph.proofs.CheckLaws.{checks_at}
use Rattle.graph.proofs.AddingLaws.{added_none, edges_more}
use Rattle.builder.specs.Emit.{handler_edges}
use Rattle.builder.proofs.ExceptionLaws.{handlers_edges}
use native.Mathlib.Omega.{arith}
use borrow.Author.Rules.{rules}
use Rattle.builder.proofs.exceptions.add_exception_edges.Goals as goal

pub loop-h-init : goal.loop-h-init
unfolding flat
loop-h-init c = (search rules, omega (arith, c.args.numbered.now.handled.few, c.handler_count-n.ensures), added_none _)

pub add_handler_edges-requires-clause-checked : goal.add_handler_edges-requires-clause-checked
add_handler_edges-requires-clause-checked c = let m = image_of c.args.numbered.now.code in
    let size = c.handler_count-n.ensures in
    checks_at (handler_check m) (length m.handlers) c.loop-h.h c.args.numbered.now.handled.passed (omega arith)

pub loop-h-preserved : goal.loop-h-preserved
loop-h-preserved c = let m = image_of c.args.numbered.now.code in
    (search rules, search rules, edges_more (λ k. handler_edges m k) c.loop-h.h c.loop-h.invariant.2 c.add_handler_edges.ensures)

pub returns : goal.returns
returns c = let m = image_of c.args.numbered.now.code in
    let all : c.loop-h.h ≡ length m.handlers = omega (arith, c.handler_count-n.ensures) in
    rw (handlers_edges m (omega arith), ← all) c.loop-h.invariant.2
