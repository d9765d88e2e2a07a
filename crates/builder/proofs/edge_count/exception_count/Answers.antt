use mathlib.Core.Path.{◌≡◌, refl}
use lib.ListN.{length}
use Rattle.builder.specs.Code.{image_of}
use Rattle.graph.specs.Fold.{flat}
use Rattle.graph.specs.Build.{handler_check}
use Rattle.graph.proofs.CheckLaws.{checks_at}
use Rattle.builder.specs.Emit.{handler_edges}
use Rattle.builder.proofs.ExceptionLaws.{handlers_edges}
use Rattle.builder.proofs.CountLaws.{flat-length, flat_most, handler_most}
use native.Mathlib.Omega.{arith}
use borrow.Author.Rules.{rules}
use Rattle.builder.proofs.edge_count.exception_count.Goals as goal

pub loop-h-init : goal.loop-h-init
unfolding flat
loop-h-init c = (search rules, omega (arith, c.args.checked.now.passed.sourced.accepted.handlers_most, c.handler_count-n.ensures), refl)

pub kept_by-edges-requires-clause-checked : goal.kept_by-edges-requires-clause-checked
kept_by-edges-requires-clause-checked c = let m = image_of c.args.checked.now.code in
    let size = c.handler_count-n.ensures in
    checks_at (handler_check m) (length m.handlers) c.loop-h.h c.args.checked.now.passed.handlers (omega arith)

pub overflow_add-edges : goal.overflow_add-edges
overflow_add-edges c = let m = image_of c.args.checked.now.code in
    let most = c.args.checked.now.passed.sourced.accepted.instructions_most in
    omega
    (arith, c.loop-h.invariant.2, c.kept_by-edges.ensures, handler_most m c.loop-h.h, flat_most (λ k. handler_edges m k) 512 c.loop-h.h (λ k _. omega (arith, handler_most m k)))

pub loop-h-preserved : goal.loop-h-preserved
loop-h-preserved c = let m = image_of c.args.checked.now.code in
    (search rules, search rules, omega (arith, c.loop-h.invariant.2, c.kept_by-edges.ensures, flat-length (λ k. handler_edges m k) c.loop-h.h))

pub returns : goal.returns
returns c = let m = image_of c.args.checked.now.code in
    let all : c.loop-h.h ≡ length m.handlers = omega (arith, c.handler_count-n.ensures) in
    rw (handlers_edges m c.requires.mode, ← all) c.loop-h.invariant.2
