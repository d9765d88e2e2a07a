-- The last instruction's end, or two starts. Assumes nothing.
use mathlib.Core.Bool.{or-true}
use mathlib.Core.Path.{◌≡◌, sym, ap, ◌∙◌}
use native.Mathlib.Omega.{arith}
use borrow.Author.Tests.{lt-ltb, eq-eqb}
use lib.Dec.{eqb}
use Rattle.builder.specs.Code.{image_of}
use Rattle.graph.specs.Transfer.{table_of}
use Rattle.graph.specs.Table.{below, code_end_of, range_check}
use Rattle.graph.proofs.TableLaws.{length-entries}
use Rattle.graph.proofs.RangeLaws.{below_code_end, below_less}
use Rattle.builder.proofs.ranges.range_check.Goals as goal

pub returns-then-end-code : goal.returns-then-end-code
unfolding range_check
returns-then-end-code c = let t = table_of (image_of c.args.code.now) in
    let rises = c.if-end-start.false in
    let first = rw c.in-Some.is at c.find.ensures in
    let last : c.args.end ≡ code_end_of t = c.if-end-code.true ∙ c.args.code.now.ended.1 in
    let all = length-entries (image_of c.args.code.now).instructions ∙ sym c.size-past.ensures in
    let past = ap (below t) last ∙ below_code_end t c.args.code.now.ended.0 ∙ all in
    (rw (lt-ltb _ _ rises, first.0, eq-eqb _ _ last), sym first.1, sym past, omega (arith, first.2, all), omega (arith, all))

pub returns : goal.returns
unfolding range_check
returns c = let t = table_of (image_of c.args.code.now) in
    let rises = c.if-end-start.false in
    let first = rw c.in-Some.is at c.find.ensures in
    let past = rw c.in-Some-find.is at c.find-2.ensures in
    (rw (lt-ltb _ _ rises, first.0, past.0, or-true (eqb c.args.end (code_end_of t))), sym first.1, sym past.1, omega (arith, below_less t _ _ first.0 rises, first.1, past.1), omega (arith, past.2))
