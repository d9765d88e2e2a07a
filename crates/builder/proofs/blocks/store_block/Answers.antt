-- A block, where one ends. Assumes nothing.
use mathlib.Core.Path.{sym, ◌∙◌}
use native.Mathlib.Numerals.{add-one}
use borrow.Author.Tests.{not-true, not-false}
use Rattle.builder.proofs.EdgeLaws.{terminator_is}
use Rattle.builder.proofs.LaidLaws.{same_first, next_first, block_on, block_ends}
use Rattle.builder.proofs.blocks.store_block.Goals as goal

pub returns-then-not-is_terminator-clause-stored : goal.returns-then-not-is_terminator-clause-stored
returns-then-not-is_terminator-clause-stored c = λ m sized leading here.
    let is = c.is_terminator.ensures ∙ (rw sized at (terminator_is m c.args.p c.args.marks.now leading (rw sized c.requires.p_in))) in
    block_on m c.args.p _ (sym is ∙ not-true _ c.if-not-is_terminator.true-raw)

pub returns-then-not-is_terminator-clause-first : goal.returns-then-not-is_terminator-clause-first
returns-then-not-is_terminator-clause-first c = λ m sized leading here behind.
    let is = c.is_terminator.ensures ∙ (rw sized at (terminator_is m c.args.p c.args.marks.now leading (rw sized c.requires.p_in))) in
    here ∙ sym (same_first m c.args.p (sym is ∙ not-true _ c.if-not-is_terminator.true-raw) (rw sized behind))

pub returns-clause-stored : goal.returns-clause-stored
returns-clause-stored c = λ m sized leading here.
    let is = c.is_terminator.ensures ∙ (rw sized at (terminator_is m c.args.p c.args.marks.now leading (rw sized c.requires.p_in))) in
    block_ends m c.args.p c.args.first (sym is ∙ not-false _ c.if-not-is_terminator.false-raw) here c.add_block.ensures

pub returns-clause-first : goal.returns-clause-first
returns-clause-first c = λ m sized leading here behind.
    let is = c.is_terminator.ensures ∙ (rw sized at (terminator_is m c.args.p c.args.marks.now leading (rw sized c.requires.p_in))) in
    add-one c.args.p ∙ sym (next_first m c.args.p (sym is ∙ not-false _ c.if-not-is_terminator.false-raw) (rw sized behind))
