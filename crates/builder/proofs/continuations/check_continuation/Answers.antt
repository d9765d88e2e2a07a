-- By the three tests: does it end its block, are edges given for it, and is its end a start. Assumes nothing.
use mathlib.Core.Path.{sym, ◌∙◌}
use Rattle.builder.specs.Code.{image_of}
use Rattle.builder.proofs.ContinuationLaws.{ends_told, inside_clear, given_clear, end_checked}
use borrow.Author.Tests.{not-true, not-false}
use Rattle.builder.proofs.continuations.check_continuation.Goals as goal

pub returns-then-not-is_terminator : goal.returns-then-not-is_terminator
returns-then-not-is_terminator c = let ends = ends_told (image_of c.args.checked.now.code) c.args.marks.now c.requires.leading c.args.p c.requires.p_in c.size-n.ensures c.is_terminator.ensures ∙ not-true _ c.if-not-is_terminator.true-raw in
    sym (inside_clear (image_of c.args.checked.now.code) c.requires.mode c.args.p ends)

pub returns-then-is_some : goal.returns-then-is_some
returns-then-is_some c = let ends = ends_told (image_of c.args.checked.now.code) c.args.marks.now c.requires.leading c.args.p c.requires.p_in c.size-n.ensures c.is_terminator.ensures ∙ not-false _ c.if-not-is_terminator.false-raw in
    sym (given_clear (image_of c.args.checked.now.code) c.requires.mode c.args.p ends c.args.visit c.requires.visit (sym c.is_some.ensures ∙ c.if-is_some.true))

pub returns-in_default : goal.returns-in_default
returns-in_default c = let ends = ends_told (image_of c.args.checked.now.code) c.args.marks.now c.requires.leading c.args.p c.requires.p_in c.size-n.ensures c.is_terminator.ensures ∙ not-false _ c.if-not-is_terminator.false-raw in
    let checked = end_checked (image_of c.args.checked.now.code) c.requires.mode c.args.p ends c.args.visit c.requires.visit (sym c.is_some.ensures ∙ c.if-is_some.false) c.args.checked.now.given c.requires.p_in in
    let none = rw c.in_default.is at c.find_near.ensures in
    sym (rw none at checked)

pub returns : goal.returns
returns c = let ends = ends_told (image_of c.args.checked.now.code) c.args.marks.now c.requires.leading c.args.p c.requires.p_in c.size-n.ensures c.is_terminator.ensures ∙ not-false _ c.if-not-is_terminator.false-raw in
    let checked = end_checked (image_of c.args.checked.now.code) c.requires.mode c.args.p ends c.args.visit c.requires.visit (sym c.is_some.ensures ∙ c.if-is_some.false) c.args.checked.now.given c.requires.p_in in
    let found = rw c.in-Some.is at c.find_near.ensures in
    sym (rw found.0 at checked)
