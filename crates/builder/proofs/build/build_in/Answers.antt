-- The checks in their order, the leaders, and then the stores. Assumes nothing.
use mathlib.Core.Path.{sym}
use Rattle.image.specs.Whole.{contents}
use Rattle.graph.specs.Transfer.{table_of}
use Rattle.graph.proofs.RangeLaws.{rising}
use Rattle.graph.proofs.BuiltChecks.{parts}
use Rattle.builder.specs.Ranges.{Ended}
use Rattle.builder.proofs.MarkLaws.{leading}
use Rattle.builder.proofs.BuildLaws.{passed, build_tabled, build_refused, build_late, build_built}
use borrow.Author.Rules.{rules}
use Rattle.builder.proofs.build.build_in.Goals as goal

pub returns-in_err-end-clause-answer : goal.returns-in_err-end-clause-answer
returns-in_err-end-clause-answer c = rw (sym (build_tabled (contents c.args.image.now) _ (rw c.instructions.ensures at c.in_err-end.ensures.check))) (search rules)

pub invariant_of-code : goal.invariant_of-code
invariant_of-code c =
    let ended : Ended (table_of (contents c.args.image.now)) c.in_ok-end.end = rw c.instructions.ensures at c.in_ok-end.ensures.ended in
    record { ended = ended; rising = rising (table_of (contents c.args.image.now)) ended.0 }

pub returns-in_err-check_input-clause-answer : goal.returns-in_err-check_input-clause-answer
returns-in_err-check_input-clause-answer c = rw (sym (build_refused (contents c.args.image.now) _ c.in_err-check_input.ensures)) (search rules)

pub invariant_of-checked : goal.invariant_of-checked
invariant_of-checked c = let clears = sym c.in_ok-check_input.ensures in
    let p = parts (contents c.args.image.now) clears in
    record { clears = clears; passed = passed (contents c.args.image.now) c.args.image.now.accepted p; given = p.given }

pub check_result-requires : goal.check_result-requires
check_result-requires c = record { leading = leading (contents c.args.image.now) (passed _ c.args.image.now.accepted (parts _ (sym c.in_ok-check_input.ensures))) c.mark_leaders-marks.ensures }

pub returns-in_err-check_result-clause-answer : goal.returns-in_err-check_result-clause-answer
returns-in_err-check_result-clause-answer c = rw (sym (build_late (contents c.args.image.now) _ (sym c.in_ok-check_input.ensures) c.in_err-check_result.ensures)) (search rules)

pub store_graph-requires-clause-leading : goal.store_graph-requires-clause-leading
store_graph-requires-clause-leading c = leading (contents c.args.image.now) (passed _ c.args.image.now.accepted (parts _ (sym c.in_ok-check_input.ensures))) c.mark_leaders-marks.ensures

pub returns-clause-answer : goal.returns-clause-answer
returns-clause-answer c = (build_built (contents c.args.image.now) (sym c.in_ok-check_input.ensures) (sym c.in_ok-check_result.ensures) c.store_graph.ensures).0

pub returns-clause-leaves : goal.returns-clause-leaves
returns-clause-leaves c = (build_built (contents c.args.image.now) (sym c.in_ok-check_input.ensures) (sym c.in_ok-check_result.ensures) c.store_graph.ensures).1
