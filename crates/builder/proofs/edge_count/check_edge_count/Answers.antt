-- By the bounds, and by the counts where those do not do. Assumes nothing.
use mathlib.Core.Path.{sym, ap, ◌∙◌}
use lib.ListN.{length}
use Rattle.builder.specs.Code.{image_of}
use Rattle.builder.proofs.CountLaws.{other_modes_within, count-within, count_beyond, bounds}
use native.Mathlib.Omega.{arith}
use Rattle.builder.proofs.edge_count.check_edge_count.Goals as goal

pub returns-then-checked-ne0 : goal.returns-then-checked-ne0
returns-then-checked-ne0 c = sym (other_modes_within (image_of c.args.checked.now.code) _ c.args.checked.now.passed.sourced c.if-checked-ne0.true)

pub overflow_add-normal_most-2 : goal.overflow_add-normal_most-2
overflow_add-normal_most-2 c = let b = bounds (image_of c.args.checked.now.code) c.args.checked.now.passed.sourced c.if-checked-ne0.false c.size-instructions.ensures (c.len-cases.ensures ∙ ap length c.cases.ensures) c.handler_count-handlers.ensures in
    omega (arith, b.instructions, b.cases, b.pairs)

pub returns-then-normal_most-handlers-le-MOST_EDGES : goal.returns-then-normal_most-handlers-le-MOST_EDGES
returns-then-normal_most-handlers-le-MOST_EDGES c = let b = bounds (image_of c.args.checked.now.code) c.args.checked.now.passed.sourced c.if-checked-ne0.false c.size-instructions.ensures (c.len-cases.ensures ∙ ap length c.cases.ensures) c.handler_count-handlers.ensures in
    sym (count-within (image_of c.args.checked.now.code) _ (omega (arith, b.normal, b.exceptional, c.if-normal_most-handlers-le-MOST_EDGES.true)))

pub overflow_add-normal_most-3 : goal.overflow_add-normal_most-3
overflow_add-normal_most-3 c = let b = bounds (image_of c.args.checked.now.code) c.args.checked.now.passed.sourced c.if-checked-ne0.false c.size-instructions.ensures (c.len-cases.ensures ∙ ap length c.cases.ensures) c.handler_count-handlers.ensures in
    omega (arith, b.instructions, b.cases, b.pairs, b.exceptional, c.exception_count-exceptional.ensures)

pub returns-then-normal_most-exceptional-le-MOST_EDGES : goal.returns-then-normal_most-exceptional-le-MOST_EDGES
returns-then-normal_most-exceptional-le-MOST_EDGES c = let b = bounds (image_of c.args.checked.now.code) c.args.checked.now.passed.sourced c.if-checked-ne0.false c.size-instructions.ensures (c.len-cases.ensures ∙ ap length c.cases.ensures) c.handler_count-handlers.ensures in
    sym (count-within (image_of c.args.checked.now.code) _ (omega (arith, b.normal, c.exception_count-exceptional.ensures, c.if-normal_most-exceptional-le-MOST_EDGES.true)))

pub overflow_add-normal_count : goal.overflow_add-normal_count
overflow_add-normal_count c = let b = bounds (image_of c.args.checked.now.code) c.args.checked.now.passed.sourced c.if-checked-ne0.false c.size-instructions.ensures (c.len-cases.ensures ∙ ap length c.cases.ensures) c.handler_count-handlers.ensures in
    omega
    (arith, b.instructions, b.cases, b.pairs, b.normal, b.exceptional, c.normal_count.ensures, c.exception_count-exceptional.ensures)

pub returns : goal.returns
returns c = sym (count_beyond (image_of c.args.checked.now.code) _ (omega (arith, c.normal_count.ensures, c.exception_count-exceptional.ensures)))
