-- 21, the refusal of the reading, or the addition of what was read. Assumes nothing.
use mathlib.Core.Path.{sym, ◌∙◌}
use Rattle.image.specs.Image.{routes_in}
use Rattle.image.proofs.Accepted.{accepted_routes}
use Rattle.graph.specs.Lent.{held_of}
use Rattle.unwind.proofs.AnswerLaws.{graph_none, form_refused, read_answer, added_spells, added_graphed}
use borrow.Author.Tests.{not-true, not-false}
use Rattle.std.proofs.lemmas.Result.{err_from_is_err_and}
use Rattle.unwind.proofs.add.add_unwind_routes.Goals as goal

pub returns-then-not-is_graph-clause-answer : goal.returns-then-not-is_graph-clause-answer
returns-then-not-is_graph-clause-answer c = graph_none (held_of c.args.g.now) c.args.s.now (sym c.is_graph.ensures ∙ not-true _ c.if-not-is_graph.true-raw)

pub add_read-requires-clause-graph : goal.add_read-requires-clause-graph
add_read-requires-clause-graph c = sym c.is_graph.ensures ∙ not-false _ c.if-not-is_graph.false-raw

pub add_read-requires-clause-accepted : goal.add_read-requires-clause-accepted
add_read-requires-clause-accepted c = accepted_routes c.args.s.now (routes_in c.args.s.now _) (sym c.in_ok-y.ensures.answer)

pub returns-in_err-y-clause-answer : goal.returns-in_err-y-clause-answer
returns-in_err-y-clause-answer c = let p = err_from_is_err_and c.from_residual.result c.from_residual.ensures.1 in
    rw p.1 (form_refused (held_of c.args.g.now) c.args.s.now (sym c.is_graph.ensures ∙ not-false _ c.if-not-is_graph.false-raw) _ _ p.2 c.in_err-y.ensures.answer)

pub returns-clause-answer : goal.returns-clause-answer
returns-clause-answer c = read_answer c.args.s.now c.args.g.now _ c.args.h.now _ _ (sym c.is_graph.ensures ∙ not-false _ c.if-not-is_graph.false-raw) _ c.in_ok-y.ensures.answer c.add_read.ensures

pub returns-clause-spells : goal.returns-clause-spells
returns-clause-spells c = added_spells c.args.s.now c.args.g.now _ c.args.h.now _ _ (read_answer c.args.s.now c.args.g.now _ c.args.h.now _ _ (sym c.is_graph.ensures ∙ not-false _ c.if-not-is_graph.false-raw) _ c.in_ok-y.ensures.answer c.add_read.ensures)

pub returns-clause-graphed : goal.returns-clause-graphed
returns-clause-graphed c = added_graphed c.args.s.now c.args.g.now _ c.args.h.now _ _ (read_answer c.args.s.now c.args.g.now _ c.args.h.now _ _ (sym c.is_graph.ensures ∙ not-false _ c.if-not-is_graph.false-raw) _ c.in_ok-y.ensures.answer c.add_read.ensures) c.add_read.ensures.leaves
