-- `check_node` meets its contract: the funclet, then the ends. Assumes nothing.
use mathlib.Core.Path.{sym, ◌∙◌}
use borrow.Author.Rules.{rules}
use Rattle.image.specs.Image.{routes_in}
use Rattle.graph.specs.Lent.{held_of}
use Rattle.unwind.specs.Nodes.{record_in}
use Rattle.unwind.proofs.NodeChecks.{node_checks}
use Rattle.unwind.proofs.node_checks.check_node.Goals as goal

pub returns-in_err-check_funclet-clause-check : goal.returns-in_err-check_funclet-clause-check
returns-in_err-check_funclet-clause-check c = let m = routes_in c.args.s.now c.args.y in
    let read = c.node_in-x.ensures.is in
    let funclet = rw read at (sym c.in_err-check_funclet.ensures.check) in
    λ edges. rw (node_checks (held_of c.args.g.now).graph m edges c.args.ends.now (record_in c.args.nodes.now c.args.i)) (rw funclet (search rules))

pub returns-clause-check : goal.returns-clause-check
returns-clause-check c = let m = routes_in c.args.s.now c.args.y in
    let read = c.node_in-x.ensures.is in
    let funclet = rw read at (sym c.in_ok-check_funclet.ensures.check) in
    λ edges. rw read at c.check_ends.ensures ∙ sym (node_checks (held_of c.args.g.now).graph m edges c.args.ends.now (record_in c.args.nodes.now c.args.i) ∙ rw funclet)
