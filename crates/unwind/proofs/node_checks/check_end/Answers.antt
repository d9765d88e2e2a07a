-- `check_end` meets its contract. Assumes nothing.
use mathlib.Core.Path.{sym, ap, ◌∙◌}
use Rattle.image.specs.declared.record.Path.{Path}
use Rattle.image.specs.Image.{routes_in}
use Rattle.graph.specs.Lent.{held_of}
use Rattle.unwind.specs.Nodes.{path_record}
use Rattle.unwind.proofs.NodeChecks.{led_check, end_handler, end_other}
use borrow.Author.Rules.{rules}
use Rattle.unwind.proofs.node_checks.check_end.Goals as goal

pub returns-in_err-leading_block : goal.returns-in_err-leading_block
returns-in_err-leading_block c = let g = (held_of c.args.g.now).graph in
    let p = path_record (routes_in c.args.s.now c.args.y) c.args.p in
    let read = c.path_of-path.ensures in
    let lead = rw read at (led_check g c.path_of-path.result.handler c.in_err-leading_block.ensures) in
    rw (end_handler g p (ap (λ (x : Path). x.end) (sym read) ∙ c.if-path-eq-HANDLER.true), ← lead) (search rules)

pub returns-in_ok-leading_block : goal.returns-in_ok-leading_block
returns-in_ok-leading_block c = let g = (held_of c.args.g.now).graph in
    let p = path_record (routes_in c.args.s.now c.args.y) c.args.p in
    let read = c.path_of-path.ensures in
    rw read at (led_check g c.path_of-path.result.handler c.in_ok-leading_block.ensures) ∙ sym (end_handler g p (ap (λ (x : Path). x.end) (sym read) ∙ c.if-path-eq-HANDLER.true))

pub returns-else-path-eq-HANDLER : goal.returns-else-path-eq-HANDLER
returns-else-path-eq-HANDLER c = let p = path_record (routes_in c.args.s.now c.args.y) c.args.p in
    let read = c.path_of-path.ensures in
    sym (end_other (held_of c.args.g.now).graph p (λ e. c.if-path-eq-HANDLER.false (ap (λ (x : Path). x.end) read ∙ e)))
