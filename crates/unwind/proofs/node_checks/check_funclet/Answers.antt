-- `check_funclet` meets its contract: at the root of a route, and at a step. Assumes nothing.
use mathlib.Core.Path.{sym, ap, ◌∙◌}
use native.Mathlib.Omega.{arith}
use lib.ListN.{set}
use Rattle.image.specs.Image.{routes_in}
use Rattle.graph.specs.Lent.{held_of}
use Rattle.graph.proofs.RecordLaws.{block_most}
use Rattle.unwind.proofs.FuncletLaws.{led_few}
use Rattle.unwind.proofs.PlaceLaws.{entry_root, entry_named}
use Rattle.unwind.proofs.NodeChecks.{led_check, led_block, funclet_root, funclet_named}
use borrow.Author.Rules.{rules}
use Rattle.unwind.proofs.node_checks.check_funclet.Goals as goal

pub returns-then-f-eq0-clause-check : goal.returns-then-f-eq0-clause-check
returns-then-f-eq0-clause-check c = let g = (held_of c.args.g.now).graph in
    let m = routes_in c.args.s.now c.args.y in
    sym (funclet_root g m c.args.f c.if-f-eq0.true)

pub returns-then-f-eq0-clause-entry : goal.returns-then-f-eq0-clause-entry
returns-then-f-eq0-clause-entry c = let g = (held_of c.args.g.now).graph in
    let m = routes_in c.args.s.now c.args.y in
    rw (entry_root g m c.args.f c.if-f-eq0.true)

pub returns-in_err-b-clause-check : goal.returns-in_err-b-clause-check
returns-in_err-b-clause-check c = let g = (held_of c.args.g.now).graph in
    let m = routes_in c.args.s.now c.args.y in
    let lead = rw c.step_of-a.ensures at (led_check g c.step_of-a.result.value c.in_err-b.ensures) in
    rw (funclet_named g m c.args.f c.if-f-eq0.false, ← lead) (search rules)

pub overflow_cast-entries : goal.overflow_cast-entries
overflow_cast-entries c = omega (arith, led_block (held_of c.args.g.now).graph c.step_of-a.result.value c.in_ok-b.ensures, led_few (held_of c.args.g.now).graph c.step_of-a.result.value, block_most c.args.g.now)

pub returns-clause-check : goal.returns-clause-check
returns-clause-check c = let g = (held_of c.args.g.now).graph in
    let m = routes_in c.args.s.now c.args.y in
    rw c.step_of-a.ensures at (led_check g c.step_of-a.result.value c.in_ok-b.ensures) ∙ sym (funclet_named g m c.args.f c.if-f-eq0.false)

pub returns-clause-entry : goal.returns-clause-entry
returns-clause-entry c = let g = (held_of c.args.g.now).graph in
    let m = routes_in c.args.s.now c.args.y in
    let led = rw c.step_of-a.ensures at (led_block g c.step_of-a.result.value c.in_ok-b.ensures) in
    ap (set c.args.entries.now c.args.i) (led ∙ sym (entry_named g m c.args.f c.if-f-eq0.false))
