-- `land` meets its contract, answer by answer. Assumes nothing.
use mathlib.Core.Path.{sym, ap, ◌∙◌}
use native.Mathlib.Omega.{arith}
use Rattle.image.specs.declared.record.Path.{Path}
use Rattle.image.specs.Image.{routes_in}
use Rattle.graph.specs.Lent.{held_of}
use Rattle.graph.proofs.RecordLaws.{block_most}
use Rattle.unwind.specs.Nodes.{path_record}
use Rattle.unwind.proofs.FuncletLaws.{led_few}
use Rattle.unwind.proofs.NodeChecks.{led_block}
use Rattle.unwind.proofs.SideLaws.{land_propagate, land_resume, land_handler}
use Rattle.unwind.proofs.sides.land.Goals as goal

pub returns-then-path-eq-PROPAGATE-clause-lands : goal.returns-then-path-eq-PROPAGATE-clause-lands
returns-then-path-eq-PROPAGATE-clause-lands c = let read = c.path_of-path.ensures in
    sym (land_propagate (held_of c.args.g.now).graph (path_record (routes_in c.args.s.now c.args.y) c.args.p) (ap (λ (x : Path). x.end) (sym read) ∙ c.if-path-eq-PROPAGATE.true))

pub returns-then-path-ne-HANDLER-clause-lands : goal.returns-then-path-ne-HANDLER-clause-lands
returns-then-path-ne-HANDLER-clause-lands c = let here = ap (λ (x : Path). x.end) c.path_of-path.ensures in
    sym (land_resume (held_of c.args.g.now).graph (path_record (routes_in c.args.s.now c.args.y) c.args.p) (λ e. c.if-path-ne-HANDLER.true (here ∙ e)) (λ e. c.if-path-eq-PROPAGATE.false (here ∙ e)))

pub returns-clause-lands : goal.returns-clause-lands
returns-clause-lands c = let g = (held_of c.args.g.now).graph in
    let p = path_record (routes_in c.args.s.now c.args.y) c.args.p in
    let read = c.path_of-path.ensures in
    let led = c.unwrap_or.ensures ∙ rw read at (led_block g c.path_of-path.result.handler c.leading_block.ensures) in
    led ∙ sym (land_handler g p (ap (λ (x : Path). x.end) (sym read) ∙ c.if-path-ne-HANDLER.false))

pub returns-clause-small : goal.returns-clause-small
returns-clause-small c = let g = (held_of c.args.g.now).graph in
    let p = path_record (routes_in c.args.s.now c.args.y) c.args.p in
    let read = c.path_of-path.ensures in
    let led = c.unwrap_or.ensures ∙ rw read at (led_block g c.path_of-path.result.handler c.leading_block.ensures) in
    omega (arith, led, led_few g p.handler, block_most c.args.g.now)
