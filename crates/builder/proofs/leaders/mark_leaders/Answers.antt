use mathlib.Core.Bool.{◌||◌}
use mathlib.Core.Path.{◌≡◌, refl, sym, ap, ◌∙◌}
use lib.ListN.{length}
use Rattle.image.specs.Image.{RouteImage}
use Rattle.builder.specs.Code.{image_of}
use Rattle.graph.specs.Transfer.{size}
use Rattle.graph.specs.Leaders.{entry_mark}
use Rattle.builder.specs.declared.cursor.Cursor.{Cursor}
use Rattle.builder.specs.Marks.{Marked, visit_mark, instruction_mark}
use Rattle.builder.proofs.MarkLaws.{marks_none, marks_more, mark_then, any_routes, no_handlers, no_routes, leads}
use Rattle.builder.proofs.FlowLaws.{visits_all}
use native.Mathlib.Omega.{arith}
use borrow.Author.Rules.{rules}
use Rattle.builder.proofs.leaders.mark_leaders.Goals as goal

pub loop-q-init : goal.loop-q-init
loop-q-init c = (search rules, c.cursor_start-c.ensures _, marks_none (visit_mark _))

pub mark_visit-c-requires-clause-routed : goal.mark_visit-c-requires-clause-routed
mark_visit-c-requires-clause-routed c =
    let count = c.len-routes.ensures ∙ ap length (c.routes-2.ensures ∙ ap (λ (r : RouteImage). r.routes) c.routes.ensures) in
    rw (any_routes (image_of c.args.checked.now.code), ← count)

pub loop-q-preserved : goal.loop-q-preserved
loop-q-preserved c = let at = ap (λ (x : Cursor). x.at) c.loop-q.invariant.1 in
    let visited = rw at at c.mark_visit-c.ensures in
    (search rules, visited.next, marks_more (visit_mark _) c.loop-q.q c.loop-q.invariant.2 visited.marked)

pub returns-then-routes-eq0 : goal.returns-then-routes-eq0
returns-then-routes-eq0 c =
    let coded : Marked (size (image_of c.args.checked.now.code)) (λ p. entry_mark (image_of c.args.checked.now.code) p || instruction_mark (image_of c.args.checked.now.code) p) c.args.marks c.loop-q.marks = let m = image_of c.args.checked.now.code in
    let all : c.loop-q.q ≡ size m = omega (arith, c.size-n.ensures) in
    mark_then c.mark_entry.ensures (visits_all m c.loop-q.q all refl c.loop-q.invariant.2) in
    leads (image_of c.args.checked.now.code) (coded) (mark_then (no_handlers (image_of c.args.checked.now.code) (sym c.handler_count.ensures ∙ c.if-handler_count-eq0.true)) (no_routes (image_of c.args.checked.now.code) (sym (c.len-routes.ensures ∙ ap length (c.routes-2.ensures ∙ ap (λ (r : RouteImage). r.routes) c.routes.ensures)) ∙ c.if-routes-eq0.true)))

pub returns : goal.returns
returns c =
    let coded : Marked (size (image_of c.args.checked.now.code)) (λ p. entry_mark (image_of c.args.checked.now.code) p || instruction_mark (image_of c.args.checked.now.code) p) c.args.marks c.loop-q.marks = let m = image_of c.args.checked.now.code in
    let all : c.loop-q.q ≡ size m = omega (arith, c.size-n.ensures) in
    mark_then c.mark_entry.ensures (visits_all m c.loop-q.q all refl c.loop-q.invariant.2) in
    leads _ (coded) c.mark_ranges.ensures
