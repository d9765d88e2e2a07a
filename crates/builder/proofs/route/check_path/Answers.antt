-- Step by step, then the end. Assumes nothing.
use mathlib.Core.Logic.{⊎_elim}
use mathlib.Core.Path.{◌≡◌, sym, ap, ◌∙◌}
use mathlib.Core.List.{[]}
use Prim.Native.Nat.{ℕ, ◌+◌}
use native.Mathlib.Omega.{arith}
use lib.ListN.{get_or}
use Rattle.builder.specs.Code.{image_of}
use Rattle.graph.specs.Transfer.{table_of}
use Rattle.image.specs.Whole.{routes_of}
use Rattle.image.specs.Record.{path_from, step_from}
use Rattle.image.specs.Refusal.{Check, clear, checks, ◌then◌}
use Rattle.image.proofs.Checks.{checks-more, checks_stop}
use Rattle.graph.specs.Route.{steps_before}
use Rattle.builder.proofs.RouteChecks.{step_check, end_check, step_names, step_calls, end_names, end_leaves, path_entries, path_steps, path_few, path_behind}
use borrow.Author.Rules.{rules}
use Rattle.builder.proofs.route.check_path.Goals as goal

pub overflow_add-step : goal.overflow_add-step
overflow_add-step c = omega (arith, path_few (routes_of c.args.routes.now) c.args.routes.now.accepted c.args.p c.requires.p_in _ c.requires.step _ (rw c.paths.ensures at c.get-path.ensures))

pub get-x-requires : goal.get-x-requires
get-x-requires c = rw c.steps.ensures (omega (arith, path_steps (routes_of c.args.routes.now) c.args.routes.now.accepted c.args.p c.requires.p_in _ c.requires.step _ (rw c.paths.ensures at c.get-path.ensures)))

pub returns-in_err-check_entry-clause-check : goal.returns-in_err-check_entry-clause-check
returns-in_err-check_entry-clause-check c = let m = routes_of c.args.routes.now in
    let t = table_of (image_of c.args.code.now) in
    let here = rw (rw c.steps.ensures at c.get-x.ensures) at (step_names t c.get-x.result c.if-x-eq-FUNCLET.true ∙ sym c.in_err-check_entry.ensures) in
    let stop = checks_stop _ c.loop-j.j _ _ c.loop-j-test.true c.loop-j.invariant.1 here in
    let stops = rw (c.requires.step, (rw c.paths.ensures at c.get-path.ensures)) at stop in
    rw (path_entries m c.args.routes.now.accepted c.args.p c.requires.p_in t ∙ ap (λ (x : Check). x then end_check t (get_or m.paths c.args.p (path_from [] 0))) stops) (search rules)

pub loop-j-preserved : goal.loop-j-preserved
loop-j-preserved c = let t = table_of (image_of c.args.code.now) in
    let here : step_check t c.get-x.result ≡ clear =
    ⊎_elim (λ w. step_names t c.get-x.result w.if-x-eq-FUNCLET.true ∙ sym w.in_ok-check_entry.ensures) (λ w. step_calls t c.get-x.result w.if-x-eq-FUNCLET.false) c.if-x-eq-FUNCLET.branch-raw in
    (search rules, checks-more _ c.loop-j.j c.loop-j.invariant.1 ∙ (rw (rw c.steps.ensures at c.get-x.ensures) at here))

pub returns-in_err-check_entry-2-clause-check : goal.returns-in_err-check_entry-2-clause-check
returns-in_err-check_entry-2-clause-check c = let m = routes_of c.args.routes.now in
    let all : c.loop-j.j ≡ c.get-path.result.steps = omega arith in
    let passed : checks (λ (i : ℕ). step_check (table_of (image_of c.args.code.now)) (get_or m.steps (steps_before m c.args.p + i) (step_from [] 0))) (get_or m.paths c.args.p (path_from [] 0)).steps ≡ clear =
    rw (all, c.requires.step, (rw c.paths.ensures at c.get-path.ensures)) at c.loop-j.invariant.1 in
    let t = table_of (image_of c.args.code.now) in
    let here = rw (rw c.paths.ensures at c.get-path.ensures) at (end_names t c.get-path.result c.if-path-eq-HANDLER.true ∙ sym c.in_err-check_entry-2.ensures) in
    rw (path_entries m c.args.routes.now.accepted c.args.p c.requires.p_in t ∙ ap (λ (x : Check). x then end_check t (get_or m.paths c.args.p (path_from [] 0))) passed ∙ here) (search rules)

pub overflow_add-result : goal.overflow_add-result
overflow_add-result c = omega (arith, path_few (routes_of c.args.routes.now) c.args.routes.now.accepted c.args.p c.requires.p_in _ c.requires.step _ (rw c.paths.ensures at c.get-path.ensures))

pub returns-clause-check : goal.returns-clause-check
returns-clause-check c = let m = routes_of c.args.routes.now in
    let all : c.loop-j.j ≡ c.get-path.result.steps = omega arith in
    let passed : checks (λ (i : ℕ). step_check (table_of (image_of c.args.code.now)) (get_or m.steps (steps_before m c.args.p + i) (step_from [] 0))) (get_or m.paths c.args.p (path_from [] 0)).steps ≡ clear =
    rw (all, c.requires.step, (rw c.paths.ensures at c.get-path.ensures)) at c.loop-j.invariant.1 in
    let t = table_of (image_of c.args.code.now) in
    let here : end_check t c.get-path.result ≡ clear =
    ⊎_elim (λ w. end_names t c.get-path.result w.if-path-eq-HANDLER.true ∙ sym w.in_ok-check_entry-2.ensures) (λ w. end_leaves t c.get-path.result w.if-path-eq-HANDLER.false) c.if-path-eq-HANDLER.branch-raw in
    sym (path_entries m c.args.routes.now.accepted c.args.p c.requires.p_in t ∙ ap (λ (x : Check). x then end_check t (get_or m.paths c.args.p (path_from [] 0))) passed ∙ (rw (rw c.paths.ensures at c.get-path.ensures) at here))

pub returns-clause-next : goal.returns-clause-next
returns-clause-next c = path_behind (routes_of c.args.routes.now) c.args.routes.now.accepted c.args.p c.requires.p_in _ c.requires.step _ (rw c.paths.ensures at c.get-path.ensures)
