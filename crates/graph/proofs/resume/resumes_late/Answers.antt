use mathlib.Core.Path.{◌≡◌, refl, sym, ap, ◌∙◌}
use mathlib.Core.List.{[]}
use Prim.Native.Nat.{◌+◌, ◌<◌}
use native.Mathlib.Omega.{arith}
use borrow.Author.Tests.{eq-eqb, ne_eqb}
use lib.ListN.{length, get_or}
use Rattle.image.specs.Record.{route_from, path_from, step_from}
use Rattle.image.specs.Image.{routes_in}
use Rattle.image.specs.declared.record.Route.{Route}
use Rattle.image.specs.declared.record.Path.{Path}
use Rattle.image.specs.declared.record.Step.{Step}
use Rattle.image.proofs.Tables.{length-records}
use Rattle.graph.specs.Fold.{some}
use Rattle.graph.specs.Route.{steps_before}
use Rattle.graph.proofs.FoldLaws.{some_more, some_at}
use Rattle.graph.proofs.RouteLaws.{paths_in, steps_in_law, steps_next, resumes_late_law, path_resumes, path_goes_on}
use Rattle.graph.proofs.resume.resumes_late.Goals as goal
use Rattle.graph.proofs.resume.resumes_late.Goals.{then-p-eq-RESUME+else-loop-j-test, else-p-eq-RESUME}

pub route_in-n-requires : goal.route_in-n-requires
route_in-n-requires c = (c.requires.1.routes_there, omega (arith, length-records route_from c.args.s.now c.args.y.routes))

pub paths-init : goal.paths-init
unfolding some
paths-init c = let (ok, there, here, first) = c.requires.0 in
    let m = routes_in c.args.s.now c.args.y in
    let start : c.args.path ≡ c.args.path + 0 = omega arith in
    record {
      among = omega (arith, paths_in m ok c.args.r there, ap (λ (x : Route). x.paths) c.route_in-n.ensures);
      next = first ∙ ap (steps_before m) start;
      none = refl;
      passed = refl;
    }

pub path_in-p-requires : goal.path_in-p-requires
path_in-p-requires c = (c.requires.1.paths_there, omega (arith, length-records path_from c.args.s.now c.args.y.paths))

pub overflow_add-next : goal.overflow_add-next
overflow_add-next c = let ok = c.requires.0.0 in
    omega (arith, steps_in_law (routes_in c.args.s.now c.args.y) ok (c.args.path + c.paths.k) (omega arith), ap (λ (x : Path). x.steps) c.path_in-p.ensures, ok.steps_most)

pub loop-j-init : goal.loop-j-init
unfolding some
loop-j-init c =
    record {
      among = omega (arith, steps_in_law (routes_in c.args.s.now c.args.y) c.requires.0.0 (c.args.path + c.paths.k) (omega arith), ap (λ (x : Path). x.steps) c.path_in-p.ensures);
      none = c.paths.invariant.none;
      passed = refl;
    }

pub step_in-requires : goal.step_in-requires
step_in-requires c = (c.requires.1.steps_there, omega (arith, length-records step_from c.args.s.now c.args.y.steps))

pub loop-j-preserved : goal.loop-j-preserved
loop-j-preserved c =
    record {
      among = c.loop-j.invariant.among;
      none = c.loop-j.invariant.none;
      passed = some_more _ c.loop-j.j c.loop-j.invariant.passed (ne_eqb _ _ (λ e. c.if-step_in-eq-FUNCLET.false (ap (λ (x : Step). x.code) c.step_in.ensures ∙ e)));
    }

pub paths-preserved : goal.paths-preserved
paths-preserved c = let m = routes_in c.args.s.now c.args.y in
    let p = c.args.path + c.paths.k in
    let ok = c.requires.0.0 in
    let within : p < length m.paths = omega arith in
    let read = c.path_in-p.ensures in
    let steps = ap (λ (x : Path). x.steps) read in
    let more : c.args.path + (c.paths.k + 1) ≡ p + 1 = omega arith in
    let next : c.paths.next + c.path_in-p.result.steps ≡ steps_before m (c.args.path + (c.paths.k + 1)) = omega (arith, ap (steps_before m) more, steps_next m p, steps) in
    elim c.if-p-eq-RESUME.branch [
      | then-p-eq-RESUME+else-loop-j-test w ↦
          let all : w.loop-j.j ≡ (get_or m.paths p (path_from [] 0)).steps = omega arith in
          record {
            among = c.paths.invariant.among;
            next = next;
            none = w.found-is ∙ w.loop-j.invariant.none;
            passed = some_more _ c.paths.k c.paths.invariant.passed (path_resumes m ok p within (ap (λ (x : Path). x.end) (sym read) ∙ w.if-p-eq-RESUME.true) ∙ (rw (c.paths.invariant.next, all) at w.loop-j.invariant.passed));
          }
      | else-p-eq-RESUME w ↦
          record {
            among = c.paths.invariant.among;
            next = next;
            none = w.found-is ∙ c.paths.invariant.none;
            passed = some_more _ c.paths.k c.paths.invariant.passed (path_goes_on m ok p within (λ e. w.if-p-eq-RESUME.false (ap (λ (x : Path). x.end) read ∙ e)));
          }
    ]

pub returns-after-paths : goal.returns-after-paths
returns-after-paths c = let p = c.requires.0 in
    let m = routes_in c.args.s.now c.args.y in
    let all : c.paths.k ≡ (get_or m.routes c.args.r (route_from [] 0)).paths = omega (arith, ap (λ (x : Route). x.paths) c.route_in-n.ensures) in
    c.paths.invariant.none ∙ sym (resumes_late_law m p.0 c.args.r p.1 ∙ (rw (all, p.2) at c.paths.invariant.passed))

pub returns-then-step_in-eq-FUNCLET : goal.returns-then-step_in-eq-FUNCLET
returns-then-step_in-eq-FUNCLET c = let p = c.requires.0 in
    let m = routes_in c.args.s.now c.args.y in
    let within : c.args.path + c.paths.k < length m.paths = omega arith in
    let read = c.path_in-p.ensures in
    let ends = ap (λ (x : Path). x.end) (sym read) ∙ c.if-p-eq-RESUME.true in
    let enters = rw c.paths.invariant.next at (ap (λ (x : Step). x.code) (sym c.step_in.ensures) ∙ c.if-step_in-eq-FUNCLET.true) in
    let late = path_resumes m p.0 (c.args.path + c.paths.k) within ends ∙ some_at _ _ c.loop-j.j (omega (arith, ap (λ (x : Path). x.steps) read)) (eq-eqb _ _ enters) in
    sym (resumes_late_law m p.0 c.args.r p.1 ∙ some_at _ _ c.paths.k (omega (arith, ap (λ (x : Route). x.paths) c.route_in-n.ensures)) (rw p.2 at late))
