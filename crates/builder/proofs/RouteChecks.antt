-- The checks of routes, as the code makes them: 10 to 12, 15 and 14.
--     route_check_law                path by path
--     path_entries               14 of a path, step by step
--     step_check, step_names, step_calls     14 of a step
--     end_check, end_names, end_leaves       14 of an end
--     path_steps, path_few, path_behind      where the steps of a path that was read end
-- Assumes nothing.
use mathlib.Core.Bool.{Bool, true, false, cond, not}
use mathlib.Core.Path.{◌≡◌, refl, ap, ◌∙◌}
use mathlib.Core.List.{List}
use Prim.Native.Nat.{ℕ, ◌+◌, ◌<◌}
use borrow.Author.Tests.{eq-eqb, ne_eqb}
use lib.Dec.{eqb}
use lib.ListN.{length}
use Rattle.image.specs.Image.{RouteImage}
use Rattle.image.specs.Refusal.{Check, clear, refused, refusal, ◌then◌, unless}
use Rattle.image.specs.Deal.{UnwindStep, propagate, resume, UnwindRoute, step_of, end_of, routes_of}
use Rattle.image.specs.Accepted.{AcceptedRoutes}
use Rattle.image.specs.declared.record.Path.{Path}
use Rattle.image.specs.declared.record.Step.{Step}
use Rattle.graph.specs.declared.record.TableEntry.{TableEntry}
use Rattle.graph.specs.Fold.{checks, check_each}
use Rattle.graph.specs.Table.{range_check}
use Rattle.graph.specs.Route.{route_at, funclet_of, funclets, resumes_late, handler_of, entries, route_check, paths_before, steps_before, path_in}
use Rattle.graph.proofs.CheckLaws.{checks-same, each_append, each_flat}
use Rattle.graph.proofs.RouteLaws.{route, path, step, route_is, paths_of_law, path_of, steps_of, step_of_law, end_of_law}
use Rattle.builder.specs.Ranges.{named_check, path_check}
use mathlib.Core.List.{[]}
use Prim.Native.Nat.{◌≤◌}
use native.Mathlib.Omega.{arith}
use lib.ListN.{get_or}
use Rattle.image.specs.Record.{path_from}
use Rattle.graph.proofs.RouteLaws.{steps_in_law, steps_next}

-- 14 of one step, and of a path's end
abbrev pub step_check : List TableEntry → Step → Check
step_check t s = check_each (named_check t) (funclet_of (step_of s))

abbrev pub end_check : List TableEntry → Path → Check
end_check t p = check_each (named_check t) (handler_of (end_of p))

then_clear : (c : Check) → (c then clear) ≡ c
then_clear clear = refl
then_clear (refused r) = refl

module _ (t : List TableEntry) where
  pub step_names : (s : Step) → s.code ≡ 0 → step_check t s ≡ named_check t s.value
  unfolding step_of check_each
  step_names s e = rw (eq-eqb s.code 0 e) (then_clear (named_check t s.value))

  pub step_calls : (s : Step) → (s.code ≡ 0 → ⊥) → step_check t s ≡ clear
  unfolding step_of check_each
  step_calls s other = rw (ne_eqb s.code 0 other)

  pub end_names : (p : Path) → p.end ≡ 0 → end_check t p ≡ named_check t p.handler
  unfolding end_of check_each
  end_names p e = rw (eq-eqb p.end 0 e) (then_clear (named_check t p.handler))

  pub end_leaves : (p : Path) → (p.end ≡ 0 → ⊥) → end_check t p ≡ clear
  unfolding end_of check_each
  end_leaves p other = rw (ne_eqb p.end 0 other) (go (eqb p.end 1))
    where
      go : (b : Bool) → check_each (named_check t) (handler_of (cond b propagate resume)) ≡ clear
      go true = refl
      go false = refl

module _ (m : RouteImage) (ok : AcceptedRoutes m) where
  module _ (r : ℕ) (h : r < length m.routes) (t : List TableEntry) where
    entries_of_law : check_each (named_check t) (entries (route_at (routes_of m) r)) ≡ checks (λ (k : ℕ). path_check t (path_in m (paths_before m r + k))) (route m r).paths
    unfolding entries
    entries_of_law = each_flat _ _ _ ∙ rw (paths_of_law m ok r h) (checks-same _ _ (route m r).paths (λ k hk. ap (path_check t) (path_of m ok r h k hk)))

    pub route_check_law : route_check t (routes_of m) r ≡ (range_check t (route m r).start (route m r).end then unless (not (resumes_late (route_at (routes_of m) r))) (refusal 15 r 0) then checks (λ (k : ℕ). path_check t (path_in m (paths_before m r + k))) (route m r).paths)
    unfolding route_check
    route_check_law = rw (ap (λ (x : UnwindRoute). x.start) (route_is m r h), ap (λ (x : UnwindRoute). x.end) (route_is m r h), entries_of_law)

  pub path_entries : (p : ℕ) → p < length m.paths → (t : List TableEntry) → path_check t (path_in m p) ≡ (checks (λ (j : ℕ). step_check t (step m (steps_before m p + j))) (path m p).steps then end_check t (path m p))
  unfolding funclets
  path_entries p h t =
      each_append _ (funclets (path_in m p)) (handler_of (path_in m p).end)
      ∙ rw (end_of_law m ok p h, each_flat, steps_of m ok p h) (ap (λ (c : Check). c then end_check t (path m p)) (checks-same _ _ (path m p).steps (λ j hj. ap (λ (x : UnwindStep). check_each (named_check t) (funclet_of x)) (step_of_law m ok p h j hj))))

module _ (m : RouteImage) (ok : AcceptedRoutes m) (p : ℕ) (among : p < length m.paths) (step : ℕ) (here : step ≡ steps_before m p) (x : Path) (is : x ≡ get_or m.paths p (path_from [] 0)) where
  pub path_steps : step + x.steps ≤ length m.steps
  path_steps = omega (arith, steps_in_law m ok p among, here, ap (λ (x : Path). x.steps) is)

  pub path_few : step + x.steps ≤ 512
  path_few = omega (arith, path_steps, ok.steps_most)

  pub path_behind : step + x.steps ≡ steps_before m (p + 1)
  path_behind = omega (arith, steps_next m p, here, ap (λ (x : Path). x.steps) is)
