-- The routes of an image, taken from the flat lists of paths and steps. `AcceptedRoutes` says that the counts add up.
--     route, path, step                         the records as they stand in the image
--     length-routes, route_is                   how many, and the route at r, with a run of the paths; length_paths
--     paths_of_law, path_of, paths_in               its paths: how many, which, and that they stand among all
--     path_is, end_of_law                           a path, and its end
--     steps_of, step_of_law, steps_in_law               its steps: how many, which, and that they stand among all
--     paths_next, steps_next                    where the children of the next one start
--     resumes_late_law, path_resumes, path_goes_on  15, path by path and step by step
-- Assumes nothing.
use mathlib.Core.Bool.{Bool, true, false, cond, ◌||◌}
use mathlib.Core.Path.{◌≡◌, refl, sym, ap, ◌∙◌}
use mathlib.Core.List.{List, [], ◌∷◌, ◌++◌, map}
use Prim.Native.Nat.{ℕ, zero, suc, ◌+◌, ◌<◌, ◌≤◌}
use native.Mathlib.Numerals.{add-one}
use native.Mathlib.Decide.{ℕ_discrete}
use native.Mathlib.Omega.{arith}
use borrow.Author.Tests.{eq-eqb, ne_eqb}
use lib.Dec.{eqb}
use lib.ListN.{length, get_or, length-map}
use Rattle.image.specs.Record.{route_from, path_from, step_from}
use Rattle.image.specs.Image.{RouteImage}
use Rattle.image.specs.Deal.{total, deal, UnwindStep, funclet, call, resume, UnwindPath, UnwindRoute, step_of, end_of, paths_of, routes_of}
use Rattle.image.specs.Accepted.{AcceptedRoutes}
use Rattle.image.specs.declared.record.Route.{Route}
use Rattle.image.specs.declared.record.Path.{Path}
use Rattle.image.specs.declared.record.Step.{Step}
use Rattle.image.proofs.Deals.{length-zip, zip_at, length-deal, dealt_at, dealt_in, length_dealt}
use Rattle.graph.specs.Fold.{flat, some}
use Rattle.graph.specs.Route.{route_at, path_at, funclet_of, funclets, resumes_after, resumes_late, paths_before, steps_before, path_in}
use Rattle.graph.proofs.FoldLaws.{some_same}

map_at : {A B : Type 0} (f : A → B) (l : List A) (i : ℕ) (a : A) (b : B) → i < length l → get_or (map f l) i b ≡ f (get_or l i a)
map_at f [] i a b h = absurd (omega arith)
map_at f (x ∷ l) zero a b h = refl
map_at f (x ∷ l) (suc i) a b h = map_at f l i a b (omega arith)

-- 15 of one path
abbrev pub resumes_in : RouteImage → ℕ → Bool
resumes_in m p = resumes_after (funclets (path_in m p)) (path_in m p).end

-- whether a list of steps enters a funclet, step by step
enters_append : (l k : List ℕ) → resumes_after (l ++ k) resume ≡ (resumes_after l resume || resumes_after k resume)
enters_append [] k = refl
enters_append (a ∷ l) k = refl

enters_some : (g : ℕ → List ℕ) (n : ℕ) → resumes_after (flat g n) resume ≡ some (λ (j : ℕ). resumes_after (g j) resume) n
unfolding flat some
enters_some g zero = refl
enters_some g (suc n) = enters_append (flat g n) (g n) ∙ ap (λ (b : Bool). b || resumes_after (g n) resume) (enters_some g n)

enters : (s : Step) → resumes_after (funclet_of (step_of s)) resume ≡ eqb s.code 0
unfolding step_of
enters s = go (eqb s.code 0)
  where
    go : (b : Bool) → resumes_after (funclet_of (cond b (funclet s.value) (call s.value))) resume ≡ b
    go true = refl
    go false = refl

goes_on : (p : Path) (l : List ℕ) → p.end ≤ 2 → (p.end ≡ 2 → ⊥) → resumes_after l (end_of p) ≡ false
unfolding end_of
goes_on p l most other =
    elim (ℕ_discrete p.end 0) [
      | yes e ↦ rw (eq-eqb p.end 0 e)
      | no a ↦ elim (ℕ_discrete p.end 1) [ yes e ↦ rw (ne_eqb p.end 0 a, eq-eqb p.end 1 e) | no b ↦ absurd (other (omega arith)) ]
    ]

module _ (m : RouteImage) where
  -- the records as they stand in the image, and the children dealt to them
  abbrev pub route : ℕ → Route
  route r = get_or m.routes r (route_from [] 0)

  abbrev pub path : ℕ → Path
  path p = get_or m.paths p (path_from [] 0)

  abbrev pub step : ℕ → Step
  step j = get_or m.steps j (step_from [] 0)

  abbrev dealt_paths : List (List UnwindPath)
  dealt_paths = deal (map (λ (r : Route). r.paths) m.routes) (paths_of m)

  abbrev dealt_steps : List (List Step)
  dealt_steps = deal (map (λ (p : Path). p.steps) m.paths) m.steps

  pub length-routes : length (routes_of m) ≡ length m.routes
  unfolding routes_of
  length-routes = length-zip _ m.routes dealt_paths (sym (length-deal (λ (r : Route). r.paths) (route_from [] 0) m.routes (paths_of m)))

  pub length_paths : length (paths_of m) ≡ length m.paths
  unfolding paths_of
  length_paths = length-zip _ m.paths dealt_steps (sym (length-deal (λ (p : Path). p.steps) (path_from [] 0) m.paths m.steps))

  pub route_is : (r : ℕ) → r < length m.routes → route_at (routes_of m) r ≡ record { start = (route r).start; end = (route r).end; paths = get_or dealt_paths r [] }
  unfolding routes_of
  route_is r h = zip_at _ m.routes dealt_paths r (route_from [] 0) [] _ h (rw (length-deal (λ (r : Route). r.paths) (route_from [] 0) m.routes (paths_of m)) h)

  pub path_is : (p : ℕ) → p < length m.paths → path_in m p ≡ record { steps = map step_of (get_or dealt_steps p []); end = end_of (path p) }
  unfolding paths_of
  path_is p h = zip_at _ m.paths dealt_steps p (path_from [] 0) [] _ h (rw (length-deal (λ (p : Path). p.steps) (path_from [] 0) m.paths m.steps) h)

  pub paths_next : (r : ℕ) → paths_before m (r + 1) ≡ paths_before m r + (route r).paths
  unfolding paths_before total
  paths_next r = rw add-one

  pub steps_next : (p : ℕ) → steps_before m (p + 1) ≡ steps_before m p + (path p).steps
  unfolding steps_before total
  steps_next p = rw add-one

  module _ (ok : AcceptedRoutes m) where
    module _ (r : ℕ) (h : r < length m.routes) where
      adds : total (λ q. (get_or m.routes q (route_from [] 0)).paths) (length m.routes) ≡ length (paths_of m)
      adds = ok.paths_add ∙ sym length_paths

      pub paths_of_law : length (route_at (routes_of m) r).paths ≡ (route r).paths
      paths_of_law =
          ap (λ (x : UnwindRoute). length x.paths) (route_is r h)
          ∙ length_dealt (λ (r : Route). r.paths) (route_from [] 0) refl m.routes (paths_of m) adds r h

      pub path_of : (k : ℕ) → k < (route r).paths → path_at (route_at (routes_of m) r) k ≡ path_in m (paths_before m r + k)
      unfolding paths_before
      path_of k hk =
          ap (λ (x : UnwindRoute). path_at x k) (route_is r h)
          ∙ dealt_at (λ (r : Route). r.paths) (route_from [] 0) refl m.routes (paths_of m) r k _ hk

      pub paths_in : paths_before m r + (route r).paths ≤ length m.paths
      unfolding paths_before
      paths_in = rw (sym length_paths) (dealt_in (λ (r : Route). r.paths) (route_from [] 0) refl m.routes (paths_of m) adds r h)

      pub resumes_late_law : resumes_late (route_at (routes_of m) r) ≡ some (λ (k : ℕ). resumes_in m (paths_before m r + k)) (route r).paths
      unfolding resumes_late
      resumes_late_law = rw paths_of_law (some_same _ _ (route r).paths (λ k hk. ap (λ (x : UnwindPath). resumes_after (funclets x) x.end) (path_of k hk)))

    module _ (p : ℕ) (h : p < length m.paths) where
      dealt : length (get_or dealt_steps p []) ≡ (path p).steps
      dealt = length_dealt (λ (p : Path). p.steps) (path_from [] 0) refl m.paths m.steps ok.steps_add p h

      pub steps_of : length (path_in m p).steps ≡ (path p).steps
      steps_of = ap (λ (x : UnwindPath). length x.steps) (path_is p h) ∙ length-map (get_or dealt_steps p []) step_of ∙ dealt

      pub step_of_law : (j : ℕ) → j < (path p).steps → get_or (path_in m p).steps j (call 0) ≡ step_of (step (steps_before m p + j))
      unfolding steps_before
      step_of_law j hj =
          ap (λ (x : UnwindPath). get_or x.steps j (call 0)) (path_is p h)
          ∙ map_at step_of (get_or dealt_steps p []) j (step_from [] 0) (call 0) (rw dealt hj)
          ∙ ap step_of (dealt_at (λ (p : Path). p.steps) (path_from [] 0) refl m.paths m.steps p j (step_from [] 0) hj)

      pub steps_in_law : steps_before m p + (path p).steps ≤ length m.steps
      unfolding steps_before
      steps_in_law = dealt_in (λ (p : Path). p.steps) (path_from [] 0) refl m.paths m.steps ok.steps_add p h

      pub end_of_law : (path_in m p).end ≡ end_of (path p)
      end_of_law = ap (λ (x : UnwindPath). x.end) (path_is p h)

      -- Resume after any funclet, and any other end
      pub path_resumes : (path p).end ≡ 2 → resumes_in m p ≡ some (λ (j : ℕ). eqb (step (steps_before m p + j)).code 0) (path p).steps
      unfolding funclets end_of step_of
      path_resumes e =
          rw (end_of_law, e, steps_of)
          (enters_some _ (path p).steps
          ∙ some_same _ _ (path p).steps (λ j hj. ap (λ (x : UnwindStep). resumes_after (funclet_of x) resume) (step_of_law j hj) ∙ enters (step (steps_before m p + j))))

      pub path_goes_on : ((path p).end ≡ 2 → ⊥) → resumes_in m p ≡ false
      unfolding end_of
      path_goes_on other = rw end_of_law (goes_on (path p) (funclets (path_in m p)) (ok.ends p) other)
