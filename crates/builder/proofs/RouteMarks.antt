-- What the routes of an image name, told by its flat lists of paths and steps.
--     route_marks      'routes' starts, ends, entries and protected instructions'
-- Assumes nothing.
use mathlib.Core.Bool.{Bool, true, false, cond, ◌&&◌, ◌||◌, or-true, or-false, or_assoc}
use mathlib.Core.Path.{◌≡◌, refl, sym, ap, ap₂, ◌∙◌}
use mathlib.Core.List.{List, [], ◌∷◌, ◌++◌, map, zip_with}
use Prim.Native.Nat.{ℕ}
use native.Mathlib.Omega.{arith}
use lib.Dec.{eqb}
use lib.ListN.{length, get_or, take, drop, take-append-drop, length-drop}
use Rattle.image.specs.Record.{route_from, path_from, step_from}
use Rattle.image.specs.Image.{Image, RouteImage}
use Rattle.image.specs.Deal.{total, deal, UnwindStep, funclet, call, UnwindEnd, handler, propagate, resume, UnwindPath, UnwindRoute, step_of, end_of, paths_of, routes_of}
use Rattle.image.specs.Accepted.{AcceptedRoutes}
use Rattle.image.specs.declared.record.Route.{Route}
use Rattle.image.specs.declared.record.Path.{Path}
use Rattle.image.specs.declared.record.Step.{Step}
use Rattle.image.proofs.Deals.{total_front, length-deal}
use Rattle.graph.specs.Fold.{some, among}
use Rattle.graph.specs.Transfer.{address_at}
use Rattle.graph.specs.Route.{route_at, path_at, funclet_of, funclets, handler_of, entries}
use Rattle.graph.specs.Leaders.{routes, route_mark}
use Rattle.graph.proofs.FoldLaws.{some_same, some_front, some_or, among_append, among-flat}
use Rattle.graph.proofs.RouteLaws.{length_paths}
use Rattle.builder.specs.Marks.{route_range_mark, route_range, funclet_mark, path_end_mark}
use Rattle.builder.proofs.MarkLaws.{eqb_comm}

-- ---- some member of a list

any : {A : Type 0} → (A → Bool) → List A → Bool
any f [] = false
any f (a ∷ l) = f a || any f l

module _ {A : Type 0} where
  any_same : (f g : A → Bool) (l : List A) → ((a : A) → f a ≡ g a) → any f l ≡ any g l
  unfolding any
  any_same f g [] same = refl
  any_same f g (a ∷ l) same = ap₂ ◌||◌ (same a) (any_same f g l same)

  any_append : (f : A → Bool) (l k : List A) → any f (l ++ k) ≡ (any f l || any f k)
  unfolding any
  any_append f [] k = refl
  any_append f (a ∷ l) k = ap (λ (b : Bool). f a || b) (any_append f l k) ∙ sym (or_assoc (f a) (any f l) (any f k))

  any_or : (f g : A → Bool) (l : List A) → any (λ a. f a || g a) l ≡ (any f l || any g l)
  unfolding any
  any_or f g [] = refl
  any_or f g (a ∷ l) = ap (λ (b : Bool). (f a || g a) || b) (any_or f g l) ∙ middle (f a) (g a) (any f l) (any g l)
    where
      middle : (a b c d : Bool) → ((a || b) || (c || d)) ≡ ((a || c) || (b || d))
      middle true b c d = refl
      middle false true c d = sym (or-true c)
      middle false false c d = refl

  any_some : (f : A → Bool) (l : List A) (d : A) → some (λ k. f (get_or l k d)) (length l) ≡ any f l
  unfolding any some
  any_some f [] d = refl
  any_some f (a ∷ l) d = some_front (λ k. f (get_or (a ∷ l) k d)) (length l) ∙ ap (λ (b : Bool). f a || b) (any_some f l d)

  -- children that are dealt out are all there
  any_deal : {P : Type 0} (f : A → Bool) (g : P → ℕ) (d : P) (ps : List P) (xs : List A) → total (λ i. g (get_or ps i d)) (length ps) ≡ length xs → any (any f) (deal (map g ps) xs) ≡ any f xs
  unfolding any deal total
  any_deal f g d [] [] adds = refl
  any_deal f g d [] (x ∷ xs) adds = absurd (omega arith)
  any_deal f g d (p ∷ ps) xs adds =
      ap (λ (b : Bool). any f (take (g p) xs) || b) (any_deal f g d ps (drop (g p) xs) rest)
      ∙ sym (any_append f (take (g p) xs) (drop (g p) xs))
      ∙ ap (any f) (take-append-drop (g p) xs)
    where
      rest : total (λ i. g (get_or ps i d)) (length ps) ≡ length (drop (g p) xs)
      rest = rw length-drop (omega (arith, total_front (λ i. g (get_or (p ∷ ps) i d)) (length ps)))

any_map : {A B : Type 0} (f : B → Bool) (g : A → B) (l : List A) → any f (map g l) ≡ any (λ a. f (g a)) l
unfolding any
any_map f g [] = refl
any_map f g (a ∷ l) = ap (λ (b : Bool). f (g a) || b) (any_map f g l)

module _ {A B C : Type 0} (k : A → B → C) (f : C → Bool) where
  any_right : (h : B → Bool) → ((a : A) (b : B) → f (k a b) ≡ h b) → (xs : List A) (ys : List B) → length xs ≡ length ys → any f (zip_with k xs ys) ≡ any h ys
  unfolding any zip_with
  any_right h same [] [] e = refl
  any_right h same [] (y ∷ ys) e = absurd (omega arith)
  any_right h same (x ∷ xs) [] e = absurd (omega arith)
  any_right h same (x ∷ xs) (y ∷ ys) e = ap₂ ◌||◌ (same x y) (any_right h same xs ys (omega arith))

  any_left : (h : A → Bool) → ((a : A) (b : B) → f (k a b) ≡ h a) → (xs : List A) (ys : List B) → length xs ≡ length ys → any f (zip_with k xs ys) ≡ any h xs
  unfolding any zip_with
  any_left h same [] [] e = refl
  any_left h same [] (y ∷ ys) e = absurd (omega arith)
  any_left h same (x ∷ xs) [] e = absurd (omega arith)
  any_left h same (x ∷ xs) (y ∷ ys) e = ap₂ ◌||◌ (same x y) (any_left h same xs ys (omega arith))

-- ---- a, among addresses

module _ (a : ℕ) where
  -- a path, a step and an end name it
  abbrev in_funclets : UnwindPath → Bool
  in_funclets x = among (funclets x) a

  abbrev in_end : UnwindPath → Bool
  in_end x = among (handler_of x.end) a

  abbrev in_step : Step → Bool
  in_step s = among (funclet_of (step_of s)) a

  step_named : (s : Step) → in_step s ≡ (eqb s.code 0 && eqb a s.value)
  unfolding step_of among
  step_named s = go (eqb s.code 0)
    where
      go : (b : Bool) → among (funclet_of (cond b (funclet s.value) (call s.value))) a ≡ (b && eqb a s.value)
      go true = or-false (eqb s.value a) ∙ eqb_comm s.value a
      go false = refl

  end_named : (p : Path) → among (handler_of (end_of p)) a ≡ (eqb p.end 0 && eqb a p.handler)
  unfolding end_of among
  end_named p = go (eqb p.end 0) (eqb p.end 1)
    where
      go : (b c : Bool) → among (handler_of (cond b (handler p.handler) (cond c propagate resume))) a ≡ (b && eqb a p.handler)
      go true c = or-false (eqb p.handler a) ∙ eqb_comm p.handler a
      go false true = refl
      go false false = refl

  funclets_named : (steps : List Step) (end : UnwindEnd) → in_funclets (record { steps = map step_of steps; end = end }) ≡ any in_step steps
  unfolding funclets
  funclets_named steps end =
      among-flat a _ (length (map step_of steps))
      ∙ any_some (λ (u : UnwindStep). among (funclet_of u) a) (map step_of steps) (call 0)
      ∙ any_map (λ (u : UnwindStep). among (funclet_of u) a) step_of steps

  entries_named : (r : UnwindRoute) → among (entries r) a ≡ any (λ x. in_funclets x || in_end x) r.paths
  unfolding entries
  entries_named r =
      among-flat a _ (length r.paths)
      ∙ some_same _ _ (length r.paths) (λ k h. among_append a (funclets (path_at r k)) (handler_of (path_at r k).end))
      ∙ any_some (λ x. in_funclets x || in_end x) r.paths (record { steps = []; end = propagate })

  module _ (m : RouteImage) (ok : AcceptedRoutes m) where
    paths_named : any in_funclets (paths_of m) ≡ any (λ s. eqb s.code 0 && eqb a s.value) m.steps
    unfolding paths_of
    paths_named =
        any_right _ in_funclets (any in_step) (λ p s. funclets_named s (end_of p)) m.paths (deal (map (λ (p : Path). p.steps) m.paths) m.steps)
        (sym (length-deal (λ (p : Path). p.steps) (path_from [] 0) m.paths m.steps))
        ∙ any_deal in_step (λ (p : Path). p.steps) (path_from [] 0) m.paths m.steps ok.steps_add
        ∙ any_same in_step _ m.steps step_named

    ends_named : any in_end (paths_of m) ≡ any (λ p. eqb p.end 0 && eqb a p.handler) m.paths
    unfolding paths_of
    ends_named =
        any_left _ in_end (λ p. eqb p.end 0 && eqb a p.handler) (λ p s. end_named p) m.paths (deal (map (λ (p : Path). p.steps) m.paths) m.steps)
        (sym (length-deal (λ (p : Path). p.steps) (path_from [] 0) m.paths m.steps))

    routes_named : some (λ r. among (entries (route_at (routes_of m) r)) a) (length (routes_of m)) ≡ (any (λ s. eqb s.code 0 && eqb a s.value) m.steps || any (λ p. eqb p.end 0 && eqb a p.handler) m.paths)
    routes_named =
        any_some (λ r. among (entries r) a) (routes_of m) (record { start = 0; end = 0; paths = [] })
        ∙ any_same _ _ (routes_of m) entries_named
        ∙ dealt
        ∙ any_or in_funclets in_end (paths_of m)
        ∙ ap₂ ◌||◌ paths_named ends_named
      where
        dealt : any (λ r. any (λ x. in_funclets x || in_end x) r.paths) (routes_of m) ≡ any (λ x. in_funclets x || in_end x) (paths_of m)
        dealt =
            unfold routes_of in
            any_right _ _ (any (λ x. in_funclets x || in_end x)) (λ r p. refl) m.routes (deal (map (λ (r : Route). r.paths) m.routes) (paths_of m))
            (sym (length-deal (λ (r : Route). r.paths) (route_from [] 0) m.routes (paths_of m)))
            ∙ any_deal (λ x. in_funclets x || in_end x) (λ (r : Route). r.paths) (route_from [] 0) m.routes (paths_of m) (ok.paths_add ∙ sym (length_paths m))

pub route_marks : (m : Image) → AcceptedRoutes m.routes → (p : ℕ) → (route_range_mark m p || funclet_mark m p || path_end_mark m p) ≡ route_mark m p
unfolding route_mark route_range_mark funclet_mark path_end_mark routes
route_marks m ok p =
    or_assoc (route_range_mark m p) (funclet_mark m p) (path_end_mark m p)
    ∙ ap (λ (b : Bool). some (λ r. route_range m r p) (length (routes m)) || b)
    (ap₂ ◌||◌ (any_some (λ (x : Step). eqb x.code 0 && eqb (address_at m p) x.value) m.routes.steps (step_from [] 0)) (any_some (λ (x : Path). eqb x.end 0 && eqb (address_at m p) x.handler) m.routes.paths (path_from [] 0)) ∙ sym (routes_named (address_at m p) m.routes ok))
    ∙ sym (some_or (λ r. route_range m r p) (λ r. among (entries (route_at (routes m) r)) (address_at m p)) (length (routes m)))
