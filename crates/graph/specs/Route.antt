-- Routes: what they name, and which are refused. `route.rs`.
use Rattle.std.specs.Prelude.{Bool, true, false, not, ◌≡◌, List, [], ◌∷◌, ◌++◌, ℕ, ◌<◌, length, get_or}
use Rattle.image.specs.Record.{route_from, path_from}
use Rattle.image.specs.Image.{RouteImage}
use Rattle.image.specs.Deal.{total, UnwindStep, funclet, call, UnwindEnd, handler, propagate, resume, UnwindPath, UnwindRoute, paths_of}
use Rattle.image.specs.Accepted.{AcceptedRoutes}
use Rattle.image.specs.Refusal.{Check, refusal, ◌then◌, unless}
use Rattle.graph.specs.declared.record.TableEntry.{TableEntry}
use Rattle.graph.specs.Fold.{flat, some, check_each}
use Rattle.graph.specs.Table.{is_start, range_check}

abbrev pub route_at : List UnwindRoute → ℕ → UnwindRoute
route_at rs r = get_or rs r (record { start = 0; end = 0; paths = [] })

abbrev pub path_at : UnwindRoute → ℕ → UnwindPath
path_at r k = get_or r.paths k (record { steps = []; end = propagate })

-- the funclets that a path enters, in order
abbrev pub funclet_of : UnwindStep → List ℕ
funclet_of (funclet a) = a ∷ []
funclet_of (call t) = []

unfoldable pub funclets : UnwindPath → List ℕ
funclets p = flat (λ j. funclet_of (get_or p.steps j (call 0))) (length p.steps)

-- 'Resume after any funclet step gives 15, also with calls between.'
abbrev pub resumes_after : List ℕ → UnwindEnd → Bool
resumes_after l (handler a) = false
resumes_after l propagate = false
resumes_after [] resume = false
resumes_after (f ∷ l) resume = true

unfoldable pub resumes_late : UnwindRoute → Bool
resumes_late r = some (λ k. resumes_after (funclets (path_at r k)) (path_at r k).end) (length r.paths)

-- its entries: path by path, the funclets and then the handler
abbrev pub handler_of : UnwindEnd → List ℕ
handler_of (handler a) = a ∷ []
handler_of propagate = []
handler_of resume = []

unfoldable pub entries : UnwindRoute → List ℕ
entries r = flat (λ k. funclets (path_at r k) ++ handler_of (path_at r k).end) (length r.paths)

-- 'Per route: 10 to 12, 15 ResumeAfterFunclet (route), 14 MissingRouteEntry.'
unfoldable pub route_check : List TableEntry → List UnwindRoute → ℕ → Check
route_check t rs r =
    range_check t (route_at rs r).start (route_at rs r).end
    then unless (not (resumes_late (route_at rs r))) (refusal 15 r 0)
    then check_each (λ a. unless (is_start t a) (refusal 14 a 0)) (entries (route_at rs r))

-- Where the children of a route stand: how many paths come before its own, and how many steps before those of a path.
unfoldable pub paths_before : RouteImage → ℕ → ℕ
paths_before m r = total (λ q. (get_or m.routes q (route_from [] 0)).paths) r

unfoldable pub steps_before : RouteImage → ℕ → ℕ
steps_before m p = total (λ q. (get_or m.paths q (path_from [] 0)).steps) p

-- the path at a place among all
abbrev pub path_in : RouteImage → ℕ → UnwindPath
path_in m p = get_or (paths_of m) p (record { steps = []; end = propagate })

-- the paths of route r start at `path` among all, and their steps at `step`
abbrev pub Placed : RouteImage → ℕ → ℕ → ℕ → Type 0
Placed m r path step = AcceptedRoutes m × (r < length m.routes) × (path ≡ paths_before m r) × (step ≡ steps_before m path)
