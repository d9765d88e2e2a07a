-- Children dealt to their parents in order: an instruction's cases, a given source's edges, a route's paths, a path's steps.
use Rattle.std.specs.Prelude.{cond, ℕ, zero, suc, ◌+◌, eqb, take, drop}
use mathlib.Core.List.{List, [], ◌∷◌, map, zip_with}
use Rattle.image.specs.Image.{Image, RouteImage}
use Rattle.image.specs.declared.record.Case.{Case}
use Rattle.image.specs.declared.record.GivenEdge.{GivenEdge}
use Rattle.image.specs.declared.record.Route.{Route}
use Rattle.image.specs.declared.record.Path.{Path}
use Rattle.image.specs.declared.record.Step.{Step}

-- f 0 + f 1 + .. below n
unfoldable pub total : (ℕ → ℕ) → ℕ → ℕ
total f zero = zero
total f (suc n) = total f n + f n

-- the children of each parent, by their counts
unfoldable pub deal : {A : Type 0} → List ℕ → List A → List (List A)
deal [] xs = []
deal (n ∷ ns) xs = take n xs ∷ deal ns (drop n xs)

-- the cases of each instruction, and the edges of each given source
unfoldable pub cases_of : Image → List (List Case)
cases_of m = deal (map (λ i. i.cases) m.instructions) m.cases

unfoldable pub given_of : Image → List (List GivenEdge)
given_of m = deal (map (λ s. s.edges) m.sources) m.edges

-- The routes as the Rust has them: UnwindStep, UnwindEnd, UnwindPath and UnwindRoute.
pub data UnwindStep : Type 0 where
  funclet : ℕ → UnwindStep
  call : ℕ → UnwindStep

pub data UnwindEnd : Type 0 where
  handler : ℕ → UnwindEnd
  propagate : UnwindEnd
  resume : UnwindEnd

pub record UnwindPath : Type 0 where
  pub steps : List UnwindStep
  pub end : UnwindEnd

pub record UnwindRoute : Type 0 where
  pub start : ℕ
  pub end : ℕ
  pub paths : List UnwindPath

-- 'path end and step code count from 0 in their enums' order'
unfoldable pub step_of : Step → UnwindStep
step_of s = cond (eqb s.code 0) (funclet s.value) (call s.value)

unfoldable pub end_of : Path → UnwindEnd
end_of p = cond (eqb p.end 0) (handler p.handler) (cond (eqb p.end 1) propagate resume)

unfoldable pub paths_of : RouteImage → List UnwindPath
paths_of m =
    zip_with (λ (p : Path) (s : List Step). record { steps = map step_of s; end = end_of p }) m.paths
    (deal (map (λ p. p.steps) m.paths) m.steps)

unfoldable pub routes_of : RouteImage → List UnwindRoute
routes_of m =
    zip_with (λ (r : Route) (p : List UnwindPath). record { start = r.start; end = r.end; paths = p }) m.routes
    (deal (map (λ r. r.paths) m.routes) (paths_of m))
