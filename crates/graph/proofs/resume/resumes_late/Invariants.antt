-- The outer invariant: the paths are among all, no path passed resumes late, and `next` is where the next one's steps start; the
-- inner: the steps are among all, and no step passed of this path is a funclet. Assumes nothing.
use mathlib.Core.Bool.{false}
use mathlib.Core.Path.{◌≡◌}
use mathlib.Core.List.{[]}
use Prim.Native.Nat.{ℕ, ◌+◌, ◌≤◌}
use lib.Dec.{eqb}
use lib.ListN.{length, get_or}
use Rattle.image.specs.Record.{path_from, step_from}
use Rattle.image.specs.Image.{records_in, routes_in}
use Rattle.graph.specs.Fold.{some}
use Rattle.graph.specs.Route.{steps_before}
use Rattle.graph.proofs.RouteLaws.{resumes_in}
use Rattle.graph.proofs.resume.resumes_late.Given as goal

abbrev pub invariant-loop-j : goal.invariant-loop-j
invariant-loop-j l =
    record {
      among : l.first + l.size ≤ length (records_in step_from l.s l.y.steps);
      none : l.found ≡ false;
      passed : some (λ (i : ℕ). eqb (get_or (records_in step_from l.s l.y.steps) (l.first + i) (step_from [] 0)).code 0) l.j ≡ false;
    }

abbrev pub invariant-paths : goal.invariant-paths
invariant-paths l =
    record {
      among : l.path + l.n ≤ length (records_in path_from l.s l.y.paths);
      next : l.next ≡ steps_before (routes_in l.s l.y) (l.path + l.k);
      none : l.found ≡ false;
      passed : some (λ (i : ℕ). resumes_in (routes_in l.s l.y) (l.path + i)) l.k ≡ false;
    }
