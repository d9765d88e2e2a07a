-- `path_starts` meets its contract. The invariant: `next` is where the steps of path p start, and the paths before it have
-- theirs. Behind the last one it is where all steps end. Assumes nothing.
use mathlib.Core.Path.{◌≡◌}
use Prim.Native.Nat.{ℕ, ◌≤◌, ◌<◌}
use lib.ListN.{length, get_or}
use Rattle.image.specs.Image.{routes_in}
use Rattle.graph.specs.Route.{steps_before}
use Rattle.unwind.proofs.tries.paths.path_starts.Given as goal

abbrev pub invariant-loop-p : goal.invariant-loop-p
invariant-loop-p l = (l.p ≤ l.y.paths.count) × (l.next ≡ steps_before (routes_in l.s l.y) l.p) × (length l.starts ≡ length l.initial.starts) × ((q : ℕ) → q < l.p → get_or l.starts q 0 ≡ steps_before (routes_in l.s l.y) q)
