-- The invariant: the paths before k are clear, and `next` is where the steps of path k start. Assumes nothing.
use mathlib.Core.Path.{◌≡◌}
use Prim.Native.Nat.{ℕ, ◌+◌, ◌-◌, ◌≤◌}
use Rattle.builder.specs.Code.{image_of}
use Rattle.graph.specs.Transfer.{table_of}
use Rattle.image.specs.Whole.{routes_of}
use Rattle.image.specs.Refusal.{clear, checks}
use Rattle.graph.specs.Route.{steps_before, path_in}
use Rattle.builder.specs.Ranges.{path_check}
use Rattle.builder.proofs.route.check_entries.Given as goal

abbrev pub invariant-loop-k : goal.invariant-loop-k
invariant-loop-k l = (l.k ≤ l.n) × (l.next ≡ steps_before (routes_of l.routes) (l.path + l.k)) × (checks (λ (i : ℕ). path_check (table_of (image_of l.code)) (path_in (routes_of l.routes) (l.path + i))) l.k ≡ clear)

abbrev pub decreases-loop-k : goal.decreases-loop-k
decreases-loop-k l = l.n - l.k
