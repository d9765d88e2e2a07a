-- The invariant: the steps before j are clear. Then the handler. Assumes nothing.
use mathlib.Core.Path.{◌≡◌}
use mathlib.Core.List.{[]}
use Prim.Native.Nat.{ℕ, ◌+◌, ◌-◌, ◌≤◌}
use lib.ListN.{get_or}
use Rattle.builder.specs.Code.{image_of}
use Rattle.graph.specs.Transfer.{table_of}
use Rattle.image.specs.Whole.{routes_of}
use Rattle.image.specs.Record.{step_from}
use Rattle.image.specs.Refusal.{clear, checks}
use Rattle.builder.proofs.RouteChecks.{step_check}
use Rattle.builder.proofs.route.check_path.Given as goal

abbrev pub invariant-loop-j : goal.invariant-loop-j
invariant-loop-j l = (l.j ≤ l.size) × (checks (λ (i : ℕ). step_check (table_of (image_of l.code)) (get_or ((routes_of l.routes).steps) (l.step + i) (step_from [] 0))) l.j ≡ clear)

abbrev pub decreases-loop-j : goal.decreases-loop-j
decreases-loop-j l = l.size - l.j
