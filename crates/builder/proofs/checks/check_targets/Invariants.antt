-- The invariant: the targets before k are starts. Assumes nothing.
use mathlib.Core.Path.{◌≡◌}
use mathlib.Core.List.{[]}
use Prim.Native.Nat.{ℕ, ◌+◌, ◌-◌, ◌≤◌}
use lib.ListN.{get_or}
use Rattle.image.specs.Record.{edge_from}
use Rattle.image.specs.Image.{Image}
use Rattle.image.specs.Refusal.{Check, clear}
use Rattle.graph.specs.Fold.{checks}
use Rattle.graph.specs.Transfer.{table_of}
use Rattle.graph.specs.Build.{target_check}
use Rattle.builder.specs.Code.{image_of}
use Rattle.builder.proofs.checks.check_targets.Given as goal

-- the check of given edge `edge + k`
abbrev pub target : Image → ℕ → ℕ → ℕ → Check
target m source edge k = target_check (table_of m) source (get_or m.edges (edge + k) (edge_from [] 0))

abbrev pub invariant-loop-k : goal.invariant-loop-k
invariant-loop-k l = (l.k ≤ l.n) × (checks (target (image_of l.code) l.source l.edge) l.k ≡ clear)

abbrev pub decreases-loop-k : goal.decreases-loop-k
decreases-loop-k l = l.n - l.k
