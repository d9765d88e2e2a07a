-- `all_counted` meets its contract. The loop's invariant: what the regions passed count and what is left are the handlers.
-- Assumes nothing.
use mathlib.Core.Path.{◌≡◌}
use Prim.Native.Nat.{ℕ, ◌+◌}
use lib.ListN.{length}
use Rattle.graph.specs.Fold.{sum}
use Rattle.graph.specs.Graph.{region}
use Rattle.graph.specs.Lent.{held_of}
use Rattle.graph.proofs.rule.all_counted.Given as goal

abbrev pub invariant-loop-r : goal.invariant-loop-r
invariant-loop-r l = sum (λ (k : ℕ). (region (held_of l.g).graph k).handlers) l.r-index + l.left ≡ length (held_of l.g).graph.handlers
