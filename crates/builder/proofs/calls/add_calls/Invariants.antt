-- The invariant: the calls before p are recorded. Assumes nothing.
use mathlib.Core.List.{[]}
use Prim.Native.Nat.{◌-◌, ◌≤◌}
use Rattle.builder.specs.Code.{image_of}
use Rattle.graph.specs.Fold.{flat}
use Rattle.graph.specs.Edges.{call_at}
use Rattle.graph.specs.Adding.{Added}
use Rattle.builder.proofs.calls.add_calls.Given as goal

abbrev pub invariant-loop-p : goal.invariant-loop-p
invariant-loop-p l = (l.p ≤ l.n) × Added l.initial.g l.g [] [] (flat (call_at (image_of l.code)) l.p)

abbrev pub decreases-loop-p : goal.decreases-loop-p
decreases-loop-p l = l.n - l.p
