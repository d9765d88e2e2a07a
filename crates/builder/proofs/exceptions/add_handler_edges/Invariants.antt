-- `add_handler_edges` meets its contract. The loop's invariant: what the positions passed give is added. Assumes nothing.
use mathlib.Core.List.{[]}
use Prim.Native.Nat.{◌+◌, ◌-◌, ◌≤◌}
use Rattle.builder.specs.Code.{image_of}
use Rattle.graph.specs.Fold.{flat}
use Rattle.graph.specs.Edges.{unwind_edges}
use Rattle.graph.specs.Adding.{Added}
use Rattle.builder.proofs.exceptions.add_handler_edges.Given as goal

abbrev pub invariant-loop-p : goal.invariant-loop-p
invariant-loop-p l = (l.first ≤ l.p) × (l.p ≤ l.past) × Added l.initial.g l.g (flat (λ i. unwind_edges (image_of l.numbered.code) l.h (l.first + i)) (l.p - l.first)) [] []

abbrev pub decreases-loop-p : goal.decreases-loop-p
decreases-loop-p l = l.past - l.p
