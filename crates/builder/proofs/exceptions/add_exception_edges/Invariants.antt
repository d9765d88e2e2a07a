-- `add_exception_edges` meets its contract. The loop's invariant: the edges of the handlers passed are added. Assumes nothing.
use mathlib.Core.List.{[]}
use Prim.Native.Nat.{◌-◌, ◌≤◌}
use Rattle.builder.specs.Code.{image_of}
use Rattle.graph.specs.Fold.{flat}
use Rattle.graph.specs.Adding.{Added}
use Rattle.builder.specs.Emit.{handler_edges}
use Rattle.builder.proofs.exceptions.add_exception_edges.Given as goal

abbrev pub invariant-loop-h : goal.invariant-loop-h
invariant-loop-h l = (l.h ≤ l.n) × (l.n ≤ 32) × Added l.initial.g l.g (flat (λ k. handler_edges (image_of l.numbered.code) k) l.h) [] []

abbrev pub decreases-loop-h : goal.decreases-loop-h
decreases-loop-h l = l.n - l.h
