-- The invariant: the first k given edges are added. Assumes nothing.
use mathlib.Core.List.{[], ◌∷◌}
use Prim.Native.Nat.{◌-◌, ◌≤◌}
use Rattle.builder.specs.Code.{image_of}
use Rattle.graph.specs.Fold.{flat}
use Rattle.graph.specs.Transfer.{given}
use Rattle.graph.specs.Edges.{given_edge}
use Rattle.graph.specs.Adding.{Added}
use Rattle.builder.proofs.edges.add_given_edges.Given as goal

abbrev pub invariant-loop-k : goal.invariant-loop-k
invariant-loop-k l = (l.k ≤ l.n) × Added l.initial.g l.g (flat (λ i. given_edge (image_of l.numbered.code) l.p (given (image_of l.numbered.code) l.p i) ∷ []) l.k) [] []

abbrev pub decreases-loop-k : goal.decreases-loop-k
decreases-loop-k l = l.n - l.k
