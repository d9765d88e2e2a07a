-- The invariant: so many of the first k cases are resolved. Assumes nothing.
use mathlib.Core.Path.{◌≡◌}
use mathlib.Core.List.{[]}
use Prim.Native.Nat.{◌+◌, ◌-◌, ◌≤◌}
use lib.ListN.{get_or}
use Rattle.builder.specs.Code.{image_of}
use Rattle.image.specs.Record.{case_from}
use Rattle.graph.specs.Fold.{count}
use Rattle.graph.specs.Transfer.{case_transfer}
use Rattle.graph.specs.Edges.{resolved}
use Rattle.builder.proofs.edge_count.case_count.Given as goal

abbrev pub invariant-loop-k : goal.invariant-loop-k
invariant-loop-k l = (l.k ≤ l.n) × (l.edges ≡ count (λ i. resolved (image_of l.code) (case_transfer (get_or (image_of l.code).cases (l.first + i) (case_from [] 0)) i)) l.k)

abbrev pub decreases-loop-k : goal.decreases-loop-k
decreases-loop-k l = l.n - l.k
