-- The invariant: what the first k slots give is added. Assumes nothing.
use mathlib.Core.Path.{◌≡◌}
use mathlib.Core.List.{[]}
use Prim.Native.Nat.{◌-◌, ◌≤◌}
use Rattle.builder.specs.Code.{image_of}
use Rattle.graph.specs.Adding.{Added}
use Rattle.builder.specs.Slots.{slot_in, slot_at}
use Rattle.builder.specs.Emit.{slot_edges, slot_unresolved}
use Rattle.builder.proofs.edges.add_transfers.Given as goal

abbrev pub invariant-loop-k : goal.invariant-loop-k
invariant-loop-k l = (l.k ≤ l.n) × (slot_in l.slot ≡ slot_at l.flow l.k) × Added l.initial.g l.g (slot_edges (image_of l.numbered.code) l.p l.k) (slot_unresolved (image_of l.numbered.code) l.p l.k) []

abbrev pub decreases-loop-k : goal.decreases-loop-k
decreases-loop-k l = l.n - l.k
