-- `emit_nodes` meets its contract. The invariant: the sink has the hops of the nodes passed. Assumes nothing.
use mathlib.Core.Path.{◌≡◌}
use mathlib.Core.List.{List, ◌++◌}
use Prim.Native.Nat.{◌≤◌}
use lib.ListN.{length}
use Rattle.image.specs.Image.{routes_in}
use Rattle.graph.specs.Fold.{flat}
use Rattle.addition.specs.Ways.{Hop}
use Rattle.unwind.specs.Placed.{returns_in}
use Rattle.unwind.specs.Copies.{node_hops}
use Rattle.unwind.specs.AllNodes.{behind_nodes}
use Rattle.unwind.proofs.emit.cloned.emit_nodes.Given as goal

abbrev pub invariant-loop-i : goal.invariant-loop-i
invariant-loop-i g l = (l.i ≤ l.count) × (length l.exits ≡ length l.initial.exits)
    × ((hs : List Hop) (old : g.row.V.Denot) → g.V.Sink.holds (routes_in l.s l.y) l.blocks hs old l.initial.sink → g.V.Sink.holds (routes_in l.s l.y) (behind_nodes l.bases l.parts l.blocks l.i) (hs ++ flat (node_hops (routes_in l.s l.y) l.nodes l.edges l.ends l.heads l.landings l.bases l.parts (returns_in l.parts l.returners) l.blocks) l.i) old l.sink)
