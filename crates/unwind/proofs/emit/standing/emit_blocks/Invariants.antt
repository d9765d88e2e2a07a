-- `emit_blocks` meets its contract. The invariant: the sink has the hops of the words passed. Assumes nothing.
use mathlib.Core.Path.{◌≡◌}
use Prim.Native.Nat.{◌*◌, ◌≤◌, min}
use lib.ListN.{length}
use Rattle.image.specs.Image.{routes_in}
use Rattle.graph.specs.Fold.{flat}
use Rattle.unwind.specs.Placed.{returns_in}
use Rattle.unwind.specs.Lent.{block_hops}
use Rattle.unwind.proofs.emit.standing.emit_blocks.Given as goal

abbrev pub invariant-loop-w : goal.invariant-loop-w
invariant-loop-w g l = (l.w ≤ l.words) × (length l.originals ≡ length l.initial.originals) × (length l.exits ≡ length l.initial.exits)
    × g.V.Sink.holds (routes_in l.s l.y) (min (64 * l.w) l.blocks) (flat (block_hops (routes_in l.s l.y) l.nodes l.edges l.ends l.heads l.landings l.roots l.guards l.bases (returns_in l.parts l.returners) l.stored) (min (64 * l.w) l.blocks)) l.initial.sink l.sink
