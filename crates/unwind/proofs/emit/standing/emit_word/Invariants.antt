-- `emit_word` meets its contract. The invariant: the sink has the hops of the blocks passed, and the ways out of the last busy
-- one stand in scratch. Assumes nothing.
use Prim.Native.Nat.{◌*◌, ◌≤◌}
use Rattle.image.specs.Image.{routes_in}
use Rattle.graph.specs.Fold.{flat}
use Rattle.unwind.specs.Placed.{returns_in}
use Rattle.unwind.specs.Lent.{block_hops}
use Rattle.unwind.proofs.BlockLoop.{Going}
use Rattle.unwind.proofs.emit.standing.emit_word.Given as goal

abbrev pub invariant-loop-b : goal.invariant-loop-b
invariant-loop-b g l = (64 * l.w ≤ l.b) × (l.b ≤ l.past)
    × Going l.s l.y l.nodes l.edges l.ends l.heads l.landings l.roots l.guards l.bases l.parts l.returners l.stored l.initial.exits l.exits l.last l.n
    × ((old : g.row.V.Denot) → g.V.Sink.holds (routes_in l.s l.y) (64 * l.w) (flat (block_hops (routes_in l.s l.y) l.nodes l.edges l.ends l.heads l.landings l.roots l.guards l.bases (returns_in l.parts l.returners) l.stored) (64 * l.w)) old l.initial.sink → g.V.Sink.holds (routes_in l.s l.y) l.b (flat (block_hops (routes_in l.s l.y) l.nodes l.edges l.ends l.heads l.landings l.roots l.guards l.bases (returns_in l.parts l.returners) l.stored) l.b) old l.sink)
