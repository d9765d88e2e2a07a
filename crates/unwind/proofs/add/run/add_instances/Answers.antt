-- The blocks that return, the sides of the routes and of the ends, and then all is at hand. Assumes nothing.
use Rattle.graph.specs.Lent.{held_of}
use Rattle.unwind.proofs.Standing.{stands_of}
use Rattle.unwind.proofs.FrameLaws.{at_hand}
use Rattle.unwind.proofs.add.run.add_instances.Goals as goal

pub returning_blocks-requires-clause-stands : goal.returning_blocks-requires-clause-stands
returning_blocks-requires-clause-stands c = stands_of (held_of c.args.g.now) c.requires.checked.graphed

pub guard_routes-requires-clause-stands : goal.guard_routes-requires-clause-stands
guard_routes-requires-clause-stands c = let k = c.requires.checked in
    stands_of (held_of c.args.g.now) k.graphed

pub land_ends-requires-clause-stands : goal.land_ends-requires-clause-stands
land_ends-requires-clause-stands c = let k = c.requires.checked in
    stands_of (held_of c.args.g.now) k.graphed

pub add_placed-requires-clause-at_hand : goal.add_placed-requires-clause-at_hand
add_placed-requires-clause-at_hand c = let k = c.requires.checked in
    let p = c.requires.placements in
    let returned = c.returning_blocks.ensures in
    at_hand k p _ returned c.guard_routes.ensures c.guard_routes.auto.guards c.land_ends.ensures c.land_ends.auto.landings
