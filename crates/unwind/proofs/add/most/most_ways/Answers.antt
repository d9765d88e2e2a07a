-- `most_ways` meets its contract: a route has no more ways than all edges and ends, nor have all nodes together, out of no more
-- than all blocks; or each sum is bounded by what is counted. Assumes nothing.
use Prim.Native.Nat.{◌+◌, ◌*◌, ◌≤◌}
use native.Mathlib.Nat.{le_trans, mul-le-mul, mul-le-mul_right}
use native.Mathlib.Omega.{arith}
use lib.ListN.{get_or}
use Rattle.graph.specs.BlockSet.{member}
use Rattle.unwind.specs.Nodes.{ways_of}
use Rattle.unwind.specs.Placed.{set_at, returns_in}
use Rattle.unwind.proofs.MostLaws.{sum-part, sum_each, sum_most}
use Rattle.unwind.proofs.add.most.most_ways.Goals as goal

pub overflow_mul-rough : goal.overflow_mul-rough
overflow_mul-rough c =
    let small : (c.args.routes + 1) * (c.args.stored.edges + c.args.stored.ends) ≤ 656000 = let many : c.args.routes + 1 ≤ 1025 = omega arith in
    let each : c.args.stored.edges + c.args.stored.ends ≤ 640 = omega arith in
    omega (arith, mul-le-mul many each) in
    omega (arith, small)

pub overflow_mul-rough-2 : goal.overflow_mul-rough-2
overflow_mul-rough-2 c =
    let small : (c.args.routes + 1) * (c.args.stored.edges + c.args.stored.ends) ≤ 656000 = let many : c.args.routes + 1 ≤ 1025 = omega arith in
    let each : c.args.stored.edges + c.args.stored.ends ≤ 640 = omega arith in
    omega (arith, mul-le-mul many each) in
    omega (arith, mul-le-mul (small) c.requires.blocks_most)

pub returns-then-rough-le-HOP_MOST : goal.returns-then-rough-le-HOP_MOST
returns-then-rough-le-HOP_MOST c = let ways = ways_of c.args.nodes.now in
    let m = c.args.stored.edges + c.args.stored.ends in
    let each = sum_each (λ r. ways (get_or c.args.roots.now r 0)) m c.args.routes (λ r h. le_trans (sum-part ways c.args.stored.nodes (get_or c.args.roots.now r 0) (c.requires.roots_in r h)) c.requires.ways_within) in
    let guarded = sum_most (λ r. ways (get_or c.args.roots.now r 0)) (λ r. member (set_at c.args.guards.now r)) c.args.blocks c.args.routes in
    let returned = sum_most ways (λ i. member (set_at (returns_in c.args.parts.now c.args.returners.now) i)) c.args.blocks c.args.stored.nodes in
    omega (arith, guarded, mul-le-mul_right c.args.blocks each, returned, mul-le-mul_right c.args.blocks c.requires.ways_within)
