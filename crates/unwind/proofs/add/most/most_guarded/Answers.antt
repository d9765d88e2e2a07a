use mathlib.Core.Path.{refl}
use Prim.Native.Nat.{◌*◌}
use native.Mathlib.Omega.{arith}
use lib.ListN.{get_or}
use Rattle.graph.specs.Fold.{sum}
use Rattle.graph.proofs.BlockLaws.{size_le}
use Rattle.unwind.specs.Placed.{set_at}
use Rattle.unwind.specs.Nodes.{ways_of}
use Rattle.unwind.specs.Most.{members_of}
use Rattle.unwind.proofs.MostLaws.{sum_more}
use Prim.Native.Nat.{◌*◌}
use Rattle.unwind.proofs.add.most.most_guarded.Goals as goal

pub loop-r-init : goal.loop-r-init
unfolding sum
loop-r-init c = (omega arith, omega arith)

pub ways_out-most-requires-clause-blocks_most : goal.ways_out-most-requires-clause-blocks_most
ways_out-most-requires-clause-blocks_most c = omega (arith, c.members_of.ensures.1, size_le (set_at c.args.guards.now c.loop-r.r))

pub loop-r-preserved : goal.loop-r-preserved
loop-r-preserved c =
    let ways = rw c.number_in.ensures.0 at c.ways_out-most.ensures.ways in
    let more = sum_more (λ r. ways_of c.args.nodes.now (get_or c.args.roots.now r 0) * members_of c.args.guards.now c.args.blocks r) c.loop-r.r c.loop-r.most (ways_of c.args.nodes.now (get_or c.args.roots.now c.loop-r.r 0)) (members_of c.args.guards.now c.args.blocks c.loop-r.r) c.members_of.result refl c.members_of.ensures.0 c.loop-r.invariant.0 in
    (omega (arith, ways, more), omega (arith, c.ways_out-most.ensures.small))

pub ways_out-most-requires-clause-node : goal.ways_out-most-requires-clause-node
ways_out-most-requires-clause-node c = rw c.number_in.ensures.0 (c.requires.roots_in c.loop-r.r c.loop-r-test.true)

pub members_of-requires : goal.members_of-requires
members_of-requires c = (omega (arith, c.requires.guards_fit, c.loop-r-test.true), c.requires.blocks_most)
