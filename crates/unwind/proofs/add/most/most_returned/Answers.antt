use mathlib.Core.Path.{refl}
use Prim.Native.Nat.{◌*◌}
use native.Mathlib.Omega.{arith}
use Rattle.graph.specs.Fold.{sum}
use Rattle.graph.proofs.BlockLaws.{size_le}
use Rattle.unwind.specs.Placed.{returns_in, set_at}
use Rattle.unwind.specs.Nodes.{ways_of}
use Rattle.unwind.specs.Most.{members_of}
use Rattle.unwind.proofs.MostLaws.{sum_more}
use Prim.Native.Nat.{◌*◌}
use Rattle.unwind.specs.Placed.{returns_in}
use Rattle.unwind.proofs.add.most.most_returned.Goals as goal

pub loop-i-init : goal.loop-i-init
unfolding sum
loop-i-init c = (omega arith, omega arith)

pub ways_out-most-requires-clause-blocks_most : goal.ways_out-most-requires-clause-blocks_most
ways_out-most-requires-clause-blocks_most c = omega (arith, c.members_in.ensures.1, size_le (set_at (returns_in c.args.parts.now c.args.returners.now) c.loop-i.i))

pub loop-i-preserved : goal.loop-i-preserved
loop-i-preserved c =
    let ways = c.ways_out-most.ensures.ways in
    let more = sum_more (λ i. ways_of c.args.nodes.now (i) * members_of (returns_in c.args.parts.now c.args.returners.now) c.args.blocks i) c.loop-i.i c.loop-i.most (ways_of c.args.nodes.now (c.loop-i.i)) (members_of (returns_in c.args.parts.now c.args.returners.now) c.args.blocks c.loop-i.i) c.members_in.result refl c.members_in.ensures.0 c.loop-i.invariant.0 in
    (omega (arith, ways, more), omega (arith, c.ways_out-most.ensures.small))

pub members_in-requires : goal.members_in-requires
members_in-requires c = (omega (arith, c.requires.parts_fit, c.loop-i-test.true), c.requires.blocks_most)
