use Prim.Native.Nat.{◌-◌}
use native.Mathlib.Omega.{arith}
use Rattle.unwind.proofs.StoodLaws.{edges_start, edge_here, edges_next, edges_end, chain_less}
use Rattle.unwind.proofs.clones.copy_from.Goals as goal

pub loop-at-init : goal.loop-at-init
loop-at-init c = edges_start c.args.m c.args.base c.args.set.now c.args.b c.args.g.now c.args.head.now c.args.next.now c.requires.linked _ c.number_in-at.ensures.0

pub edge_in-requires : goal.edge_in-requires
edge_in-requires c = let ne = c.loop-at-test.true in
    edge_here c.args.m c.args.base c.args.set.now c.args.b c.args.g.now c.args.head.now c.args.next.now c.requires.linked c.loop-at.g c.loop-at.at c.loop-at.invariant (c.loop-at.at - 1) (omega arith)

pub loop-at-smaller : goal.loop-at-smaller
loop-at-smaller c = let ne = c.loop-at-test.true in
    let less = chain_less c.args.m c.args.base c.args.set.now c.args.b c.args.g.now c.args.head.now c.args.next.now c.requires.linked c.loop-at.g c.loop-at.at c.loop-at.invariant (c.loop-at.at - 1) _ (omega arith) c.number_in-at-in-loop-at.ensures.0 in
    omega (arith, less)

pub loop-at-preserved : goal.loop-at-preserved
loop-at-preserved c = let ne = c.loop-at-test.true in
    edges_next c.args.m c.args.base c.args.set.now c.args.b c.args.g.now c.args.head.now c.args.next.now c.requires.linked c.loop-at.g c.loop-at.at c.loop-at.invariant (c.loop-at.at - 1) _ (omega arith) c.number_in-at-in-loop-at.ensures.0
    _ _ _ c.edge_in.ensures c.copy_of-copy.ensures c.add_edge.ensures

pub returns : goal.returns
returns c = edges_end c.args.m c.args.base c.args.set.now c.args.b c.args.g.now c.args.head.now c.args.next.now c.requires.linked c.loop-at.g c.loop-at.at c.loop-at.invariant c.loop-at-test.false

pub number_in-at-requires-in-loop-at : goal.number_in-at-requires-in-loop-at
number_in-at-requires-in-loop-at c = let ne = c.loop-at-test.true in
    let here = c.loop-at.invariant.on.here (c.loop-at.at - 1) (omega arith) in
    omega (arith, here.0, c.requires.linked.roomy.edges)
