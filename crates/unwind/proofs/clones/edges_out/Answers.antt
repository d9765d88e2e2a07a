use mathlib.Core.Path.{ap}
use native.Mathlib.Omega.{arith}
use lib.ListN.{length}
use Rattle.graph.specs.Lent.{held_of}
use Rattle.graph.proofs.RecordLaws.{block_most, edge_most}
use Rattle.graph.proofs.NextLaws.{left-all, left_long, left_lowest, left-none, left_next, left_less}
use Rattle.unwind.proofs.CloneLaws.{set_front, set_most, joined-none}
use Rattle.unwind.proofs.clones.edges_out.Goals as goal

pub loop-b-init : goal.loop-b-init
loop-b-init c = rw (left-all c.args.set.now) (omega arith)

pub returns-clause-counts : goal.returns-clause-counts
returns-clause-counts c = let g = (held_of c.args.g.now).graph in
    let none = ap length (joined-none g _ (left-none c.args.set.now (omega arith) c.loop-b.from c.in_default.ensures)) in
    omega (arith, c.loop-b.invariant, none)

pub returns-clause-small : goal.returns-clause-small
returns-clause-small c = let g = (held_of c.args.g.now).graph in
    omega (arith, c.loop-b.invariant, set_most g c.args.set.now (edge_most c.args.g.now))

pub overflow_add-count : goal.overflow_add-count
overflow_add-count c = omega (arith, c.loop-b.invariant, c.out_degree-count.ensures.small, set_most (held_of c.args.g.now).graph c.args.set.now (edge_most c.args.g.now))

pub loop-b-smaller : goal.loop-b-smaller
loop-b-smaller c = left_less c.args.set.now (omega arith) c.loop-b.from _ c.in-Some.ensures

pub loop-b-preserved : goal.loop-b-preserved
loop-b-preserved c = let low = c.in-Some.ensures in
    let at = left_lowest c.args.set.now (omega arith) c.loop-b.from _ low in
    let front = set_front (held_of c.args.g.now).graph _ _ (left_long c.args.set.now (omega arith) c.loop-b.from) at.0 at.1 at.2 in
    rw (left_next c.args.set.now (omega arith) c.loop-b.from _ low) (omega (arith, c.loop-b.invariant, front, c.out_degree-count.ensures.counts))

pub next_in-requires : goal.next_in-requires
next_in-requires c = let all = c.block_count-blocks.ensures in
    (omega (arith, all, block_most c.args.g.now), λ b m. omega (arith, all, c.requires.blocks b m))
