use mathlib.Core.Path.{refl}
use native.Mathlib.Omega.{arith}
use Rattle.graph.specs.Lent.{held_of}
use Rattle.graph.proofs.RecordLaws.{block_most}
use Rattle.graph.proofs.SearchLaws.{entry_lt, reached_lt, works_start, turn_works, turn_less, finds}
use Rattle.graph.proofs.reach.walk.Goals as goal

pub loop-b-init : goal.loop-b-init
loop-b-init c = let g = (held_of c.args.g.now).graph in
    rw (c.put_in.ensures, c.put_in-2.ensures, c.entry-start.ensures) (works_start g _ refl (omega (arith, entry_lt g c.requires.ends, block_most c.args.g.now)))

pub lowest_below-requires : goal.lowest_below-requires
lowest_below-requires c = let inv = c.loop-b.invariant in
    let count = c.block_count-blocks.ensures in
    (omega (arith, count, block_most c.args.g.now), λ b in_p. rw count (reached_lt (held_of c.args.g.now).graph c.requires.ends (inv.sound b (inv.pends b in_p))))

pub returns : goal.returns
returns c = finds (held_of c.args.g.now).graph c.loop-b.seen c.loop-b.pending c.loop-b.invariant (rw c.in_default.is at c.lowest_below.ensures)

pub follow-requires : goal.follow-requires
follow-requires c = let low = rw c.in-Some.is at c.lowest_below.ensures in
    record { ends = c.requires.ends; room = c.requires.room; links = c.requires.links; there = reached_lt _ c.requires.ends (c.loop-b.invariant.sound _ (c.loop-b.invariant.pends _ low.1)) }

pub loop-b-smaller : goal.loop-b-smaller
loop-b-smaller c = let low = rw c.in-Some.is at c.lowest_below.ensures in
    turn_less _ _ c.loop-b.seen c.loop-b.pending low.1 c.loop-b.invariant _ _ (rw c.take_from.ensures at c.follow.ensures)

pub loop-b-preserved : goal.loop-b-preserved
loop-b-preserved c = let low = rw c.in-Some.is at c.lowest_below.ensures in
    turn_works _ _ c.loop-b.seen c.loop-b.pending low.1 c.loop-b.invariant _ _ (rw c.take_from.ensures at c.follow.ensures)
