use Prim.Native.Nat.{ℕ, ◌<◌}
use native.Mathlib.Omega.{arith}
use lib.ListN.{length}
use Rattle.graph.specs.Lent.{held_of}
use Rattle.graph.specs.Reached.{Reached}
use Rattle.graph.proofs.RecordLaws.{block_most}
use Rattle.graph.proofs.SearchLaws.{reached_lt, turn_works, turn_less, finds}
use Rattle.unwind.specs.PartSearch.{bounded}
use Rattle.unwind.specs.Placed.{set_at}
use Rattle.unwind.proofs.PartLaws.{length-bent, blocks_bent, ends_bent, part_start, part_has}
use Rattle.unwind.proofs.SlotLaws.{put_same, put_again}
use Rattle.unwind.proofs.part.part_of.Goals as goal

pub loop-b-init : goal.loop-b-init
loop-b-init c =
    let few : c.args.start < 1024 = omega (arith, c.requires.start_in, block_most c.args.g.now) in
    let first = rw c.requires.empty at c.put_block.ensures.here in
    (rw (first, c.put_in.ensures) (part_start (held_of c.args.g.now).graph c.args.barriers.now c.args.start (few)), put_same _ _)

pub shape_of-parts : goal.shape_of-parts
shape_of-parts c = (put_again c.put_block.ensures c.loop-b.invariant.1).long

pub lowest_below-requires : goal.lowest_below-requires
lowest_below-requires c = let g = (held_of c.args.g.now).graph in
    let reached-few : (b : ℕ) → Reached (bounded g c.args.barriers.now c.args.start) b → b < length g.blocks = λ _ r.
    rw (blocks_bent g c.args.barriers.now c.args.start) at (reached_lt (bounded g c.args.barriers.now c.args.start) (ends_bent g c.args.barriers.now c.args.start c.requires.stands.ends c.requires.start_in) r) in
    let inv = c.loop-b.invariant.0 in
    let count = c.block_count-blocks.ensures in
    (omega (arith, count, block_most c.args.g.now), λ b in_p. rw count (reached-few _ (inv.sound b (inv.pends b in_p))))

pub follow-requires-clause-block : goal.follow-requires-clause-block
follow-requires-clause-block c = let g = (held_of c.args.g.now).graph in
    let reached-few : (b : ℕ) → Reached (bounded g c.args.barriers.now c.args.start) b → b < length g.blocks = λ _ r.
    rw (blocks_bent g c.args.barriers.now c.args.start) at (reached_lt (bounded g c.args.barriers.now c.args.start) (ends_bent g c.args.barriers.now c.args.start c.requires.stands.ends c.requires.start_in) r) in
    reached-few _ (c.loop-b.invariant.0.sound _ (c.loop-b.invariant.0.pends _ c.in-Some.ensures.1))

pub follow-requires-clause-parts_fit : goal.follow-requires-clause-parts_fit
follow-requires-clause-parts_fit c = omega (arith, c.requires.parts_fit, (put_again c.put_block.ensures c.loop-b.invariant.1).long)

pub loop-b-smaller : goal.loop-b-smaller
loop-b-smaller c = let g = (held_of c.args.g.now).graph in
    let g' = bounded g c.args.barriers.now c.args.start in
    let follows = rw (c.take_from.ensures, ← length-bent g c.args.barriers.now c.args.start) at (c.follow.ensures.follows c.args.start) in
    turn_less g' _ (set_at c.loop-b.parts c.args.i) c.loop-b.pending c.in-Some.ensures.1 c.loop-b.invariant.0 _ _ follows

pub loop-b-preserved : goal.loop-b-preserved
loop-b-preserved c = let g = (held_of c.args.g.now).graph in
    let g' = bounded g c.args.barriers.now c.args.start in
    let follows = rw (c.take_from.ensures, ← length-bent g c.args.barriers.now c.args.start) at (c.follow.ensures.follows c.args.start) in
    (turn_works g' _ (set_at c.loop-b.parts c.args.i) c.loop-b.pending c.in-Some.ensures.1 c.loop-b.invariant.0 _ _ follows, put_again c.loop-b.invariant.1 c.follow.ensures.others)

pub returns-clause-part : goal.returns-clause-part
returns-clause-part c = let g = (held_of c.args.g.now).graph in
    let seen = set_at c.loop-b.parts c.args.i in
    λ rs bars. part_has g c.requires.stands c.args.barriers.now c.args.start (record { exists = c.requires.start_in; original = c.requires.start_built }) rs bars seen (finds (bounded g c.args.barriers.now c.args.start) seen c.loop-b.pending c.loop-b.invariant.0 c.in_default.ensures)

pub returns-clause-others : goal.returns-clause-others
returns-clause-others c = put_again c.put_block.ensures c.loop-b.invariant.1

pub put_block-requires : goal.put_block-requires
put_block-requires c = (c.requires.parts_fit, omega (arith, c.requires.start_in, block_most c.args.g.now))
