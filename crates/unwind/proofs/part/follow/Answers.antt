use mathlib.Core.Path.{◌≡◌}
use Prim.Native.Nat.{◌-◌}
use native.Mathlib.Omega.{arith}
use Rattle.graph.specs.Lent.{held_of}
use Rattle.graph.proofs.RecordLaws.{block_most, edge_most}
use Rattle.graph.proofs.SearchLaws.{going_start, going_less, going_end}
use Rattle.unwind.specs.PartSearch.{bounded}
use Rattle.unwind.specs.Placed.{set_at}
use Rattle.unwind.proofs.PartLaws.{bent_lt, length-bent, target_bent, linked_bent, bent_on}
use Rattle.unwind.proofs.SlotLaws.{put_same, put_again}
use Rattle.unwind.proofs.part.follow.Goals as goal

pub loop-at-init : goal.loop-at-init
loop-at-init c = (λ e. going_start _ c.args.b _ _ _ ((linked_bent (held_of c.args.g.now).graph c.args.barriers.now e _ _ 0 c.requires.linked).heads c.args.b (omega (arith, c.requires.roomy.blocks, c.requires.block))), put_same _ _)

pub take_edge-requires-clause-edge : goal.take_edge-requires-clause-edge
take_edge-requires-clause-edge c = let edge-lt = bent_lt (held_of c.args.g.now).graph c.args.barriers.now 0 (c.loop-at.invariant.0 0) c.loop-at-test.true in
    edge-lt

pub offset_bounds-next-e : goal.offset_bounds-next-e
offset_bounds-next-e c =
    let edge-lt = bent_lt (held_of c.args.g.now).graph c.args.barriers.now 0 (c.loop-at.invariant.0 0) c.loop-at-test.true in
    omega (arith, edge-lt, edge_most c.args.g.now)

pub bounds-next-e : goal.bounds-next-e
bounds-next-e c =
    let edge-lt = bent_lt (held_of c.args.g.now).graph c.args.barriers.now 0 (c.loop-at.invariant.0 0) c.loop-at-test.true in
    omega (arith, edge-lt, c.requires.roomy.edges)

pub loop-at-smaller : goal.loop-at-smaller
loop-at-smaller c =
    let edge-lt = bent_lt (held_of c.args.g.now).graph c.args.barriers.now 0 (c.loop-at.invariant.0 0) c.loop-at-test.true in
    let g = (held_of c.args.g.now).graph in
    let e = c.loop-at.at - 1 in
    going_less (bounded g c.args.barriers.now 0) c.args.b (set_at c.args.parts.now c.args.i) c.args.pending.now (set_at c.loop-at.parts c.args.i) c.loop-at.pending c.loop-at.at e (omega arith) (c.loop-at.invariant.0 0) _
    ((linked_bent g c.args.barriers.now 0 _ _ 0 c.requires.linked).nexts e (omega arith) (rw (length-bent g c.args.barriers.now 0) (edge-lt)))

pub loop-at-preserved : goal.loop-at-preserved
loop-at-preserved c =
    let edge-lt = bent_lt (held_of c.args.g.now).graph c.args.barriers.now 0 (c.loop-at.invariant.0 0) c.loop-at-test.true in
    let g = (held_of c.args.g.now).graph in
    let e = c.loop-at.at - 1 in (
      λ from.
          rw (c.take_edge.ensures.takes.sees, c.take_edge.ensures.takes.pends)
          (bent_on g c.args.barriers.now from c.args.b (set_at c.args.parts.now c.args.i) c.args.pending.now (set_at c.loop-at.parts c.args.i) c.loop-at.pending c.loop-at.at e (omega arith) (c.loop-at.invariant.0 from) _
          ((linked_bent g c.args.barriers.now from _ _ 0 c.requires.linked).nexts e (omega arith) (rw (length-bent g c.args.barriers.now from) edge-lt))
          (omega (arith, target_bent g c.args.barriers.now from c.requires.stands.ends e edge-lt, block_most c.args.g.now))),
      put_again c.loop-at.invariant.1 c.take_edge.ensures.others,
    )

pub returns-clause-follows : goal.returns-clause-follows
returns-clause-follows c = let g = (held_of c.args.g.now).graph in
    let over : c.loop-at.at ≡ 0 = c.loop-at-test.false in
    λ e. rw (← length-bent g c.args.barriers.now e) (going_end (bounded g c.args.barriers.now e) c.args.b (set_at c.args.parts.now c.args.i) c.args.pending.now (set_at c.loop-at.parts c.args.i) c.loop-at.pending (rw over at (c.loop-at.invariant.0 e)))
