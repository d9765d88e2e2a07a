use mathlib.Core.Path.{◌≡◌}
use Prim.Native.Nat.{◌-◌}
use native.Mathlib.Omega.{arith}
use Rattle.graph.specs.Lent.{held_of}
use Rattle.graph.proofs.RecordLaws.{block_most, edge_most}
use Rattle.graph.proofs.SearchLaws.{target_lt, going_lt, going_on, going_less, going_end}
use Rattle.graph.proofs.reach.follow.Goals as goal

pub edge_in-requires : goal.edge_in-requires
edge_in-requires c = going_lt _ _ _ _ _ _ _ c.loop-at.invariant c.loop-at-test.true

pub offset_bounds-next-e : goal.offset_bounds-next-e
offset_bounds-next-e c =
    let lt = going_lt _ _ _ _ _ _ _ c.loop-at.invariant c.loop-at-test.true in
    omega (arith, lt, edge_most c.args.g.now)

pub bounds-next-e : goal.bounds-next-e
bounds-next-e c =
    let lt = going_lt _ _ _ _ _ _ _ c.loop-at.invariant c.loop-at-test.true in
    omega (arith, lt, c.requires.room.edges)

pub loop-at-smaller : goal.loop-at-smaller
loop-at-smaller c =
    let lt = going_lt _ _ _ _ _ _ _ c.loop-at.invariant c.loop-at-test.true in
    let e = c.loop-at.at - 1 in
    going_less (held_of c.args.g.now).graph c.args.b c.args.seen.now c.args.pending.now c.loop-at.seen c.loop-at.pending c.loop-at.at e (omega arith) c.loop-at.invariant _ (c.requires.links.nexts e (omega arith) lt)

pub loop-at-preserved : goal.loop-at-preserved
loop-at-preserved c =
    let lt = going_lt _ _ _ _ _ _ _ c.loop-at.invariant c.loop-at-test.true in
    let e = c.loop-at.at - 1 in
    let few = target_lt (held_of c.args.g.now).graph c.requires.ends e lt in
    rw (c.see.ensures.seen, c.see.ensures.pending, c.edge_in.ensures)
    (going_on (held_of c.args.g.now).graph c.args.b c.args.seen.now c.args.pending.now c.loop-at.seen c.loop-at.pending c.loop-at.at e (omega arith) c.loop-at.invariant _ (c.requires.links.nexts e (omega arith) lt) (omega (arith, block_most c.args.g.now)))

pub returns : goal.returns
returns c = let over : c.loop-at.at ≡ 0 = c.loop-at-test.false in
    going_end (held_of c.args.g.now).graph c.args.b c.args.seen.now c.args.pending.now c.loop-at.seen c.loop-at.pending (rw over at c.loop-at.invariant)
