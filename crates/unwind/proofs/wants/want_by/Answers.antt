-- `want_by` meets its contract. Assumes nothing.
use Rattle.unwind.specs.Placed.{returns_in}
use Rattle.unwind.proofs.WantLaws.{over_wants}
use Rattle.unwind.proofs.WanterLaws.{ways_node, wanter_ways_law}
use Rattle.unwind.proofs.wants.want_by.Goals as goal

pub is_idle-requires : goal.is_idle-requires
is_idle-requires c = let there = c.requires.2.node_in in (there.node_in, there.lands_in)

pub returns-then-is_idle : goal.returns-then-is_idle
returns-then-is_idle c = let returns = returns_in c.args.parts.now c.args.returners.now in
    let idle = c.is_idle.ensures c.if-is_idle.true in
    λ m ends. rw (ways_node m c.args.nodes.now c.args.edges.now ends c.args.heads.now c.args.landings.now c.args.roots.now c.args.guards.now c.args.bases.now c.args.parts.now returns c.args.routes c.args.k idle.0)
    (over_wants c.args.h.now c.args.g.now c.args.done.now m c.args.nodes.now c.args.edges.now ends c.args.heads.now c.args.landings.now _ idle.1 c.args.bases.now c.args.parts.now returns)

pub wanter_of-x-requires : goal.wanter_of-x-requires
wanter_of-x-requires c = let there = c.requires.2 in (there.roots_in, there.node_in.node_in, there.bases_in)

pub want_set-requires : goal.want_set-requires
want_set-requires c = let there = c.requires.2 in
    let some = c.requires.0 in
    rw c.wanter_of-x.ensures (
      (some.0, some.1, rw (wanter_ways_law some.0 c.args.nodes.now c.args.edges.now some.1 c.args.heads.now c.args.landings.now c.args.roots.now c.args.guards.now c.args.bases.now c.args.parts.now (returns_in c.args.parts.now c.args.returners.now) c.args.routes c.args.k) at some.2),
      c.requires.1,
      there.base_few,
      there.there,
      there.below,
      c.requires.3,
      there.guards_in,
      there.parts_in,
      there.part_in,
    )

pub returns : goal.returns
returns c = λ m ends. rw (wanter_ways_law m c.args.nodes.now c.args.edges.now ends c.args.heads.now c.args.landings.now c.args.roots.now c.args.guards.now c.args.bases.now c.args.parts.now (returns_in c.args.parts.now c.args.returners.now) c.args.routes c.args.k)
    (rw c.wanter_of-x.ensures at (c.want_set.ensures m ends))
