use mathlib.Core.Path.{◌≡◌, refl, ◌∙◌, subst}
use mathlib.Core.List.{List, ◌++◌, append-nil}
use Prim.Native.Nat.{◌+◌}
use native.Mathlib.Omega.{arith}
use Rattle.image.specs.Image.{routes_in}
use Rattle.graph.specs.Fold.{flat}
use Rattle.addition.specs.Ways.{Hop}
use Rattle.unwind.specs.Placed.{returns_in}
use Rattle.unwind.specs.Copies.{node_hops}
use Rattle.unwind.specs.AllNodes.{behind_nodes}
use Rattle.unwind.proofs.HeldLaws.{step_is}
use Rattle.unwind.proofs.SinkLaws.{room_behind}
use Rattle.unwind.proofs.emit.cloned.emit_nodes.Goals as goal

pub loop-i-init : goal.loop-i-init
unfolding behind_nodes flat
loop-i-init g c = (omega arith, refl, λ hs old p. rw (append-nil hs) p)

pub emit_node-requires-clause-fits : goal.emit_node-requires-clause-fits
emit_node-requires-clause-fits g c = c.requires.fit.fits c.loop-i.i c.loop-i-test.true

pub emit_node-requires-clause-rises : goal.emit_node-requires-clause-rises
emit_node-requires-clause-rises g c = c.requires.rise.each c.loop-i.i c.loop-i-test.true

pub emit_node-requires-clause-roomy : goal.emit_node-requires-clause-roomy
emit_node-requires-clause-roomy g c = let room = c.requires.roomy in
    record { edges_few = room.edges_few; ends_few = room.ends_few; room = omega (arith, room.room, c.loop-i.invariant.1) }

pub emit_node-requires-clause-sets : goal.emit_node-requires-clause-sets
emit_node-requires-clause-sets g c = c.requires.sets.each c.loop-i.i c.loop-i-test.true

pub emit_node-requires-clause-node : goal.emit_node-requires-clause-node
emit_node-requires-clause-node g c = c.requires.nodes_there.there c.loop-i.i c.loop-i-test.true

pub emit_node-requires-clause-room : goal.emit_node-requires-clause-room
emit_node-requires-clause-room g c = let r = c.requires.room in
    let rest = room_behind g.V.Sink.fits (node_hops (routes_in c.args.s.now c.args.y) c.args.nodes.now c.args.edges.now c.args.ends.now c.args.heads.now c.args.landings.now c.args.bases.now c.args.parts.now (returns_in c.args.parts.now c.args.returners.now) c.args.blocks) c.loop-i.i c.args.count r.0 r.3 refl c.loop-i-test.true r.4 in
    (r.0 ++ flat (node_hops (routes_in c.args.s.now c.args.y) c.args.nodes.now c.args.edges.now c.args.ends.now c.args.heads.now c.args.landings.now c.args.bases.now c.args.parts.now (returns_in c.args.parts.now c.args.returners.now) c.args.blocks) c.loop-i.i, r.1, c.loop-i.invariant.2 r.0 r.1 r.2, rest.0, rest.1)

pub loop-i-preserved : goal.loop-i-preserved
loop-i-preserved g c = (
  omega (arith, c.loop-i-test.true),
  c.emit_node.ensures.long ∙ c.loop-i.invariant.1,
  λ hs old p.
      subst (λ (t : List Hop). g.V.Sink.holds (routes_in c.args.s.now c.args.y) (behind_nodes c.args.bases.now c.args.parts.now c.args.blocks (c.loop-i.i + 1)) t old c.emit_node.new.sink) (step_is hs (node_hops (routes_in c.args.s.now c.args.y) c.args.nodes.now c.args.edges.now c.args.ends.now c.args.heads.now c.args.landings.now c.args.bases.now c.args.parts.now (returns_in c.args.parts.now c.args.returners.now) c.args.blocks) c.loop-i.i)
      (c.emit_node.ensures.holds (hs ++ flat (node_hops (routes_in c.args.s.now c.args.y) c.args.nodes.now c.args.edges.now c.args.ends.now c.args.heads.now c.args.landings.now c.args.bases.now c.args.parts.now (returns_in c.args.parts.now c.args.returners.now) c.args.blocks) c.loop-i.i) old (c.loop-i.invariant.2 hs old p)),
)

pub shape_of-exits : goal.shape_of-exits
shape_of-exits g c = c.loop-i.invariant.1

pub returns : goal.returns
returns g c = let all : c.loop-i.i ≡ c.args.count = omega (arith, c.loop-i.invariant.0) in
    rw all at c.loop-i.invariant.2
