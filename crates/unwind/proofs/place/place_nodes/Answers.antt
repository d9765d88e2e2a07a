use mathlib.Core.Path.{refl, sym, ◌∙◌}
use Prim.Native.Nat.{◌+◌}
use native.Mathlib.Omega.{arith}
use Rattle.image.specs.Image.{routes_in}
use Rattle.graph.specs.Lent.{held_of}
use Rattle.graph.proofs.RecordLaws.{block_most}
use Rattle.unwind.proofs.PlaceLaws.{sizes_none, sizes_then_law, slots_same, slots_less, placed-none, placed_next, placed_end, placed_over}
use Rattle.unwind.proofs.place.place_nodes.Goals as goal

pub loop-i-init : goal.loop-i-init
loop-i-init c = let count = c.block_count-base.ensures in
    (omega (arith, count, block_most c.args.g.now), sizes_none _ _ _, rw (sym count) at (placed-none (held_of c.args.g.now).graph (routes_in c.args.s.now c.args.y) c.args.nodes.now c.args.n c.args.bases.now c.args.entries.now c.args.parts.now), c.requires.firsts, refl, λ j ge h. c.requires.entered.enters j h)

pub place_node-base-requires-clause-slots : goal.place_node-base-requires-clause-slots
place_node-base-requires-clause-slots c = slots_less c.args.n (c.loop-i.i + 1) (omega arith) (slots_same _ c.loop-i.invariant.1 c.requires.slots)

pub shape_of-bases-then-base-gt-MOST : goal.shape_of-bases-then-base-gt-MOST
shape_of-bases-then-base-gt-MOST c = (sizes_then_law c.loop-i.invariant.1 c.place_node-base.ensures.placing.sizes).bases_long

pub shape_of-entries-then-base-gt-MOST : goal.shape_of-entries-then-base-gt-MOST
shape_of-entries-then-base-gt-MOST c = (sizes_then_law c.loop-i.invariant.1 c.place_node-base.ensures.placing.sizes).entries_long

pub shape_of-parts-then-base-gt-MOST : goal.shape_of-parts-then-base-gt-MOST
shape_of-parts-then-base-gt-MOST c = (sizes_then_law c.loop-i.invariant.1 c.place_node-base.ensures.placing.sizes).parts_long

pub returns-then-base-gt-MOST : goal.returns-then-base-gt-MOST
returns-then-base-gt-MOST c = let lt = c.loop-i-test.true in
    let stored = c.place_node-base.ensures.placing in
    placed_over (held_of c.args.g.now).graph (routes_in c.args.s.now c.args.y) c.args.nodes.now c.args.n _ _ _
    (slots_same _ (sizes_then_law c.loop-i.invariant.1 stored.sizes) c.requires.slots) (c.loop-i.i + 1) _
    (placed_next (held_of c.args.g.now).graph (routes_in c.args.s.now c.args.y) c.args.nodes.now c.args.n _ _ _ c.loop-i.i _ _ _ _ _ lt c.loop-i.invariant.2 stored)
    (omega arith) c.if-base-gt-MOST.true

pub loop-i-preserved : goal.loop-i-preserved
loop-i-preserved c = let lt = c.loop-i-test.true in
    let stored = c.place_node-base.ensures.placing in
    (c.if-base-gt-MOST.false, sizes_then_law c.loop-i.invariant.1 stored.sizes, placed_next (held_of c.args.g.now).graph (routes_in c.args.s.now c.args.y) c.args.nodes.now c.args.n _ _ _ c.loop-i.i _ _ _ _ _ lt c.loop-i.invariant.2 stored, c.place_node-base.ensures.firsts, c.place_node-base.auto.firsts ∙ c.loop-i.invariant.4, λ j ge h. stored.rest j (omega arith) ∙ c.loop-i.invariant.5 j (omega arith) h)

pub returns : goal.returns
returns c = placed_end (held_of c.args.g.now).graph (routes_in c.args.s.now c.args.y) c.args.nodes.now c.args.n _ _ _ (slots_same _ c.loop-i.invariant.1 c.requires.slots) c.loop-i.i c.loop-i.base c.loop-i.invariant.2 (omega arith) c.loop-i.invariant.0
