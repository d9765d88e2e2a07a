-- `place_node` meets its contract: a later node of a funclet, or the first, by the slot of its funclet. Assumes nothing.
use mathlib.Core.Path.{sym, ap, ◌∙◌}
use Prim.Native.Nat.{ℕ, ◌≤◌}
use native.Mathlib.Omega.{arith}
use lib.ListN.{length}
use Rattle.image.specs.Image.{routes_in}
use Rattle.graph.specs.Lent.{held_of}
use Rattle.graph.proofs.RecordLaws.{block_most}
use Rattle.unwind.specs.declared.tries.store.NodeRecord.{NodeRecord}
use Rattle.unwind.specs.Nodes.{funclet_in}
use Rattle.addition.specs.Instance.{entry_block}
use Rattle.unwind.proofs.PlaceLaws.{sizes_kept, entry_lt, entry_built, entry_most, part_is, first_next, clone_next}
use Rattle.unwind.proofs.FirstLaws.{slot_here, slot_in_law, late_lt, late_none, late_like, firsts_late, none_yet, firsts_more}
use Rattle.unwind.proofs.place.place_node.Goals as goal

pub slot_of-slot-requires : goal.slot_of-slot-requires
slot_of-slot-requires c =
    let g = (held_of c.args.g.now).graph in
    let m = routes_in c.args.s.now c.args.y in
    omega (arith, c.number_in-entry.ensures.0 ∙ c.requires.entry_is, entry_most g m _ (block_most c.args.g.now) (c.requires.leads c.args.i (omega arith)))

pub place_clone-requires-clause-earlier : goal.place_clone-requires-clause-earlier
place_clone-requires-clause-earlier c =
    let g = (held_of c.args.g.now).graph in
    let m = routes_in c.args.s.now c.args.y in
    let at = slot_here g m c.args.nodes.now c.args.i (ap (λ (x : NodeRecord). x.funclet) c.node_in-f.ensures.is) (c.number_in-entry.ensures.0 ∙ c.requires.entry_is) c.slot_of-slot.ensures.root c.slot_of-slot.ensures.funclet in
    late_lt g m c.args.nodes.now c.args.firsts.now c.args.i _ _ at c.number_in-first.ensures.0 c.requires.leads c.requires.firsts c.if-first-ne0.true

pub shape_of-bases-then-first-ne0 : goal.shape_of-bases-then-first-ne0
shape_of-bases-then-first-ne0 c = (sizes_kept c.place_clone.ensures.placed).bases_long

pub shape_of-entries-then-first-ne0 : goal.shape_of-entries-then-first-ne0
shape_of-entries-then-first-ne0 c = (sizes_kept c.place_clone.ensures.placed).entries_long

pub shape_of-parts-then-first-ne0 : goal.shape_of-parts-then-first-ne0
shape_of-parts-then-first-ne0 c = (sizes_kept c.place_clone.ensures.placed).parts_long

pub returns-then-first-ne0-clause-placing : goal.returns-then-first-ne0-clause-placing
returns-then-first-ne0-clause-placing c =
    let g = (held_of c.args.g.now).graph in
    let m = routes_in c.args.s.now c.args.y in
    let at = slot_here g m c.args.nodes.now c.args.i (ap (λ (x : NodeRecord). x.funclet) c.node_in-f.ensures.is) (c.number_in-entry.ensures.0 ∙ c.requires.entry_is) c.slot_of-slot.ensures.root c.slot_of-slot.ensures.funclet in
    let stored = c.place_clone.ensures in
    clone_next g m c.args.nodes.now c.args.i _ _ _ _ _ _ c.requires.slots (block_most c.args.g.now) (c.requires.leads c.args.i (omega arith)) c.args.base _
    (late_none g m c.args.nodes.now c.args.firsts.now c.args.i _ _ at c.number_in-first.ensures.0 c.requires.leads c.requires.firsts c.if-first-ne0.true)
    (late_lt g m c.args.nodes.now c.args.firsts.now c.args.i _ _ at c.number_in-first.ensures.0 c.requires.leads c.requires.firsts c.if-first-ne0.true)
    (late_like g m c.args.nodes.now c.args.firsts.now c.args.i _ _ at c.number_in-first.ensures.0 c.requires.leads c.requires.firsts c.if-first-ne0.true)
    _ (rw (sym c.block_count-blocks.ensures) stored.members) stored.size stored.placed

pub returns-then-first-ne0-clause-firsts : goal.returns-then-first-ne0-clause-firsts
returns-then-first-ne0-clause-firsts c =
    let g = (held_of c.args.g.now).graph in
    let m = routes_in c.args.s.now c.args.y in
    let at = slot_here g m c.args.nodes.now c.args.i (ap (λ (x : NodeRecord). x.funclet) c.node_in-f.ensures.is) (c.number_in-entry.ensures.0 ∙ c.requires.entry_is) c.slot_of-slot.ensures.root c.slot_of-slot.ensures.funclet in
    firsts_late g m c.args.nodes.now c.args.firsts.now c.args.i _ _ at c.number_in-first.ensures.0 c.requires.leads c.requires.firsts c.if-first-ne0.true

pub number_in-first-requires : goal.number_in-first-requires
number_in-first-requires c =
    let g = (held_of c.args.g.now).graph in
    let m = routes_in c.args.s.now c.args.y in
    let at = slot_here g m c.args.nodes.now c.args.i (ap (λ (x : NodeRecord). x.funclet) c.node_in-f.ensures.is) (c.number_in-entry.ensures.0 ∙ c.requires.entry_is) c.slot_of-slot.ensures.root c.slot_of-slot.ensures.funclet in
    let within : c.slot_of-slot.result ≤ length g.blocks = rw at (slot_in_law g _ (c.requires.leads c.args.i (omega arith))) in
    omega (arith, within, c.requires.firsts.room)

pub offset_bounds-firsts-slot : goal.offset_bounds-firsts-slot
offset_bounds-firsts-slot c =
    let g = (held_of c.args.g.now).graph in
    let m = routes_in c.args.s.now c.args.y in
    let at = slot_here g m c.args.nodes.now c.args.i (ap (λ (x : NodeRecord). x.funclet) c.node_in-f.ensures.is) (c.number_in-entry.ensures.0 ∙ c.requires.entry_is) c.slot_of-slot.ensures.root c.slot_of-slot.ensures.funclet in
    let within : c.slot_of-slot.result ≤ length g.blocks = rw at (slot_in_law g _ (c.requires.leads c.args.i (omega arith))) in
    omega (arith, within, block_most c.args.g.now)

pub bounds-firsts-slot : goal.bounds-firsts-slot
bounds-firsts-slot c =
    let g = (held_of c.args.g.now).graph in
    let m = routes_in c.args.s.now c.args.y in
    let at = slot_here g m c.args.nodes.now c.args.i (ap (λ (x : NodeRecord). x.funclet) c.node_in-f.ensures.is) (c.number_in-entry.ensures.0 ∙ c.requires.entry_is) c.slot_of-slot.ensures.root c.slot_of-slot.ensures.funclet in
    let within : c.slot_of-slot.result ≤ length g.blocks = rw at (slot_in_law g _ (c.requires.leads c.args.i (omega arith))) in
    omega (arith, within, c.requires.firsts.room)

pub place_first-requires-clause-leads : goal.place_first-requires-clause-leads
place_first-requires-clause-leads c =
    let g = (held_of c.args.g.now).graph in
    let m = routes_in c.args.s.now c.args.y in
    let funclet = ap (λ (x : NodeRecord). x.funclet) c.node_in-f.ensures.is in
    let by-step = c.number_in-entry.ensures.0 ∙ c.requires.entry_is ∙ ap (λ (f : ℕ). entry_block g (funclet_in m f)) (sym funclet) in
    let lead = rw (sym funclet) at (c.requires.leads c.args.i (omega arith)) in
    λ ne. (rw by-step (entry_lt g m _ ne lead), rw by-step (entry_built g m _ ne lead))

pub place_first-requires-clause-entry_most : goal.place_first-requires-clause-entry_most
place_first-requires-clause-entry_most c =
    let g = (held_of c.args.g.now).graph in
    let m = routes_in c.args.s.now c.args.y in
    omega (arith, c.number_in-entry.ensures.0 ∙ c.requires.entry_is, entry_most g m _ (block_most c.args.g.now) (c.requires.leads c.args.i (omega arith)))

pub shape_of-bases : goal.shape_of-bases
shape_of-bases c = (sizes_kept c.place_first.ensures.placed).bases_long

pub shape_of-entries : goal.shape_of-entries
shape_of-entries c = (sizes_kept c.place_first.ensures.placed).entries_long

pub shape_of-parts : goal.shape_of-parts
shape_of-parts c = (sizes_kept c.place_first.ensures.placed).parts_long

pub returns-clause-placing : goal.returns-clause-placing
returns-clause-placing c =
    let g = (held_of c.args.g.now).graph in
    let m = routes_in c.args.s.now c.args.y in
    let at = slot_here g m c.args.nodes.now c.args.i (ap (λ (x : NodeRecord). x.funclet) c.node_in-f.ensures.is) (c.number_in-entry.ensures.0 ∙ c.requires.entry_is) c.slot_of-slot.ensures.root c.slot_of-slot.ensures.funclet in
    let funclet = ap (λ (x : NodeRecord). x.funclet) c.node_in-f.ensures.is in
    let by-step = c.number_in-entry.ensures.0 ∙ c.requires.entry_is ∙ ap (λ (f : ℕ). entry_block g (funclet_in m f)) (sym funclet) in
    let lead = rw (sym funclet) at (c.requires.leads c.args.i (omega arith)) in
    let stored = c.place_first.ensures in
    let has = rw funclet at (part_is g m _ _ _ _ lead c.requires.ready.bars by-step stored.root stored.part) in
    first_next g m c.args.nodes.now c.args.i _ _ _ _ _ _ c.requires.slots c.args.base
    (none_yet g m c.args.nodes.now c.args.firsts.now c.args.i _ _ at c.number_in-first.ensures.0 c.requires.leads c.requires.firsts c.if-first-ne0.false)
    (record { part = _; part_has = has; placed = rw (c.number_in-entry.ensures.0 ∙ c.requires.entry_is) at stored.placed })

pub returns-clause-firsts : goal.returns-clause-firsts
returns-clause-firsts c =
    let g = (held_of c.args.g.now).graph in
    let m = routes_in c.args.s.now c.args.y in
    let at = slot_here g m c.args.nodes.now c.args.i (ap (λ (x : NodeRecord). x.funclet) c.node_in-f.ensures.is) (c.number_in-entry.ensures.0 ∙ c.requires.entry_is) c.slot_of-slot.ensures.root c.slot_of-slot.ensures.funclet in
    firsts_more g m c.args.nodes.now c.args.firsts.now c.args.i _ _ at c.number_in-first.ensures.0 c.requires.leads c.requires.firsts c.if-first-ne0.false

pub place_clone-requires-clause-blocks_most : goal.place_clone-requires-clause-blocks_most
place_clone-requires-clause-blocks_most c = omega (arith, c.block_count-blocks.ensures, block_most c.args.g.now)
