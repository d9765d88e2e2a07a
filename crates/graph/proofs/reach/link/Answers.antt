use mathlib.Core.Path.{◌≡◌, refl, ap}
use Prim.Native.Nat.{suc, ◌-◌}
use native.Mathlib.Numerals.{add-one}
use native.Mathlib.Omega.{arith}
use lib.ListN.{length-set}
use Rattle.graph.specs.declared.record.Edge.{Edge}
use Rattle.graph.specs.Lent.{held_of}
use Rattle.graph.proofs.RecordLaws.{block_most, edge_most}
use Rattle.graph.proofs.SearchLaws.{source_lt, linked_none, linked_more}
use Rattle.graph.proofs.reach.link.Goals as goal

pub loop-i-init : goal.loop-i-init
loop-i-init c = (omega arith, refl, refl, rw c.edge_count-i.ensures (linked_none _ c.args.head.now c.args.next.now c.requires.2))

pub offset_bounds-head-b : goal.offset_bounds-head-b
offset_bounds-head-b c =
    let source = ap (λ (e : Edge). e.source) c.edge_in-b.ensures in
    omega (arith, source_lt _ c.requires.0 (c.loop-i.i - 1) (omega arith), block_most c.args.g.now)

pub bounds-head-b : goal.bounds-head-b
bounds-head-b c =
    let source = ap (λ (e : Edge). e.source) c.edge_in-b.ensures in
    omega (arith, source_lt _ c.requires.0 (c.loop-i.i - 1) (omega arith), c.requires.1.blocks)

pub overflow_cast-head : goal.overflow_cast-head
overflow_cast-head c = omega (arith, edge_most c.args.g.now)

pub offset_bounds-head-b-in-loop-i : goal.offset_bounds-head-b-in-loop-i
offset_bounds-head-b-in-loop-i c =
    let source = ap (λ (e : Edge). e.source) c.edge_in-b.ensures in
    omega (arith, source_lt _ c.requires.0 (c.loop-i.i - 1) (omega arith), block_most c.args.g.now)

pub bounds-head-b-in-loop-i : goal.bounds-head-b-in-loop-i
bounds-head-b-in-loop-i c =
    let source = ap (λ (e : Edge). e.source) c.edge_in-b.ensures in
    omega (arith, source_lt _ c.requires.0 (c.loop-i.i - 1) (omega arith), c.requires.1.blocks)

pub loop-i-preserved : goal.loop-i-preserved
loop-i-preserved c = let i = c.loop-i.i - 1 in
    let next : c.loop-i.i ≡ suc i = omega arith in
    let s = source_lt (held_of c.args.g.now).graph c.requires.0 i (omega arith) in
    let more = linked_more (held_of c.args.g.now).graph c.loop-i.head c.loop-i.next i (omega arith) (omega (arith, s, c.requires.1.blocks)) (omega (arith, c.requires.1.edges)) (rw next at c.loop-i.invariant.3) in
    (omega arith, simp length-set c.loop-i.invariant.1, simp length-set c.loop-i.invariant.2, rw (c.edge_in-b.ensures, add-one) more)
