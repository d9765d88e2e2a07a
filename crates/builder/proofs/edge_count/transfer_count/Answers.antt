-- The first slot, then the cases or the second slot. Assumes nothing.
use mathlib.Core.Path.{sym, ap, ◌∙◌}
use mathlib.Core.List.{[]}
use Prim.Native.Nat.{◌+◌}
use lib.ListN.{get_or}
use Rattle.builder.specs.Code.{image_of}
use Rattle.image.specs.Record.{case_from}
use Rattle.image.specs.declared.record.Instruction.{Instruction}
use Rattle.graph.specs.Transfer.{word, Transfer, case_transfer}
use Rattle.graph.specs.Edges.{resolved}
use Rattle.graph.proofs.FoldLaws.{count_le}
use Rattle.builder.specs.Slots.{transfer_in}
use Rattle.builder.proofs.EdgeLaws.{case_inside, case_fits, flow_is, flow_most, first_is, second_is}
use Rattle.builder.proofs.CountLaws.{word_most, switch_count, two_count}
use native.Mathlib.Omega.{arith}
use Rattle.builder.proofs.edge_count.transfer_count.Goals as goal

pub slots_of-slots-requires : goal.slots_of-slots-requires
slots_of-slots-requires c = flow_most (image_of c.args.code.now) c.args.c.at c.args.i c.requires.instruction _ c.flow_under-flow.ensures c.requires.sourced.accepted

pub case_count-requires-clause-most : goal.case_count-requires-clause-most
case_count-requires-clause-most c = let m = image_of c.args.code.now in
    let inside = case_inside m c.requires.sourced c.args.c c.requires.cursor c.requires.at_in in
    let cases = ap (λ (x : Instruction). x.cases) c.requires.instruction in
    omega (arith, inside, cases, c.requires.sourced.accepted.cases_most)

pub case_count-requires-clause-cases_in : goal.case_count-requires-clause-cases_in
case_count-requires-clause-cases_in c = let m = image_of c.args.code.now in
    let inside = case_inside m c.requires.sourced c.args.c c.requires.cursor c.requires.at_in in
    let cases = ap (λ (x : Instruction). x.cases) c.requires.instruction in
    omega (arith, inside, cases)

pub overflow_add-result : goal.overflow_add-result
overflow_add-result c = let m = image_of c.args.code.now in
    omega
    (arith, c.resolves-first.ensures, word_most (resolved m (transfer_in c.slot_transfer.result)), c.case_count.ensures, count_le (λ k. resolved m (case_transfer (get_or m.cases (c.args.c.case + k) (case_from [] 0)) k)) c.args.i.cases, case_fits m c.requires.sourced c.args.c c.requires.cursor c.requires.at_in, ap (λ (x : Instruction). x.cases) c.requires.instruction)

pub returns-then-flow-eq-SWITCH : goal.returns-then-flow-eq-SWITCH
returns-then-flow-eq-SWITCH c = let m = image_of c.args.code.now in
    let flow = c.flow_under-flow.ensures in
    let first = first_is m c.args.c.at c.args.i c.requires.instruction _ flow _ _ c.slots_of-slots.ensures c.slot_transfer.ensures in
    let switch = sym (flow_is m c.args.c.at c.args.i c.requires.instruction _ flow) ∙ c.if-flow-eq-SWITCH.true in
    omega
    (arith, c.resolves-first.ensures ∙ ap (λ (x : Transfer). word (resolved m x)) first, c.case_count.ensures, switch_count m c.requires.sourced c.args.c c.requires.cursor c.requires.at_in c.args.i c.requires.instruction switch)

pub returns : goal.returns
returns c = let m = image_of c.args.code.now in
    let flow = c.flow_under-flow.ensures in
    let slots = c.slots_of-slots.ensures in
    let first = first_is m c.args.c.at c.args.i c.requires.instruction _ flow _ _ slots c.slot_transfer.ensures in
    let second = second_is m c.args.c.at c.args.i c.requires.instruction _ flow _ _ slots c.if-flow-eq-SWITCH.false c.slot_transfer-2.ensures in
    let is = flow_is m c.args.c.at c.args.i c.requires.instruction _ flow in
    omega
    (arith, c.resolves-first.ensures ∙ ap (λ (x : Transfer). word (resolved m x)) first, c.resolves.ensures ∙ ap (λ (x : Transfer). word (resolved m x)) second, two_count m c.requires.sourced c.args.c c.requires.cursor c.requires.at_in c.args.i c.requires.instruction (λ e. c.if-flow-eq-SWITCH.false (is ∙ e)))
