-- A case of a Switch, the first slot, or the second one. Assumes nothing.
use mathlib.Core.Path.{◌≡◌, refl, sym, ap, ◌∙◌}
use mathlib.Core.Logic.{⊎_elim}
use Prim.Native.Nat.{suc, ◌-◌, ◌<◌}
use Rattle.builder.specs.Code.{image_of}
use Rattle.image.specs.declared.record.Case.{Case}
use Rattle.graph.specs.Flow.{slots_of}
use Rattle.graph.specs.Transfer.{instruction_at, slot_transfer, case_transfer, transfer_at}
use Rattle.builder.proofs.CursorLaws.{cases_length}
use Rattle.builder.proofs.EdgeLaws.{case_next, case_inside, case_fits, case_is_slot, switch_count, two_count, flow_is, first_is, second_is}
use native.Mathlib.Omega.{arith}
use Rattle.builder.proofs.edges.transfer_of.Goals as goal

pub overflow_add-c : goal.overflow_add-c
overflow_add-c c = let m = image_of c.args.code.now in
    let switch = sym (flow_is m c.args.c.at c.args.i c.requires.instruction _ c.requires.flow) ∙ c.if-flow-eq-SWITCH.true in
    omega (arith, c.requires.k_in, switch_count m c.args.c.at switch, cases_length m c.requires.sourced c.args.c.at c.requires.at_in, case_fits m c.requires.sourced c.args.c c.requires.cursor c.requires.at_in)

pub case-case-requires : goal.case-case-requires
case-case-requires c = let m = image_of c.args.code.now in
    let switch = sym (flow_is m c.args.c.at c.args.i c.requires.instruction _ c.requires.flow) ∙ c.if-flow-eq-SWITCH.true in
    omega (arith, c.if-k-gt0.true, c.requires.k_in, switch_count m c.args.c.at switch, cases_length m c.requires.sourced c.args.c.at c.requires.at_in, case_inside m c.requires.sourced c.args.c c.requires.cursor c.requires.at_in)

pub returns-then-flow-eq-SWITCH : goal.returns-then-flow-eq-SWITCH
returns-then-flow-eq-SWITCH c = let m = image_of c.args.code.now in
    let q = c.args.c.at in
    let switch = sym (flow_is m q c.args.i c.requires.instruction _ c.requires.flow) ∙ c.if-flow-eq-SWITCH.true in
    let h : c.args.k - 1 < (instruction_at m q).cases = omega (arith, c.if-k-gt0.true, c.requires.k_in, switch_count m q switch, cases_length m c.requires.sourced q c.requires.at_in) in
    let k_is : suc (c.args.k - 1) ≡ c.args.k = omega (arith, c.if-k-gt0.true) in
    c.case_transfer.ensures
    ∙ ap (λ (x : Case). case_transfer x (c.args.k - 1)) (c.case-case.ensures ∙ case_next m c.requires.sourced c.args.c c.requires.cursor c.requires.at_in (c.args.k - 1) h)
    ∙ case_is_slot m q switch (c.args.k - 1)
    ∙ ap (transfer_at m q) k_is

pub returns : goal.returns
returns c = let m = image_of c.args.code.now in
    let q = c.args.c.at in
    ⊎_elim (λ v. let other = rw (flow_is m q c.args.i c.requires.instruction _ c.requires.flow) at v.if-flow-eq-SWITCH.false in
    let k_is : c.args.k ≡ 1 = omega (arith, v.if-k-gt0.true, c.requires.k_in, two_count m q other) in
    rw k_is (second_is m q c.args.i c.requires.instruction _ c.requires.flow _ (slots_of c.args.flow) refl v.if-flow-eq-SWITCH.false (c.slot_transfer.ensures ∙ ap (slot_transfer c.args.i) (rw k_is at c.requires.slot)))) (λ v. let k_is : c.args.k ≡ 0 = omega (arith, v.if-k-gt0.false) in
    rw k_is (first_is m q c.args.i c.requires.instruction _ c.requires.flow _ (slots_of c.args.flow) refl (c.slot_transfer.ensures ∙ ap (slot_transfer c.args.i) (rw k_is at c.requires.slot)))) c.else-k-gt0.branch-raw
