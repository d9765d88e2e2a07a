use mathlib.Core.Path.{◌≡◌, ap}
use Rattle.builder.specs.Code.{image_of}
use Rattle.image.specs.declared.record.Instruction.{Instruction}
use Rattle.graph.specs.Fold.{flat}
use Rattle.graph.specs.Flow.{Slot}
use Rattle.graph.specs.Transfer.{transfer_at}
use Rattle.graph.specs.Edges.{transfer_edges, transfer_unresolved}
use Rattle.graph.proofs.AddingLaws.{added_none, flow_more}
use Rattle.builder.proofs.EdgeLaws.{case_fits, flow_most, end_most, end_all}
use native.Mathlib.Numerals.{add-one}
use native.Mathlib.Omega.{arith}
use borrow.Author.Rules.{rules}
use Rattle.builder.proofs.edges.add_transfers.Goals as goal

pub slots_of-slots-requires : goal.slots_of-slots-requires
slots_of-slots-requires c = flow_most (image_of c.args.numbered.now.code) c.args.c.at c.args.i c.requires.instruction _ c.flow_under-flow.ensures c.args.numbered.now.emitting.sourced.accepted

pub slot_end-n-requires : goal.slot_end-n-requires
slot_end-n-requires c = omega (arith, case_fits (image_of c.args.numbered.now.code) c.args.numbered.now.emitting.sourced c.args.c c.requires.cursor c.requires.at_in, ap (λ (x : Instruction). x.cases) c.requires.instruction)

pub loop-k-init : goal.loop-k-init
unfolding flat
loop-k-init c = (search rules, ap (λ (x : Slot × Slot). x.0) c.slots_of-slots.ensures, added_none _)

pub transfer_of-x-requires-clause-k_in : goal.transfer_of-x-requires-clause-k_in
transfer_of-x-requires-clause-k_in c = let flow = c.flow_under-flow.ensures in
    let most = end_most (image_of c.args.numbered.now.code) c.args.c.at c.args.i c.requires.instruction _ flow _ c.slots_of-slots.ensures _ c.slot_end-n.ensures c.args.numbered.now.emitting.sourced c.requires.at_in in
    omega (arith, most, c.loop-k-test.true)

pub loop-k-preserved : goal.loop-k-preserved
loop-k-preserved c = let m = image_of c.args.numbered.now.code in
    let p = c.args.c.at in (
      search rules,
      rw (add-one c.loop-k.k) (ap (λ (x : Slot × Slot). x.1) c.slots_of-slots.ensures),
      flow_more (λ i. transfer_edges m p (transfer_at m p i)) (λ i. transfer_unresolved m p (transfer_at m p i)) c.loop-k.k c.loop-k.invariant.2
          (rw c.transfer_of-x.ensures at c.add_transfer.ensures),
    )

pub returns : goal.returns
returns c = let m = image_of c.args.numbered.now.code in
    let p = c.args.c.at in
    let all = end_all m p c.args.i c.requires.instruction _ c.flow_under-flow.ensures _ c.slots_of-slots.ensures _ c.slot_end-n.ensures c.args.numbered.now.emitting.sourced c.requires.at_in in
    let last : c.loop-k.k ≡ c.slot_end-n.result = omega arith in
    rw (← all.0, ← all.1, ← last) c.loop-k.invariant.2
