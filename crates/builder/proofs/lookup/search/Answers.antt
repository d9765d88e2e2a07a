use mathlib.Core.Path.{ap, sym, ◌∙◌}
use Prim.Native.Nat.{◌+◌, ◌-◌, ◌/◌, ◌<◌}
use lib.ListN.{length}
use Rattle.image.specs.declared.record.Instruction.{Instruction}
use Rattle.builder.specs.Code.{image_of}
use Rattle.graph.specs.Transfer.{table_of}
use Rattle.graph.proofs.TableLaws.{length-entries, entry_address, start_at, start_none, below_at, go_left, go_right}
use native.Mathlib.Omega.{arith}
use borrow.Author.Rules.{rules}
use Rattle.builder.proofs.lookup.search.Goals as goal

pub loop-lo-init : goal.loop-lo-init
loop-lo-init c = (search rules, search rules, λ k h e. (search rules, omega (arith, h, length-entries (image_of c.args.code.now).instructions)))

pub returns-then-x-a : goal.returns-then-x-a
returns-then-x-a c = let mid = c.loop-lo.lo + (c.loop-lo.hi - c.loop-lo.lo) / 2 in
    let m = image_of c.args.code.now in
    let inside : mid < length (table_of m) = omega (arith, length-entries m.instructions) in
    let here = entry_address m mid ∙ sym (ap (λ (i : Instruction). i.address) c.instruction-x.ensures) ∙ c.if-x-a.true in
    (start_at (table_of m) c.args.a mid inside here, rw here at (below_at (table_of m) c.args.code.now.rising mid inside), inside)

pub loop-lo-preserved-then-x-a-2 : goal.loop-lo-preserved-then-x-a-2
loop-lo-preserved-then-x-a-2 c = let mid = c.loop-lo.lo + (c.loop-lo.hi - c.loop-lo.lo) / 2 in
    let m = image_of c.args.code.now in
    let inside : mid < length (table_of m) = omega (arith, length-entries m.instructions) in
    let here = entry_address m mid ∙ sym (ap (λ (i : Instruction). i.address) c.instruction-x.ensures) in
    (search rules, search rules, go_right (table_of m) c.args.code.now.rising c.args.a c.loop-lo.lo c.loop-lo.hi mid c.loop-lo.invariant.2 inside (rw here c.if-x-a-2.true))

pub loop-lo-preserved : goal.loop-lo-preserved
loop-lo-preserved c = let mid = c.loop-lo.lo + (c.loop-lo.hi - c.loop-lo.lo) / 2 in
    let m = image_of c.args.code.now in
    let inside : mid < length (table_of m) = omega (arith, length-entries m.instructions) in
    let here = entry_address m mid ∙ sym (ap (λ (i : Instruction). i.address) c.instruction-x.ensures) in
    let less : c.args.a < c.instruction-x.result.address = omega (arith, c.if-x-a.false, c.if-x-a-2.false) in
    (search rules, search rules, go_left (table_of m) c.args.code.now.rising c.args.a c.loop-lo.lo c.loop-lo.hi mid c.loop-lo.invariant.2 inside (rw here less))

pub returns : goal.returns
returns c = start_none (table_of (image_of c.args.code.now)) c.args.a
    (λ k h e. let b = c.loop-lo.invariant.2 k h e in omega arith)
