use mathlib.Core.Path.{◌≡◌, refl, sym, ◌∙◌}
use mathlib.Core.Logic.{inl, inr, ⊎_elim}
use Prim.Native.Nat.{◌<◌}
use native.Mathlib.Omega.{arith}
use lib.ListN.{length, length-set}
use Rattle.unwind.specs.Placed.{returns_in}
use Rattle.unwind.proofs.ReturnLaws.{returns_word}
use Rattle.unwind.proofs.MemberLaws.{originals_none, originals_more, originals_skip}
use Rattle.unwind.proofs.emit.busy.original_nodes.Goals as goal

pub loop-i-init : goal.loop-i-init
loop-i-init c = (omega arith, refl, originals_none c.args.bases.now (returns_in c.args.parts.now c.args.returners.now) c.args.list.now c.args.w)

pub overflow_mul-i : goal.overflow_mul-i
overflow_mul-i c = omega (arith, c.requires.1, c.loop-i-test.true)

pub overflow_add-i : goal.overflow_add-i
overflow_add-i c = omega (arith, c.requires.1, c.requires.3, c.loop-i-test.true)

pub offset_bounds-parts-i : goal.offset_bounds-parts-i
offset_bounds-parts-i c = omega (arith, c.requires.1, c.requires.3, c.loop-i-test.true)

pub bounds-parts-i : goal.bounds-parts-i
bounds-parts-i c = omega (arith, c.requires.2, c.requires.3, c.loop-i-test.true)

pub offset_bounds-returners-w : goal.offset_bounds-returners-w
offset_bounds-returners-w c = omega (arith, c.requires.3)

pub bounds-returners-w : goal.bounds-returners-w
bounds-returners-w c = omega (arith, c.requires.3)

pub overflow_cast-list : goal.overflow_cast-list
overflow_cast-list c = omega (arith, c.requires.1, c.loop-i-test.true)

pub offset_bounds-list-count : goal.offset_bounds-list-count
offset_bounds-list-count c = omega (arith, c.requires.1, c.loop-i-test.true, c.loop-i.invariant.2.few)

pub bounds-list-count : goal.bounds-list-count
bounds-list-count c = omega (arith, c.requires.0, c.loop-i-test.true, c.loop-i.invariant.1, c.loop-i.invariant.2.few)

pub overflow_add-count : goal.overflow_add-count
overflow_add-count c = omega (arith, c.requires.1, c.loop-i-test.true, c.loop-i.invariant.2.few)

pub loop-i-preserved : goal.loop-i-preserved
loop-i-preserved c = let bases = c.args.bases.now in
    let returns = returns_in c.args.parts.now c.args.returners.now in
    let test = c.loop-i-test.true in
    let base = c.number_in.ensures.0 in
    let fit : c.loop-i.count < length c.loop-i.list = omega (arith, c.requires.0, test, c.loop-i.invariant.1, c.loop-i.invariant.2.few) in
    ⊎_elim (λ v. rw (v.list-is, v.count-is) (omega (arith, test), length-set c.loop-i.list c.loop-i.count c.loop-i.i ∙ c.loop-i.invariant.1, originals_more bases returns c.loop-i.list c.loop-i.i c.args.w c.loop-i.count c.loop-i.invariant.2 fit (sym base ∙ v.if-number_in-eq0.true))) (⊎_elim (λ v. rw (v.list-is, v.count-is) (omega (arith, test), c.loop-i.invariant.1, originals_skip bases returns c.loop-i.list c.loop-i.i c.args.w c.loop-i.count c.loop-i.invariant.2 (inr (returns_word c.args.parts.now c.args.returners.now c.loop-i.i c.args.w c.requires.3 ∙ v.if-parts-i-ne0.false)))) (λ v. rw (v.list-is, v.count-is) (omega (arith, test), c.loop-i.invariant.1, originals_skip bases returns c.loop-i.list c.loop-i.i c.args.w c.loop-i.count c.loop-i.invariant.2 (inl (λ e. v.if-number_in-eq0.false (base ∙ e)))))) c.if-number_in-eq0.branch-raw

pub shape_of-list : goal.shape_of-list
shape_of-list c = c.loop-i.invariant.1

pub returns : goal.returns
returns c = let all : c.loop-i.i ≡ c.args.n = omega (arith, c.loop-i.invariant.0) in
    rw all at c.loop-i.invariant.2
