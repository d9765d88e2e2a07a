use mathlib.Core.Path.{◌≡◌, sym, ap, ◌∙◌}
use mathlib.Core.Bool.{true, false}
use Prim.Native.Nat.{◌+◌, ◌-◌, ◌/◌}
use native.Mathlib.Omega.{arith}
use Rattle.unwind.specs.declared.hops.HopRow.{HopRow}
use Rattle.unwind.specs.Interning.{is_lt}
use Rattle.addition.specs.Ways.{compare_leaps}
use Rattle.unwind.specs.Flags.{pair, row_leap, leap_at}
use Rattle.unwind.proofs.FindLaws.{between_all, between_right, between_left, between_end}
use Rattle.unwind.proofs.wants.find.search.Goals as goal

pub loop-lo-init : goal.loop-lo-init
loop-lo-init c = between_all c.args.h.now c.requires.0 (pair c.args.b c.args.t) _ c.hop_count-hi.ensures.0

pub loop-lo-preserved-then-comes_before : goal.loop-lo-preserved-then-comes_before
loop-lo-preserved-then-comes_before c = let h = c.args.h.now in
    let x = pair c.args.b c.args.t in
    let mid = c.loop-lo.lo + (c.loop-lo.hi - c.loop-lo.lo) / 2 in
    let less : is_lt (compare_leaps (leap_at h mid) x) ≡ true = ap (λ (y : HopRow). is_lt (compare_leaps (row_leap y) x)) (sym c.hop_at.ensures) ∙ sym c.comes_before.ensures ∙ c.if-comes_before.true in
    between_right h c.requires.0 x c.loop-lo.lo c.loop-lo.hi mid c.loop-lo.invariant (omega arith) less

pub loop-lo-preserved : goal.loop-lo-preserved
loop-lo-preserved c = let h = c.args.h.now in
    let x = pair c.args.b c.args.t in
    let mid = c.loop-lo.lo + (c.loop-lo.hi - c.loop-lo.lo) / 2 in
    let more : is_lt (compare_leaps (leap_at h mid) x) ≡ false = ap (λ (y : HopRow). is_lt (compare_leaps (row_leap y) x)) (sym c.hop_at.ensures) ∙ sym c.comes_before.ensures ∙ c.if-comes_before.false in
    between_left h c.requires.0 x c.loop-lo.lo c.loop-lo.hi mid c.loop-lo.invariant (omega arith) more

pub returns : goal.returns
returns c = let there = c.requires.1 in
    let found = between_end c.args.h.now c.requires.0 (pair c.args.b c.args.t) c.loop-lo.lo c.loop-lo.hi c.loop-lo.invariant (omega arith) there.hop there.makes in
    (found, omega (arith, found.stands, c.hop_count-hi.ensures))
