use mathlib.Core.Path.{◌≡◌, sym, ap, ◌∙◌}
use Prim.Native.Nat.{◌+◌}
use native.Mathlib.Omega.{arith}
use lib.ListN.{length}
use Rattle.unwind.specs.HopWords.{Rows, rows_in, rows_then, rows_on}
use Rattle.unwind.proofs.HopLaws.{hops_none, hops_onto}
use Rattle.unwind.proofs.RowLaws.{on_more, on_order, on_lists, on_longer}
use Rattle.unwind.proofs.emit.append.add_exits.Goals as goal

pub loop-k-init : goal.loop-k-init
unfolding rows_on
loop-k-init c = (omega arith, hops_none _)

pub add_exit-requires : goal.add_exit-requires
add_exit-requires c = let r = rows_in c.args.h.now in
    let l = c.args.exits.now in
    let taken = c.loop-k-test.true in
    let hops = ap (λ (q : Rows). length q.hops) (on_more r c.args.b l c.loop-k.k) in
    let most = on_longer r c.args.b l (c.loop-k.k + 1) c.args.n (omega (arith, taken)) in
    rw (c.loop-k.invariant.1.holds, c.branch_in-e.ensures.is)
    (on_order r c.args.b l c.loop-k.k c.requires.0, omega (arith, taken, on_lists r c.args.b l c.loop-k.k, c.requires.1), omega (arith, hops, most, c.requires.2))

pub loop-k-preserved : goal.loop-k-preserved
loop-k-preserved c = let r = rows_in c.args.h.now in
    let l = c.args.exits.now in (
      omega (arith, c.loop-k-test.true),
      hops_onto (λ (q : Rows). rows_then q c.args.b c.branch_in-e.result) c.loop-k.invariant.1 c.add_exit.ensures (ap (rows_then (rows_on r c.args.b l c.loop-k.k) c.args.b) c.branch_in-e.ensures.is ∙ sym (on_more r c.args.b l c.loop-k.k)),
    )

pub returns : goal.returns
returns c = let all : c.loop-k.k ≡ c.args.n = omega (arith, c.loop-k.invariant.0) in
    rw all at c.loop-k.invariant.1
