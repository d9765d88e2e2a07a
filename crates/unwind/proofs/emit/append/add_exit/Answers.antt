-- `add_exit` meets its contract. Assumes nothing.
use mathlib.Core.Path.{◌≡◌, sym, ap, ◌∙◌}
use mathlib.Core.List.{[], ◌∷◌}
use Prim.Native.Nat.{◌+◌, ◌-◌}
use native.Mathlib.Omega.{arith}
use lib.ListN.{length, length-append}
use Rattle.unwind.specs.HopWords.{Rows, rows_in, with_hop, with_run, with_wider, hop_to, run_of, rows_then}
use Rattle.unwind.proofs.HopLaws.{hops_onto}
use Rattle.unwind.proofs.RowLaws.{some_leaps, last_few, then_wide, then_new}
use Rattle.unwind.proofs.emit.append.add_exit.Goals as goal

pub widen_last-requires : goal.widen_last-requires
widen_last-requires c = let r = rows_in c.args.h.now in
    let e = c.args.e in
    let some = some_leaps r.hops c.args.b e.what (sym c.last_leaps-same.ensures ∙ c.if-same.true) in
    let few = last_few 0 r.hops (length r.lists) (length r.hops - 1) c.requires.0.lists_follow in
    rw c.add_list.ensures.holds (some, omega (arith, few, c.requires.1))

pub returns-then-same : goal.returns-then-same
returns-then-same c = hops_onto with_wider c.add_list.ensures c.widen_last.ensures (sym (then_wide (rows_in c.args.h.now) c.args.b c.args.e (sym c.last_leaps-same.ensures ∙ c.if-same.true)))

pub add_hop-requires : goal.add_hop-requires
add_hop-requires c = let r = rows_in c.args.h.now in
    let new = then_new r c.args.b c.args.e (sym c.last_leaps-same.ensures ∙ c.if-same.false) in
    let long : length (rows_then r c.args.b c.args.e).hops ≡ length r.hops + 1 = ap (λ (q : Rows). length q.hops) new ∙ length-append r.hops (hop_to c.args.b c.args.e.what (length r.lists) ∷ []) in
    rw c.add_list.ensures.holds (omega (arith, long, c.requires.2))

pub returns : goal.returns
returns c = let r = rows_in c.args.h.now in
    let new = then_new r c.args.b c.args.e (sym c.last_leaps-same.ensures ∙ c.if-same.false) in
    let is : c.hop_to.result ≡ hop_to c.args.b c.args.e.what (length r.lists) = c.hop_to.ensures ∙ ap (hop_to c.args.b c.args.e.what) c.list_count-first.ensures.0 in
    hops_onto (λ (q : Rows). with_hop q c.hop_to.result) c.add_list.ensures c.add_hop.ensures (ap (with_hop (with_run r (run_of c.args.e))) is ∙ sym new)
