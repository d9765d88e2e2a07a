-- `widen_last` meets its contract. Assumes nothing.
use mathlib.Core.Path.{◌≡◌, ap, ◌∙◌}
use Prim.Native.Nat.{ℕ, suc, ◌-◌}
use native.Mathlib.Omega.{arith}
use lib.ListN.{length}
use Rattle.graph.specs.Section.{size}
use Rattle.unwind.specs.declared.hops.HopRow.{HopRow}
use Rattle.unwind.specs.HopWords.{hop_rows, rows_in, hop_at}
use Rattle.unwind.proofs.HopLaws.{hops_number, hop_is, last_widened}
use Rattle.unwind.proofs.hops.widen_last.Goals as goal

abbrev lists : HopRow → ℕ
lists x = x.lists

pub overflow_add-h : goal.overflow_add-h
overflow_add-h c = let l = c.args.h.now in
    let is : c.hop_at-lists.result.lists ≡ (hop_at (rows_in l) (length (rows_in l).hops - 1)).lists = ap lists c.hop_at-lists.ensures ∙ ap (λ (k : ℕ). (hop_at (rows_in l) (k - 1)).lists) c.hop_count-n.ensures.0 in
    omega (arith, is, c.requires.1)

pub returns : goal.returns
returns c = let l = c.args.h.now in
    let last : suc (c.hop_count-n.result - 1) ≡ size hop_rows l = omega (arith, c.hop_count-n.ensures.0, hops_number l, c.requires.0) in
    let is = ap lists (c.hop_at-lists.ensures ∙ hop_is l (c.hop_count-n.result - 1) (omega (arith, c.hop_count-n.ensures.0, c.requires.0))) in
    rw is (last_widened l c.whole.ensures (c.hop_count-n.result - 1) last)
