-- `compare_ends` meets its contract. Assumes nothing.
use mathlib.Core.Path.{◌≡◌, sym, ap, ap₂, ◌∙◌}
use Rattle.image.specs.Deal.{end_of}
use Rattle.image.specs.declared.record.Path.{Path}
use Rattle.addition.specs.Order.{compare_ends}
use Rattle.unwind.proofs.TrieCompare.{number_cmp, ends_handlers, ends_apart}
use Rattle.unwind.proofs.tries.compare.compare_ends.Goals as goal
use Rattle.unwind.proofs.tries.compare.compare_ends.Goals.{else-a-eq-HANDLER-via-then-a-eq-HANDLER+else-b-eq-HANDLER, else-a-eq-HANDLER-via-else-a-eq-HANDLER}

pub returns-then-b-eq-HANDLER : goal.returns-then-b-eq-HANDLER
returns-then-b-eq-HANDLER c = number_cmp _ _ c.cmp.result c.cmp.ensures
    ∙ sym (ends_handlers c.path_of-a.result c.path_of-b.result c.if-a-eq-HANDLER.true c.if-b-eq-HANDLER.true)
    ∙ ap₂ (λ (x z : Path). compare_ends (end_of x) (end_of z)) c.path_of-a.ensures c.path_of-b.ensures

pub returns : goal.returns
returns c = let first = ap (λ (p : Path). p.end) c.path_of-a.ensures in
    let second = ap (λ (p : Path). p.end) c.path_of-b.ensures in
    let apart : c.path_of-a.result.end ≡ 0 → c.path_of-b.result.end ≡ 0 → ⊥ = elim c.else-a-eq-HANDLER.branch [ else-a-eq-HANDLER-via-then-a-eq-HANDLER+else-b-eq-HANDLER w ↦ λ e f. w.if-b-eq-HANDLER.false f | else-a-eq-HANDLER-via-else-a-eq-HANDLER w ↦ λ e f. w.if-a-eq-HANDLER.false e ] in
    number_cmp _ _ c.cmp-2.result c.cmp-2.ensures
    ∙ sym (ends_apart c.path_of-a.result c.path_of-b.result (rw first (c.requires.accepted.ends c.args.p)) (rw second (c.requires.accepted.ends c.args.q)) apart)
    ∙ ap₂ (λ (x' z' : Path). compare_ends (end_of x') (end_of z')) c.path_of-a.ensures c.path_of-b.ensures
