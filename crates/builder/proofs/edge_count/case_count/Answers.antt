use mathlib.Core.Path.{refl, ap, ◌∙◌}
use mathlib.Core.List.{[]}
use Prim.Native.Nat.{◌+◌}
use lib.ListN.{get_or}
use Rattle.builder.specs.Code.{image_of}
use Rattle.image.specs.Record.{case_from}
use Rattle.image.specs.declared.record.Case.{Case}
use Rattle.graph.specs.Fold.{count}
use Rattle.graph.specs.Transfer.{word, Transfer, case_transfer}
use Rattle.graph.specs.Edges.{resolved}
use Rattle.graph.proofs.FoldLaws.{count_le}
use Rattle.builder.specs.Slots.{transfer_in}
use Rattle.builder.proofs.CountLaws.{count_next, word_most}
use native.Mathlib.Omega.{arith}
use borrow.Author.Rules.{rules}
use Rattle.builder.proofs.edge_count.case_count.Goals as goal

pub loop-k-init : goal.loop-k-init
unfolding count
loop-k-init c = (search rules, refl)

pub overflow_add-edges : goal.overflow_add-edges
overflow_add-edges c = let m = image_of c.args.code.now in
    omega
    (arith, c.resolves-edges.ensures, word_most (resolved m (transfer_in c.case_transfer.result)), c.loop-k.invariant.1, count_le (λ i. resolved m (case_transfer (get_or m.cases (c.args.first + i) (case_from [] 0)) i)) c.loop-k.k, c.requires.most)

pub loop-k-preserved : goal.loop-k-preserved
loop-k-preserved c = let m = image_of c.args.code.now in
    let is = c.case_transfer.ensures ∙ ap (λ (x : Case). case_transfer x c.loop-k.k) c.case-case.ensures in
    let now = c.resolves-edges.ensures ∙ ap (λ (x : Transfer). word (resolved m x)) is in
    (search rules, omega (arith, now, c.loop-k.invariant.1, count_next (λ i. resolved m (case_transfer (get_or m.cases (c.args.first + i) (case_from [] 0)) i)) c.loop-k.k))
