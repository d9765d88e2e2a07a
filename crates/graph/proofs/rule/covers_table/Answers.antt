use mathlib.Core.Path.{◌≡◌, refl, sym, ap}
use mathlib.Core.List.{List}
use mathlib.Core.Bool.{true}
use mathlib.Core.Logic.{inl, inr}
use native.Mathlib.Omega.{arith}
use lib.ListN.{length, get_or}
use Rattle.graph.specs.Fold.{all, sum}
use Rattle.graph.specs.Graph.{no_block}
use Rattle.graph.specs.declared.record.Block.{Block}
use Rattle.graph.specs.Lent.{held_of}
use Rattle.graph.specs.WellFormed.{filled}
use Rattle.graph.proofs.FoldLaws.{all_more}
use Rattle.graph.proofs.RuleLaws.{built_all, in_place, place_test, place_stays, covers_not, covers_full, covers_end}
use Rattle.graph.proofs.rule.covers_table.Goals as goal

pub loop-b-init : goal.loop-b-init
unfolding filled sum all
loop-b-init c = record { run = refl; fits = omega arith; placed = refl; unfilled = inl refl }

pub returns-then-b-filled : goal.returns-then-b-filled
returns-then-b-filled c = let g = (held_of c.args.g.now).graph in
    let many = ap length c.blocks-b-items.ensures in
    let built = built_all g c.loop-b.b-index c.loop-b.invariant.unfilled c.loop-b.b-index (omega arith) in
    sym (covers_not g c.loop-b.b-index (omega arith) (place_test g c.loop-b.b-index _ c.loop-b.filled _ true (ap (λ (l : List Block). get_or l c.loop-b.b-index no_block) c.blocks-b-items.ensures) c.loop-b.invariant.run c.table_count-table.ensures built (omega arith) c.if-b-filled.true))

pub returns-then-filled-table : goal.returns-then-filled-table
returns-then-filled-table c =
    let g = (held_of c.args.g.now).graph in
    let many = ap length c.blocks-b-items.ensures in
    let stays = place_stays g c.loop-b.b-index _ c.loop-b.filled _ (ap (λ (l : List Block). get_or l c.loop-b.b-index no_block) c.blocks-b-items.ensures) c.loop-b.invariant.run c.table_count-table.ensures (built_all g c.loop-b.b-index c.loop-b.invariant.unfilled c.loop-b.b-index (omega arith)) (omega arith) c.if-b-filled.false in
    sym (covers_full g c.loop-b.b-index (omega arith) (all_more (in_place g) c.loop-b.b-index c.loop-b.invariant.placed stays.0) (omega arith))

pub loop-b-preserved : goal.loop-b-preserved
loop-b-preserved c =
    let g = (held_of c.args.g.now).graph in
    let many = ap length c.blocks-b-items.ensures in
    let stays = place_stays g c.loop-b.b-index _ c.loop-b.filled _ (ap (λ (l : List Block). get_or l c.loop-b.b-index no_block) c.blocks-b-items.ensures) c.loop-b.invariant.run c.table_count-table.ensures (built_all g c.loop-b.b-index c.loop-b.invariant.unfilled c.loop-b.b-index (omega arith)) (omega arith) c.if-b-filled.false in
    record { run = stays.1; fits = omega arith; placed = all_more (in_place g) c.loop-b.b-index c.loop-b.invariant.placed stays.0; unfilled = inr (omega arith) }

pub returns : goal.returns
returns c = let many = ap length c.blocks-b-items.ensures in
    let whole : c.loop-b.b-index ≡ length (held_of c.args.g.now).graph.blocks = omega arith in
    rw (c.table_count-table.ensures, c.loop-b.invariant.run, whole) (covers_end (held_of c.args.g.now).graph (rw whole at c.loop-b.invariant.placed) (rw (← whole) (omega arith)))
