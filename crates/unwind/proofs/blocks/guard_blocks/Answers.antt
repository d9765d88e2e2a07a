use mathlib.Core.Path.{sym, ap, ◌∙◌}
use mathlib.Core.Logic.{⊎_elim}
use Prim.Native.Nat.{◌<◌}
use native.Mathlib.Omega.{arith}
use lib.ListN.{length}
use Rattle.graph.specs.declared.record.TableEntry.{TableEntry}
use Rattle.graph.specs.Lent.{held_of}
use Rattle.graph.proofs.RecordLaws.{block_most}
use Rattle.addition.specs.Blocks.{first_of}
use Rattle.unwind.specs.Placed.{set_at, SetChanged}
use Rattle.unwind.proofs.Standing.{first_lt}
use Rattle.unwind.proofs.GuardLaws.{guarding_none, guarding_put, guarding_skip, guards_empty, guards_are}
use Rattle.unwind.proofs.SlotLaws.{put_same, put_again}
use Rattle.unwind.proofs.blocks.guard_blocks.Goals as goal

pub returns-then-table_count-eq0-clause-guards : goal.returns-then-table_count-eq0-clause-guards
returns-then-table_count-eq0-clause-guards c = let g = (held_of c.args.g.now).graph in
    let emptied = c.empty_set.ensures in
    rw emptied.here (guards_empty g c.args.start c.args.end (sym c.table_count.ensures ∙ c.if-table_count-eq0.true))

pub returns-then-table_count-eq0-clause-others : goal.returns-then-table_count-eq0-clause-others
returns-then-table_count-eq0-clause-others c = let emptied = c.empty_set.ensures in
    put_again (put_same _ _) emptied

pub loop-b-init : goal.loop-b-init
loop-b-init c = let emptied = c.empty_set.ensures in
    (rw emptied.here (guarding_none (held_of c.args.g.now).graph c.args.end c.block_from-first.result), put_same _ _)

pub first_of-entry-requires : goal.first_of-entry-requires
first_of-entry-requires c = let g = (held_of c.args.g.now).graph in
    let some_there : 0 < length g.table = omega (arith, c.if-table_count-eq0.false, c.table_count.ensures) in
    (omega (arith, c.requires.built.0, c.loop-b-test.true), first_lt g c.requires.stands c.args.built c.requires.built c.loop-b.b some_there c.loop-b-test.true)

pub shape_of-guards-then-end-entry : goal.shape_of-guards-then-end-entry
shape_of-guards-then-end-entry c = (put_again c.empty_set.ensures c.loop-b.invariant.1).long

pub returns-then-end-entry-clause-guards : goal.returns-then-end-entry-clause-guards
returns-then-end-entry-clause-guards c = let g = (held_of c.args.g.now).graph in
    guards_are g c.requires.stands c.args.built c.requires.built c.args.start c.args.end c.block_from-first.result c.loop-b.b
    (rw c.position.ensures at c.block_from-first.ensures)
    (omega arith) (λ h. omega (arith, ap (λ (x : TableEntry). x.address) c.first_of-entry.ensures, c.if-end-entry.true)) (set_at c.loop-b.guards c.args.r) c.loop-b.invariant.0

pub returns-then-end-entry-clause-others : goal.returns-then-end-entry-clause-others
returns-then-end-entry-clause-others c = put_again c.empty_set.ensures c.loop-b.invariant.1

pub put_block-requires : goal.put_block-requires
put_block-requires c =
    let kept : SetChanged c.args.guards.now c.args.r c.loop-b.guards = put_again c.empty_set.ensures c.loop-b.invariant.1 in
    let few : c.loop-b.b < c.args.built → c.loop-b.b < 1024 = λ h. omega (arith, c.requires.built.0, block_most c.args.g.now) in
    (omega (arith, (kept).long, c.requires.guards_fit), few c.loop-b-test.true)

pub loop-b-preserved : goal.loop-b-preserved
loop-b-preserved c = let few : c.loop-b.b < c.args.built → c.loop-b.b < 1024 = λ h. omega (arith, c.requires.built.0, block_most c.args.g.now) in
    let g = (held_of c.args.g.now).graph in
    let set = set_at c.loop-b.guards c.args.r in
    let first = c.block_from-first.result in
    let read = c.first_of-entry.ensures in
    let keeps = ap (λ (x : TableEntry). x.keeps) read in
    let low : (first_of g c.loop-b.b).address < c.args.end = omega (arith, ap (λ (x : TableEntry). x.address) read, c.if-end-entry.false) in
    (⊎_elim (λ w. rw (w.guards-is, w.put_block.ensures.here) (guarding_put g c.args.end first c.loop-b.b set (omega arith) c.loop-b.invariant.0 low (few c.loop-b-test.true) (sym keeps ∙ w.if-entry-eq1.true))) (λ w. rw w.guards-is (guarding_skip g c.args.end first c.loop-b.b set (omega arith) c.loop-b.invariant.0 low (λ e. w.if-entry-eq1.false (keeps ∙ e)))) c.if-entry-eq1.branch-raw, ⊎_elim (λ w. rw w.guards-is (put_again c.loop-b.invariant.1 w.put_block.ensures)) (λ w. rw w.guards-is c.loop-b.invariant.1) c.if-entry-eq1.branch-raw)

pub shape_of-guards : goal.shape_of-guards
shape_of-guards c = (put_again c.empty_set.ensures c.loop-b.invariant.1).long

pub returns-clause-guards : goal.returns-clause-guards
returns-clause-guards c = let g = (held_of c.args.g.now).graph in
    guards_are g c.requires.stands c.args.built c.requires.built c.args.start c.args.end c.block_from-first.result c.loop-b.b
    (rw c.position.ensures at c.block_from-first.ensures)
    (omega arith) (λ h. absurd (omega arith)) (set_at c.loop-b.guards c.args.r) c.loop-b.invariant.0

pub returns-clause-others : goal.returns-clause-others
returns-clause-others c = put_again c.empty_set.ensures c.loop-b.invariant.1
