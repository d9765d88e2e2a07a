use mathlib.Core.Path.{◌≡◌, sym, ◌∙◌}
use mathlib.Core.Logic.{⊎_elim}
use Prim.Native.Nat.{◌<◌}
use native.Mathlib.Omega.{arith}
use lib.ListN.{length}
use Rattle.graph.specs.Lent.{held_of}
use Rattle.graph.proofs.RecordLaws.{block_most}
use Rattle.unwind.proofs.PartLaws.{returners_none, returners_put, returners_skip, returners_are}
use Rattle.unwind.proofs.part.returning_blocks.Goals as goal

pub loop-b-init : goal.loop-b-init
loop-b-init c = rw c.requires.empty (returners_none _)

pub loop-b-preserved : goal.loop-b-preserved
loop-b-preserved c = let g = (held_of c.args.g.now).graph in
    let count = c.block_count-n.ensures in
    let is = sym c.returning.ensures in
    let few : c.loop-b.b < 1024 = omega (arith, count, block_most c.args.g.now) in
    ⊎_elim (λ w. rw (w.set-is ∙ w.put_in.ensures) (returners_put g c.loop-b.b c.loop-b.set c.loop-b.invariant few (is ∙ w.if-returning.true))) (λ w. rw w.set-is (returners_skip g c.loop-b.b c.loop-b.set c.loop-b.invariant (is ∙ w.if-returning.false))) c.if-returning.branch-raw

pub returns : goal.returns
returns c = let g = (held_of c.args.g.now).graph in
    let all : c.loop-b.b ≡ length g.blocks = omega (arith, c.block_count-n.ensures) in
    returners_are g c.loop-b.set (rw all at c.loop-b.invariant)
