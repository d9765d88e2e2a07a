use mathlib.Core.Path.{refl, sym, ap, ◌∙◌}
use mathlib.Core.List.{List}
use mathlib.Core.Logic.{inl, inr}
use native.Mathlib.Omega.{arith}
use borrow.Author.Tests.{lt-ltb}
use lib.ListN.{length, get_or}
use Rattle.graph.specs.Fold.{sum}
use Rattle.graph.specs.Graph.{no_block}
use Rattle.graph.specs.Lent.{held_of}
use Rattle.graph.specs.WellFormed.{filled}
use Rattle.graph.specs.declared.record.Block.{Block}
use Rattle.graph.proofs.RuleLaws.{filled_more, built_all, built_stop}
use Rattle.graph.proofs.rule.built_count.Goals as goal

pub loop-i-init : goal.loop-i-init
unfolding filled sum
loop-i-init c = record { rest = omega arith; unfilled = inl refl }

pub returns-then-left-b : goal.returns-then-left-b
returns-then-left-b c = let g = (held_of c.args.g.now).graph in
    let many = ap length c.blocks-b-items.ensures in
    let own = ap (λ (l : List Block). (get_or l c.loop-i.i no_block).count) c.blocks-b-items.ensures in
    (omega arith, λ b h. built_stop g c.loop-i.i c.loop-i.invariant.unfilled (omega (arith, filled_more g c.loop-i.i)) b)

pub loop-i-preserved : goal.loop-i-preserved
loop-i-preserved c = let g = (held_of c.args.g.now).graph in
    let own = ap (λ (l : List Block). (get_or l c.loop-i.i no_block).count) c.blocks-b-items.ensures in
    record { rest = omega (arith, filled_more g c.loop-i.i); unfilled = inr (omega (arith, filled_more g c.loop-i.i)) }

pub returns : goal.returns
returns c = let g = (held_of c.args.g.now).graph in
    let many = ap length c.blocks-b-items.ensures in
    (omega arith, λ b h. built_all g c.loop-i.i c.loop-i.invariant.unfilled b (omega arith) ∙ sym (lt-ltb b _ (omega arith)))
