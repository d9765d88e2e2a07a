-- `leading_block` meets its contract: a built block whose first instruction starts at the address is the one. Assumes nothing.
use mathlib.Core.Path.{sym, ap, ◌∙◌}
use mathlib.Core.Bool.{◌&&◌}
use borrow.Author.Tests.{eqb-true, ltb-true}
use lib.Dec.{eqb, ltb}
use lib.ListN.{length}
use Rattle.graph.specs.Graph.{block}
use Rattle.graph.specs.Lent.{held_of}
use Rattle.addition.specs.Blocks.{first_of}
use Rattle.addition.proofs.Lists.{and_both}
use Rattle.unwind.specs.Stands.{led}
use Rattle.unwind.proofs.Standing.{leads_first}
use Rattle.unwind.proofs.blocks.leading_block.Goals as goal

pub returns-then-starts_at : goal.returns-then-starts_at
returns-then-starts_at c = let b = c.number_at-b.result in
    let g = (held_of c.args.g.now).graph in
    let x = and_both (ltb b c.args.built && ltb (block g b).first (length g.table)) (eqb (first_of g b).address c.args.a) (sym c.starts_at.ensures ∙ c.if-starts_at.true) in
    let y = and_both (ltb b c.args.built) (ltb (block g b).first (length g.table)) x.0 in
    sym (ap (led c.args.a) (leads_first g c.requires.stands c.args.built c.requires.built c.args.a b (ltb-true _ _ y.0) (ltb-true _ _ y.1) (eqb-true _ _ x.1)))
