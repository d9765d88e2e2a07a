-- `find_start` meets its contract: a start stands at its position. Assumes nothing.
use mathlib.Core.Path.{◌≡◌, sym, ◌∙◌}
use native.Mathlib.Omega.{arith}
use Rattle.graph.specs.Lent.{held_of}
use Rattle.graph.specs.Table.{below}
use Rattle.graph.proofs.TableLaws.{start_has, below_at}
use Rattle.unwind.proofs.Standing.{table_rises}
use Rattle.unwind.proofs.blocks.find_start.Goals as goal

pub returns-then-is_start : goal.returns-then-is_start
returns-then-is_start c = let g = (held_of c.args.g.now).graph in
    let is = sym c.is_start.ensures ∙ c.if-is_start.true in
    let k = start_has g.table c.args.a is in
    let at : below g.table c.args.a ≡ k.0 = rw k.2 at (below_at g.table (table_rises g c.requires) k.0 k.1) in
    (is, sym c.position-p.ensures, omega (arith, at, k.1, c.position-p.ensures))
