-- `last_of` meets its contract: a run lies in the table. Assumes nothing.
use mathlib.Core.Path.{ap}
use native.Mathlib.Omega.{arith}
use Rattle.graph.specs.declared.record.Block.{Block}
use Rattle.graph.proofs.RecordLaws.{entry_most}
use Rattle.unwind.proofs.blocks.last_of.Goals as goal

pub overflow_add-end : goal.overflow_add-end
overflow_add-end c = let g = c.args.g.now in
    omega (arith, c.requires.0.fits c.args.b, entry_most g, ap (λ (x : Block). x.first) c.block_in-run.ensures, ap (λ (x : Block). x.count) c.block_in-run.ensures)
