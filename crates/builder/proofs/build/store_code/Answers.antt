-- A graph of nothing, then the table, then the blocks. Assumes nothing.
use mathlib.Core.Path.{sym}
use Rattle.builder.specs.Code.{image_of}
use Rattle.builder.proofs.BuildLaws.{code_laid}
use native.Mathlib.Omega.{arith}
use Rattle.builder.proofs.build.store_code.Goals as goal

pub store_blocks-requires : goal.store_blocks-requires
store_blocks-requires c = omega (arith, c.args.code.now.image.accepted.instructions_most, c.size-n.ensures)

pub returns : goal.returns
returns c = let m = image_of c.args.code.now in
    code_laid m c.args.code.now.image.accepted.instructions_most c.empty.ensures c.store_table.ensures
    (c.store_blocks.ensures m (sym c.size-n.ensures) c.requires.leading)
