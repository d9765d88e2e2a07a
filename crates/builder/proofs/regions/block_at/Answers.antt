-- `block_at` meets its contract: the address starts an instruction, so it is found. Assumes nothing.
use Rattle.builder.specs.Code.{image_of}
use Rattle.graph.proofs.TableLaws.{length-entries}
use Rattle.builder.proofs.RegionLaws.{block_found}
use native.Mathlib.Omega.{arith}
use Rattle.builder.proofs.regions.block_at.Goals as goal

pub block_of-requires : goal.block_of-requires
block_of-requires c = let found = rw c.in-Some.is at c.find.ensures in
    omega (arith, found.2, length-entries (image_of c.args.numbered.now.code).instructions)

pub returns : goal.returns
returns c = let found = rw c.in-Some.is at c.find.ensures in
    block_found (image_of c.args.numbered.now.code) c.args.numbered.now.blocks.now c.args.a _ _ c.args.numbered.now.handled.numbered found c.block_of.ensures
