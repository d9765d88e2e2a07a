-- The entry is a start, by 6; without one it is block 0. Assumes nothing.
use mathlib.Core.Path.{◌∙◌}
use Rattle.builder.specs.Code.{image_of}
use Rattle.graph.proofs.BuiltChecks.{entry_starts}
use Rattle.graph.proofs.BuiltBlocks.{entry_is, entry_none}
use Rattle.builder.proofs.build.entry_block.Goals as goal

pub block_at-requires : goal.block_at-requires
block_at-requires c = record { start = entry_starts (image_of c.args.numbered.now.code) c.if-header.true c.requires.entry_clear }

pub returns-then-header : goal.returns-then-header
returns-then-header c = c.block_at.ensures ∙ entry_is (image_of c.args.numbered.now.code) c.if-header.true

pub returns : goal.returns
returns c = entry_none (image_of c.args.numbered.now.code) c.if-header.false
