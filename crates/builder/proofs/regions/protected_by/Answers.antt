-- `protected_by` meets its contract: the handler passed its check, so its range has positions. Assumes nothing.
use mathlib.Core.Path.{◌∙◌}
use Rattle.builder.specs.Code.{image_of}
use Rattle.graph.specs.Transfer.{table_of}
use Rattle.graph.proofs.TableLaws.{length-entries}
use Rattle.builder.proofs.RegionLaws.{range_known, range_passes}
use Rattle.builder.proofs.RangedLaws.{has_positions}
use native.Mathlib.Omega.{arith}
use Rattle.builder.proofs.regions.protected_by.Goals as goal

pub returns-in_default : goal.returns-in_default
returns-in_default c = let m = image_of c.args.numbered.now.code in
    absurd (has_positions (table_of m) _ _ (range_passes m c.args.h c.requires.checked _ c.handler-own.ensures) c.range_check-found.result c.range_check-found.ensures c.in_default.not-Ok)

pub blocks_between-requires-clause-past_in : goal.blocks_between-requires-clause-past_in
blocks_between-requires-clause-past_in c = let range = rw c.in-Ok.is at c.range_check-found.ensures in
    let size = length-entries (image_of c.args.numbered.now.code).instructions in
    omega arith

pub returns : goal.returns
returns c = let range = rw c.in-Ok.is at c.range_check-found.ensures in
    c.blocks_between.ensures ∙ range_known (image_of c.args.numbered.now.code) c.args.numbered.now.blocks.now c.args.h _ _ c.args.numbered.now.handled.numbered c.handler-own.ensures range
