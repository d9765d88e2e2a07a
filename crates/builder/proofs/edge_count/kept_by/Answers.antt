-- The handler passed its check, so its range has positions; between them stand those that keep. Assumes nothing.
use Rattle.builder.specs.Code.{image_of}
use Rattle.graph.specs.Transfer.{table_of}
use Rattle.graph.proofs.TableLaws.{length-entries}
use Rattle.builder.proofs.RegionLaws.{range_passes}
use Rattle.builder.proofs.RangedLaws.{has_positions}
use Rattle.builder.proofs.CountLaws.{kept_between}
use native.Mathlib.Omega.{arith}
use Rattle.builder.proofs.edge_count.kept_by.Goals as goal

pub returns-in_default : goal.returns-in_default
returns-in_default c = let m = image_of c.args.code.now in
    absurd (has_positions (table_of m) _ _ (range_passes m c.args.h c.requires.checked _ c.handler-own.ensures) c.range_check-found.result c.range_check-found.ensures c.in_default.not-Ok)

pub offset_bounds-kept-range : goal.offset_bounds-kept-range
offset_bounds-kept-range c = let range = rw c.in-Ok.is at c.range_check-found.ensures in
    omega (arith, range.4, c.args.code.now.image.accepted.instructions_most, length-entries (image_of c.args.code.now).instructions)

pub bounds-kept-range : goal.bounds-kept-range
bounds-kept-range c = let range = rw c.in-Ok.is at c.range_check-found.ensures in
    omega (arith, range.4, c.args.code.now.image.accepted.instructions_most, length-entries (image_of c.args.code.now).instructions)

pub offset_bounds-kept-range-2 : goal.offset_bounds-kept-range-2
offset_bounds-kept-range-2 c = let range = rw c.in-Ok.is at c.range_check-found.ensures in
    omega (arith, range.3, range.4, c.args.code.now.image.accepted.instructions_most, length-entries (image_of c.args.code.now).instructions)

pub bounds-kept-range-2 : goal.bounds-kept-range-2
bounds-kept-range-2 c = let range = rw c.in-Ok.is at c.range_check-found.ensures in
    omega (arith, range.3, range.4, c.args.code.now.image.accepted.instructions_most, length-entries (image_of c.args.code.now).instructions)

pub overflow_sub-result : goal.overflow_sub-result
overflow_sub-result c = let range = rw c.in-Ok.is at c.range_check-found.ensures in
    omega (arith, kept_between (image_of c.args.code.now) c.args.kept.now c.args.h _ _ c.requires.kept c.requires.checked c.handler-own.ensures range)

pub returns : goal.returns
returns c = let range = rw c.in-Ok.is at c.range_check-found.ensures in
    omega (arith, kept_between (image_of c.args.code.now) c.args.kept.now c.args.h _ _ c.requires.kept c.requires.checked c.handler-own.ensures range)
