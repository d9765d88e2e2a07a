-- `handler_record` meets its contract, field by field. Assumes nothing.
use mathlib.Core.Path.{ap, ◌∙◌}
use mathlib.Core.List.{List}
use Prim.Native.Nat.{ℕ}
use Rattle.builder.specs.Code.{image_of}
use Rattle.graph.specs.Regions.{region_in, handler_record}
use Rattle.graph.proofs.BuiltRegions.{entry_clear}
use Rattle.builder.proofs.regions.handler_record.Goals as goal

pub block_at-requires : goal.block_at-requires
block_at-requires c = record { start = rw c.handler-own.ensures (entry_clear (image_of c.args.numbered.now.code) c.args.h c.requires.checked) }

pub returns : goal.returns
unfolding handler_record
returns c = let m = image_of c.args.numbered.now.code in
    let extents = c.requires.extents in
    let region = c.region_in.ensures m extents ∙ ap (λ (gs : List ℕ). region_in m gs c.args.h) c.requires.drafted.list in
    rw (region, c.same_ranges.ensures m extents, c.block_at.ensures, c.handler-own.ensures)
