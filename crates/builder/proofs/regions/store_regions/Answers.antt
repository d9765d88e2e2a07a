use mathlib.Core.Path.{◌≡◌}
use lib.ListN.{length}
use Rattle.builder.specs.Code.{image_of}
use Rattle.image.specs.Image.{table}
use Rattle.graph.specs.Lent.{held_of}
use Rattle.graph.specs.Stored.{with_region}
use Rattle.graph.specs.Regions.{drafts, region_at, regions_of}
use Rattle.graph.proofs.StoredLaws.{stored_onto}
use Rattle.builder.proofs.DraftLaws.{drafted_size}
use Rattle.builder.proofs.RegionLaws.{regions_none, regions_more}
use native.Mathlib.Omega.{arith}
use borrow.Author.Rules.{rules}
use Rattle.builder.proofs.regions.store_regions.Goals as goal

pub loop-r-init : goal.loop-r-init
unfolding table
loop-r-init c = (search rules, regions_none _ c.requires.whole c.requires.no_regions)

pub loop-r-preserved : goal.loop-r-preserved
loop-r-preserved c = (
  search rules,
  stored_onto (λ h. with_region h c.region_of.result) c.loop-r.invariant.1 c.add_region.ensures
      (regions_more (held_of c.args.g.now).graph (region_at (image_of c.args.numbered.now.code)) c.loop-r.r _ (omega (arith, c.requires.drafted.counted.within)) c.region_of.ensures),
)

pub returns : goal.returns
unfolding regions_of
returns c = let all : c.loop-r.r ≡ length (drafts (image_of c.args.numbered.now.code)) = omega (arith, drafted_size c.requires.drafted) in
    rw all at c.loop-r.invariant.1
