-- `add_regions` meets its contract: the handlers go behind the regions. Assumes nothing.
use mathlib.Core.Path.{◌≡◌, sym}
use lib.ListN.{length}
use Rattle.builder.specs.Code.{image_of}
use Rattle.builder.proofs.DraftLaws.{counted_none, drafted_all}
use Rattle.builder.proofs.RegionLaws.{regions_whole, regions_keep, both, none_stored}
use native.Mathlib.Omega.{arith}
use Rattle.builder.proofs.regions.add_regions.Goals as goal

pub returns-then-n-eq0 : goal.returns-then-n-eq0
returns-then-n-eq0 c = let m = image_of c.args.numbered.now.code in
    let none : length m.handlers ≡ 0 = omega (arith, c.handler_count-n.ensures) in
    none_stored m _ none c.requires.whole c.requires.no_regions c.requires.no_handlers

pub drafts_of-count-requires-clause-counted : goal.drafts_of-count-requires-clause-counted
drafts_of-count-requires-clause-counted c = counted_none

pub drafts_of-count-requires-clause-n_most : goal.drafts_of-count-requires-clause-n_most
drafts_of-count-requires-clause-n_most c = let few = c.args.numbered.now.handled.few in
    omega (arith, c.handler_count-n.ensures)

pub store_regions-requires-clause-drafted : goal.store_regions-requires-clause-drafted
store_regions-requires-clause-drafted c = let m = image_of c.args.numbered.now.code in
    let extents = c.read_ranges.ensures in
    let found = c.drafts_of-count.ensures in
    let all = sym c.handler_count-n.ensures in
    drafted_all m _ (sym all) found.counted (found.drafts m extents)

pub store_handlers-requires-clause-drafted : goal.store_handlers-requires-clause-drafted
store_handlers-requires-clause-drafted c = let m = image_of c.args.numbered.now.code in
    let extents = c.read_ranges.ensures in
    let found = c.drafts_of-count.ensures in
    let all = sym c.handler_count-n.ensures in
    drafted_all m _ (sym all) found.counted (found.drafts m extents)

pub store_handlers-requires-clause-whole : goal.store_handlers-requires-clause-whole
store_handlers-requires-clause-whole c = let stored = c.store_regions.ensures in
    regions_whole _ stored

pub store_handlers-requires-clause-no_handlers : goal.store_handlers-requires-clause-no_handlers
store_handlers-requires-clause-no_handlers c = let stored = c.store_regions.ensures in
    regions_keep _ stored c.requires.no_handlers

pub returns : goal.returns
returns c = both _ c.store_regions.ensures _ c.store_handlers.ensures
