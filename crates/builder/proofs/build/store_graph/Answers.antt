-- The table and the blocks, the edges, the regions, the entry. Assumes nothing.
use mathlib.Core.Path.{sym}
use Rattle.builder.specs.Code.{image_of}
use Rattle.graph.proofs.BuiltChecks.{parts}
use Rattle.builder.proofs.BuildLaws.{numbered, handled, ready, graph_laid, emitting}
use native.Mathlib.Omega.{arith}
use Rattle.builder.proofs.build.store_graph.Goals as goal

pub number_blocks-requires-clause-n_most : goal.number_blocks-requires-clause-n_most
number_blocks-requires-clause-n_most c = let n = sym c.size-n.ensures in
    omega (arith, c.args.checked.code.image.accepted.instructions_most, n)

pub number_blocks-requires-clause-room : goal.number_blocks-requires-clause-room
number_blocks-requires-clause-room c = let n = sym c.size-n.ensures in
    omega (arith, c.requires.fits.0, n)

pub invariant_of-numbered : goal.invariant_of-numbered
invariant_of-numbered c = let m = image_of c.args.checked.code in
    let accepted = c.args.checked.code.image.accepted in
    let p = parts m c.args.checked.clears in
    let n = sym c.size-n.ensures in
    let is = numbered m accepted p _ (omega (arith, c.number_blocks.auto.numbers, c.requires.fits.0)) (λ q h. c.number_blocks.ensures m n c.requires.leading q (omega arith)) in
    record { emitting = emitting m accepted p _ is; handled = handled m accepted p _ is }

pub add_regions-requires-clause-whole : goal.add_regions-requires-clause-whole
add_regions-requires-clause-whole c = let m = image_of c.args.checked.code in
    let p = parts m c.args.checked.clears in
    (ready m c.args.checked.code.image.accepted p c.requires.results_clear c.store_code.ensures c.store_edges.ensures).0

pub add_regions-requires-clause-no_regions : goal.add_regions-requires-clause-no_regions
add_regions-requires-clause-no_regions c = let m = image_of c.args.checked.code in
    let p = parts m c.args.checked.clears in
    (ready m c.args.checked.code.image.accepted p c.requires.results_clear c.store_code.ensures c.store_edges.ensures).1

pub add_regions-requires-clause-no_handlers : goal.add_regions-requires-clause-no_handlers
add_regions-requires-clause-no_handlers c = let m = image_of c.args.checked.code in
    let p = parts m c.args.checked.clears in
    (ready m c.args.checked.code.image.accepted p c.requires.results_clear c.store_code.ensures c.store_edges.ensures).2

pub entry_block-requires : goal.entry_block-requires
entry_block-requires c = record { entry_clear = (parts (image_of c.args.checked.code) c.args.checked.clears).entry }

pub returns : goal.returns
returns c = let m = image_of c.args.checked.code in
    graph_laid m c.args.checked.code.image.accepted (parts m c.args.checked.clears) c.requires.results_clear c.store_code.ensures c.store_edges.ensures c.add_regions.ensures c.entry_block.ensures c.set_entry.ensures
