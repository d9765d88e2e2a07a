-- `store_addition` meets its contract: hops, copies of edges, copies of blocks, route edges. Assumes nothing.
use native.Mathlib.Omega.{arith}
use borrow.Author.Rules.{rules}
use Rattle.image.specs.Image.{routes_in}
use Rattle.graph.specs.Lent.{held_of}
use Rattle.graph.proofs.RecordLaws.{block_most}
use Rattle.unwind.proofs.MemberLaws.{block_sets}
use Rattle.unwind.proofs.StoreLaws.{all_lent, links_lent, hops_fit, sets_stood, joins_stood, hops_lent, addition_laid, hops_laid}
use Rattle.unwind.proofs.add.store.store_addition.Goals as goal

pub add_hops-requires : goal.add_hops-requires
add_hops-requires c = let w = c.args.g.now in
    let m = routes_in c.args.s.now c.args.y in
    let l = all_lent w m c.requires.at_hand in
    (l.0, l.1, l.2, l.3, l.5, l.6, hops_fit (held_of w).graph m c.requires.sizes, l.7, l.8, search rules, c.requires.at_hand.instances.slots.entries_fit, c.requires.at_hand.instances.landings_fit, c.requires.at_hand.instances.slots.bases_fit, c.requires.originals_fit)

pub add_clone_blocks-requires-clause-sets_in : goal.add_clone_blocks-requires-clause-sets_in
add_clone_blocks-requires-clause-sets_in c = sets_stood c.args.g.now (routes_in c.args.s.now c.args.y) c.requires.at_hand c.add_clone_edges.ensures

pub add_route_edges-requires : goal.add_route_edges-requires
add_route_edges-requires c = let w = c.args.g.now in
    let m = routes_in c.args.s.now c.args.y in
    let x = c.requires.at_hand in
    let l = all_lent w m x in (
      joins_stood w m x c.add_clone_edges.ensures c.requires.sizes c.add_clone_blocks.ensures c.add_hops.ensures,
      x.instances.slots.parts_fit,
      l.4.few,
      hops_lent w m x c.add_hops.ensures,
      x.instances.trie,
      x.instances.slots.entries_fit,
      x.instances.landings_fit,
      x.instances.slots.bases_fit,
      rw c.block_count-blocks.ensures (block_sets (held_of w).graph m _ _ _ c.args.stored l.2 l.8 x.instances.returns_fit),
      omega (arith, c.block_count-blocks.ensures, block_most w),
    )

pub returns-clause-graph : goal.returns-clause-graph
returns-clause-graph c = let w = c.args.g.now in
    let m = routes_in c.args.s.now c.args.y in
    addition_laid w m c.requires.at_hand c.add_clone_edges.ensures c.requires.sizes c.add_clone_blocks.ensures c.add_route_edges.ensures

pub returns-clause-hops : goal.returns-clause-hops
returns-clause-hops c = let w = c.args.g.now in
    let m = routes_in c.args.s.now c.args.y in
    hops_laid (held_of w).graph m c.add_hops.ensures

pub add_clone_edges-requires : goal.add_clone_edges-requires
add_clone_edges-requires c = let l = links_lent c.args.g.now (routes_in c.args.s.now c.args.y) c.requires.at_hand in
    record { ends = l.0; roomy = l.1; linked = l.2; sets_in = l.4; bases_fit = l.5 }
