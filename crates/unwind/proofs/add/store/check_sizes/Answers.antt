-- `check_sizes` meets its contract: the most that there can be, or what is counted, decides. Assumes nothing.
use mathlib.Core.Path.{◌≡◌, sym, ◌∙◌}
use Prim.Native.Nat.{◌+◌, ◌≤◌}
use native.Mathlib.Omega.{arith}
use lib.ListN.{length}
use Rattle.image.specs.Record.{route_from}
use Rattle.image.specs.Image.{routes_in}
use Rattle.image.proofs.Tables.{length-records}
use Rattle.graph.specs.Lent.{held_of}
use Rattle.unwind.specs.Placed.{returns_in}
use Rattle.unwind.specs.Most.{guarded_ways, returned_ways}
use Rattle.unwind.proofs.LentLaws.{roots_fit}
use Rattle.unwind.proofs.StoreLaws.{all_lent, links_lent, counts_check_law, most_check, ok_clear}
use Rattle.unwind.proofs.add.store.check_sizes.Goals as goal

pub most_ways-most-requires-clause-roots_fit : goal.most_ways-most-requires-clause-roots_fit
most_ways-most-requires-clause-roots_fit c = let routes : length (routes_in c.args.s.now c.args.y).routes ≡ c.args.y.routes.count = length-records route_from c.args.s.now c.args.y.routes in
    let x = c.requires.at_hand in
    let i = x.instances in
    let many = routes in
    omega (arith, many, roots_fit _ c.args.nodes.now c.args.edges.now c.args.ends.now c.args.roots.now c.args.stored i.trie)

pub count_hops-sizes-requires : goal.count_hops-sizes-requires
count_hops-sizes-requires c = let l = all_lent c.args.g.now (routes_in c.args.s.now c.args.y) c.requires.at_hand in
    (l.0, l.1, l.2, l.3, l.4, l.5, l.6, l.7, l.8, c.requires.there, c.requires.at_hand.instances.slots.entries_fit, c.requires.at_hand.instances.landings_fit, c.requires.at_hand.instances.slots.bases_fit, c.requires.originals_fit)

pub returns : goal.returns
returns c = c.check_counts-2.ensures
    ∙ counts_check_law c.args.g.now (routes_in c.args.s.now c.args.y) c.requires.at_hand c.clone_edge_count-copies.result c.count_hops-sizes.result c.clone_edge_count-copies.ensures c.count_hops-sizes.ensures

pub clone_edge_count-copies-requires : goal.clone_edge_count-copies-requires
clone_edge_count-copies-requires c = let l = links_lent c.args.g.now (routes_in c.args.s.now c.args.y) c.requires.at_hand in
    record { ends = l.0; roomy = l.1; linked = l.2; few = l.3; sets_in = l.4; bases_fit = l.5 }

pub returns-then-is_ok : goal.returns-then-is_ok
returns-then-is_ok c = let routes : length (routes_in c.args.s.now c.args.y).routes ≡ c.args.y.routes.count = length-records route_from c.args.s.now c.args.y.routes in
    let above : guarded_ways c.args.nodes.now c.args.roots.now c.args.guards.now (length (held_of c.args.g.now).graph.blocks) (length (routes_in c.args.s.now c.args.y).routes) + returned_ways c.args.nodes.now (returns_in c.args.parts.now c.args.returners.now) (length (held_of c.args.g.now).graph.blocks) c.args.stored.nodes ≤ c.most_ways-most.result = rw routes (rw c.block_count.ensures at c.most_ways-most.ensures) in
    let clear = sym (ok_clear _ (sym c.is_ok.ensures.value ∙ c.if-is_ok.true)) ∙ c.check_counts.ensures in
    most_check c.args.g.now (routes_in c.args.s.now c.args.y) c.requires.at_hand c.clone_edge_count-copies.result c.most_ways-most.result c.clone_edge_count-copies.ensures above clear
