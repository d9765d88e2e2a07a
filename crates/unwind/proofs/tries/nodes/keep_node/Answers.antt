-- `keep_node` meets its contract: an equal node stands, or the node is stored behind the others. Assumes nothing.
use mathlib.Core.Path.{sym, ap, ◌∙◌}
use native.Mathlib.Omega.{arith}
use Rattle.image.specs.Image.{routes_in}
use Rattle.unwind.specs.Kept.{place_in}
use Rattle.unwind.proofs.TrieNodes.{behind_fits, stored_fits, kept_present, kept_new}
use Rattle.unwind.proofs.SeenLaws.{seen_put}
use Rattle.unwind.proofs.tries.nodes.keep_node.Goals as goal

pub find_node-requires-clause-fits : goal.find_node-requires-clause-fits
find_node-requires-clause-fits c = behind_fits c.args.nodes.now c.args.edges.now c.args.ends.now c.args.counts c.args.x c.requires.behind

pub find_node-requires-clause-all_fit : goal.find_node-requires-clause-all_fit
find_node-requires-clause-all_fit c = stored_fits c.args.nodes.now c.args.edges.now c.args.ends.now c.args.counts c.requires.stored

pub returns-in-Some-clause-kept : goal.returns-in-Some-clause-kept
returns-in-Some-clause-kept c = kept_present (routes_in c.args.s.now c.args.y) c.args.nodes.now c.args.edges.now c.args.ends.now c.args.counts c.args.x c.requires.stored c.in-Some.place (sym (ap place_in c.in-Some.is) ∙ c.find_node.ensures)

pub overflow_add-result : goal.overflow_add-result
overflow_add-result c = let b = c.requires.behind in omega (arith, b.first_edge, b.small.first_edge, b.small.edges)

pub overflow_add-result-2 : goal.overflow_add-result-2
overflow_add-result-2 c = let b = c.requires.behind in omega (arith, b.first_end, b.small.first_end, b.small.ends)

pub returns-clause-kept : goal.returns-clause-kept
returns-clause-kept c =
    kept_new (routes_in c.args.s.now c.args.y) c.args.nodes.now c.args.edges.now c.args.ends.now c.args.counts c.args.x c.requires.stored _ (sym (ap place_in c.in_default.is) ∙ c.find_node.ensures) c.requires.behind c.put_node.ensures

pub returns-clause-seen : goal.returns-clause-seen
returns-clause-seen c =
    rw (c.put_in.ensures, c.mark_of.ensures, c.funclet_value.ensures)
    (seen_put (routes_in c.args.s.now c.args.y) c.args.nodes.now c.args.counts.nodes c.args.seen.now c.requires.seen c.args.x _ c.put_node.ensures)
