-- `close_node` meets its contract: the node's edges and ends are laid behind those that are stored, and it is kept. Assumes
-- nothing.
use Rattle.image.specs.Image.{routes_in}
use Rattle.unwind.proofs.TrieIntern.{behind_laid, lower_laid, close_law}
use Rattle.unwind.proofs.tries.intern.close_node.Goals as goal

pub keep_node-requires-clause-behind : goal.keep_node-requires-clause-behind
keep_node-requires-clause-behind c = behind_laid (routes_in c.args.s.now c.args.y) c.args.starts.now c.args.g c.requires.grouped c.args.nodes.now c.args.edges.now c.args.ends.now c.args.stack.now c.args.counts c.args.top c.args.n c.requires.stored c.requires.room _ _ c.funclet_of.result c.lay_edges-edge_count.result c.lay_ends_beside-end_count.result c.funclet_of.ensures c.lay_edges-edge_count.ensures c.lay_ends_beside-end_count.ensures c.lay_edges-edge_count.auto.edges c.lay_ends_beside-end_count.auto.ends

pub keep_node-requires-clause-lower : goal.keep_node-requires-clause-lower
keep_node-requires-clause-lower c = lower_laid (routes_in c.args.s.now c.args.y) c.args.starts.now c.args.g c.requires.grouped c.args.nodes.now c.args.edges.now c.args.ends.now c.args.stack.now c.args.counts c.args.top c.args.n c.requires.stored c.requires.room _ _ c.funclet_of.result c.lay_edges-edge_count.result c.lay_ends_beside-end_count.result c.funclet_of.ensures c.lay_edges-edge_count.ensures c.lay_ends_beside-end_count.ensures c.requires.lower

pub returns-clause-closes : goal.returns-clause-closes
returns-clause-closes c = close_law (routes_in c.args.s.now c.args.y) c.args.starts.now c.args.g c.requires.grouped c.args.nodes.now c.args.edges.now c.args.ends.now c.args.stack.now c.args.counts c.args.top c.args.n c.requires.stored c.requires.room _ _ c.funclet_of.result c.lay_edges-edge_count.result c.lay_ends_beside-end_count.result c.funclet_of.ensures c.lay_edges-edge_count.ensures c.lay_ends_beside-end_count.ensures _ c.keep_node.result c.keep_node.ensures.kept
