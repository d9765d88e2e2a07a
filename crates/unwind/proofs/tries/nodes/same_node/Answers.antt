-- `same_node` meets its contract. Assumes nothing.
use Rattle.addition.specs.Trie.{same_node}
use Rattle.unwind.specs.Nodes.{node_in}
use Rattle.unwind.proofs.tries.nodes.same_node.Goals as goal

pub returns-then-not-same_funclet : goal.returns-then-not-same_funclet
unfolding same_node node_in
returns-then-not-same_funclet c = rw (← c.same_funclet.ensures, c.if-not-same_funclet.true)

pub returns-then-same_branches : goal.returns-then-same_branches
unfolding same_node node_in
returns-then-same_branches c = rw (← c.requires.edges, ← c.requires.ends, ← c.same_funclet.ensures, ← c.same_branches.ensures, c.if-not-same_funclet.false, c.if-same_branches.true) c.same_branches-then-same_branches.ensures

pub returns-else-same_branches : goal.returns-else-same_branches
unfolding same_node node_in
returns-else-same_branches c = rw (← c.requires.edges, ← c.same_funclet.ensures, ← c.same_branches.ensures, c.if-not-same_funclet.false, c.if-same_branches.false)
