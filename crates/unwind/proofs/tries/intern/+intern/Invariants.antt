-- `intern` meets its contract. It calls itself on paths with fewer steps left: the measure is the longest count of steps. The
-- loop's invariant: the groups up to `last` are interned, and their edges stand on the stack; the marks of all nodes were seen.
-- Assumes nothing.
use Rattle.addition.specs.Trie.{longest}
use Rattle.unwind.specs.Interning.{paths_of}
use lib.ListN.{length}
use Rattle.image.specs.Image.{routes_in}
use Rattle.unwind.specs.Seen.{Seen}
use Rattle.unwind.proofs.TrieWork.{left, Working}
use Rattle.unwind.proofs.tries.intern.+intern.Given as goal

abbrev pub decreases-intern : goal.decreases-intern
decreases-intern l = longest (paths_of (routes_in l.s.now l.y) l.g)

abbrev pub invariant-loop-key : goal.invariant-loop-key
invariant-loop-key l = Working (routes_in l.s l.y) l.g l.initial.nodes l.initial.edges l.initial.ends l.initial.stack l.initial.counts l.top l.nodes l.edges l.ends l.stack l.counts l.n l.last × Seen (routes_in l.s l.y) l.nodes l.counts.nodes l.seen

abbrev pub decreases-loop-key : goal.decreases-loop-key
decreases-loop-key l = length (left (routes_in l.s l.y) l.g l.last)
