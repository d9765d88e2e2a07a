-- `add_clone_edges` meets its contract. The loop's invariant: the copies of the edges of the nodes before i are added. Assumes nothing.
use mathlib.Core.List.{[]}
use Rattle.graph.specs.Lent.{held_of}
use Rattle.graph.specs.Adding.{Added}
use Rattle.unwind.specs.Clones.{edge_copies}
use Rattle.unwind.proofs.clones.add_clone_edges.Given as goal

abbrev pub invariant-loop-i : goal.invariant-loop-i
invariant-loop-i l = Added l.initial.g l.g (edge_copies (held_of l.initial.g).graph l.bases l.parts l.i) [] []
