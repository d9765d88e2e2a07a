-- `clone_edge_count` meets its contract. The loop's invariant: the copies of the edges of the nodes before i are counted. Assumes nothing.
use mathlib.Core.Path.{◌≡◌}
use Prim.Native.Nat.{◌*◌, ◌≤◌}
use lib.ListN.{length}
use Rattle.graph.specs.Lent.{held_of}
use Rattle.unwind.specs.Clones.{edge_copies}
use Rattle.unwind.proofs.clones.clone_edge_count.Given as goal

abbrev pub invariant-loop-i : goal.invariant-loop-i
invariant-loop-i l = (l.count ≤ 4194304 * l.i) × (l.count ≡ length (edge_copies (held_of l.g).graph l.bases l.parts l.i))
