-- `link` meets its contract. The loop's invariant: the edges from i on are linked. Assumes nothing.
use mathlib.Core.Path.{◌≡◌}
use Prim.Native.Nat.{◌≤◌}
use lib.ListN.{length}
use Rattle.graph.specs.Lent.{held_of}
use Rattle.graph.specs.Search.{Linked}
use Rattle.graph.proofs.reach.link.Given as goal

abbrev pub invariant-loop-i : goal.invariant-loop-i
invariant-loop-i l = (l.i ≤ length (held_of l.g).graph.edges) × (length l.head ≡ length l.initial.head) × (length l.next ≡ length l.initial.next) × Linked (held_of l.g).graph l.head l.next l.i

abbrev pub decreases-loop-i : goal.decreases-loop-i
decreases-loop-i l = l.i
