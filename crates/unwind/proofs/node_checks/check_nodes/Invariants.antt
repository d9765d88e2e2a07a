-- `check_nodes` meets its contract. The loop's invariant: the nodes before i are clear, whatever their edges, and their entries
-- are stored. Assumes nothing.
use mathlib.Core.Path.{◌≡◌}
use mathlib.Core.List.{List}
use Prim.Native.Nat.{ℕ}
use lib.ListN.{length}
use Rattle.image.specs.Refusal.{clear, checks}
use Rattle.image.specs.Image.{routes_in}
use Rattle.graph.specs.Lent.{held_of}
use Rattle.addition.specs.Trie.{node_at}
use Rattle.unwind.specs.Nodes.{nodes_in}
use Rattle.unwind.specs.Placed.{Entered}
use Rattle.addition.specs.Add.{node_check}
use Rattle.unwind.proofs.node_checks.check_nodes.Given as goal

abbrev pub invariant-loop-i : goal.invariant-loop-i
invariant-loop-i l = ((edges : List ℕ) → checks (λ i'. node_check (held_of l.g).graph (node_at (nodes_in (routes_in l.s l.y) l.nodes edges l.ends l.n) i')) l.i ≡ clear) × (length l.entries ≡ length l.initial.entries) × Entered (held_of l.g).graph (routes_in l.s l.y) l.nodes l.entries l.i
