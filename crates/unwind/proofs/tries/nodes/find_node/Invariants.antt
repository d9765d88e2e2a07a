-- `find_node` meets its contract. The invariant: no node passed equals x; those before the loop stand before a child of x.
-- Assumes nothing.
use mathlib.Core.Bool.{false}
use mathlib.Core.Path.{◌≡◌}
use Prim.Native.Nat.{ℕ, ◌<◌}
use Rattle.image.specs.Image.{routes_in}
use Rattle.addition.specs.Trie.{same_node}
use Rattle.unwind.specs.Nodes.{record_in, node_in}
use Rattle.unwind.proofs.tries.nodes.find_node.Given as goal

abbrev pub invariant-loop-i : goal.invariant-loop-i
invariant-loop-i l = let m = routes_in l.s l.y in
    (j : ℕ) → j < l.i → j < l.n → same_node (node_in m l.edges l.ends l.x) (node_in m l.edges l.ends (record_in l.nodes j)) ≡ false
