-- Nodes in creation order: each stands behind the nodes that its edges lead to.
use Rattle.std.specs.Prelude.{List, ℕ, ◌+◌, ◌≤◌, ◌<◌, length}
use Rattle.addition.specs.Order.{Tagged}
use Rattle.addition.specs.Trie.{Node, node_at}
use Rattle.addition.specs.Walk.{◌∈◌}
use Rattle.unwind.specs.Nodes.{branch_in}

pub record Lower (z : List Node) : Type 0 where
  pub lower : (i : ℕ) → i < length z → (d : Tagged ℕ) → d ∈ (node_at z i).edges → d.what < i

-- no place below r stands behind all the nodes that the n edges from a on lead to
pub record BehindChildren (l : List ℕ) (a n r : ℕ) : Type 0 where
  pub reached : (j : ℕ) → j < r → (k : ℕ) × (k < n) × (j ≤ (branch_in l (a + k)).what)
