-- The copies of one node after the other, by the numbers that are lent.
use Rattle.std.specs.Prelude.{◌≡◌, cond, List, ℕ, zero, suc, ◌≤◌, ◌<◌, eqb, get_or}
use Rattle.unwind.specs.Copies.{copy_number}
use Rattle.unwind.specs.HopWords.{ReturnsWithin}

-- the number behind the copies of the first n nodes, where `blocks` blocks stood
unfoldable pub behind_nodes : List ℕ → List ℕ → ℕ → ℕ → ℕ
behind_nodes bases parts blocks zero = blocks
behind_nodes bases parts blocks (suc i) = cond (eqb (get_or bases i 0) 0) (behind_nodes bases parts blocks i) (copy_number parts i (get_or bases i 0) blocks)

-- the copies of node i come behind those of the nodes before it, and it returns from blocks of its part alone
pub record NodeRises (bases parts returns : List ℕ) (blocks i : ℕ) : Type 0 where
  pub few : get_or bases i 0 ≤ 1024
  pub rises : (get_or bases i 0 ≡ 0 → ⊥) → behind_nodes bases parts blocks i ≤ get_or bases i 0
  pub within : ReturnsWithin parts returns i

-- so do those of each of the first n
pub record NodesRise (bases parts returns : List ℕ) (blocks n : ℕ) : Type 0 where
  pub each : (i : ℕ) → i < n → NodeRises bases parts returns blocks i
