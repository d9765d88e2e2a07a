-- The hops out of the copies of one node, by the numbers that are lent.
use Rattle.std.specs.Prelude.{cond, List, [], ℕ, zero, suc, ◌+◌, ◌≤◌, ◌<◌, eqb, length, get_or}
use Rattle.image.specs.Image.{RouteImage}
use Rattle.image.specs.Deal.{UnwindRoute}
use Rattle.graph.specs.Graph.{Graph}
use Rattle.graph.specs.Fold.{flat}
use Rattle.addition.specs.Order.{sorted}
use Rattle.addition.specs.Part.{funclets}
use Rattle.addition.specs.Trie.{tries}
use Rattle.unwind.specs.Nodes.{record_in}
use Rattle.addition.specs.Instance.{copied}
use Rattle.addition.specs.Ways.{Hop}
use Rattle.unwind.specs.Sources.{compare_exits, hops_on}
use Rattle.unwind.specs.Gather.{record_exits, in_set}

-- the number of the copy of block o: behind those of the lower blocks of the node's part
unfoldable pub copy_number : List ℕ → ℕ → ℕ → ℕ → ℕ
copy_number parts i base zero = base
copy_number parts i base (suc o) = copy_number parts i base o + cond (in_set parts i o) 1 0

module _ (m : RouteImage) (nodes edges ends heads landings : List ℕ) where
  -- the hops of node i out of b, and those out of b if it is the copy of a block o from which the node returns
  unfoldable pub hops_from : ℕ → ℕ → List Hop
  hops_from i b = hops_on [] (sorted compare_exits (record_exits m b edges ends heads landings (record_in nodes i)))

  unfoldable pub hops_if : List ℕ → ℕ → ℕ → ℕ → List Hop
  hops_if returns i o b = cond (in_set returns i o) (hops_from i b) []

  unfoldable pub copy_hops : List ℕ → List ℕ → ℕ → ℕ → ℕ → List Hop
  copy_hops parts returns i base o = hops_if returns i o (copy_number parts i base o)

-- the hops out of the copies of node i, if it has any
unfoldable pub node_hops : RouteImage → List ℕ → List ℕ → List ℕ → List ℕ → List ℕ → List ℕ → List ℕ → List ℕ → ℕ → ℕ → List Hop
node_hops m nodes edges ends heads landings bases parts returns blocks i =
    cond (eqb (get_or bases i 0) 0) [] (flat (copy_hops m nodes edges ends heads landings parts returns i (get_or bases i 0)) blocks)

-- the first n are numbers of blocks
pub record BasesFew (bases : List ℕ) (n : ℕ) : Type 0 where
  pub few : (i : ℕ) → i < n → get_or bases i 0 ≤ 1024

-- there are blocks, and not too many with the copies: 18
pub record Bounded (g : Graph) (rs : List UnwindRoute) : Type 0 where
  pub some : 0 < length g.blocks
  pub few : length g.blocks + length (flat (copied g (funclets rs) (tries rs).nodes) (length (tries rs).nodes)) ≤ 1024
