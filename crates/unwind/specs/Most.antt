-- The most ways out of blocks that routes can give.
use Rattle.std.specs.Prelude.{List, ℕ, ◌*◌, get_or}
use Rattle.graph.specs.Fold.{count, sum}
use Rattle.graph.specs.BlockSet.{member}
use Rattle.unwind.specs.Nodes.{ways_of}
use Rattle.unwind.specs.Placed.{set_at}

-- how many blocks of set i are below n
abbrev pub members_of : List ℕ → ℕ → ℕ → ℕ
members_of sets n i = count (member (set_at sets i)) n

-- those of n routes out of the blocks that they guard, and of n nodes out of the blocks from which they return
abbrev pub guarded_ways : List ℕ → List ℕ → List ℕ → ℕ → ℕ → ℕ
guarded_ways nodes roots guards blocks n = sum (λ r. ways_of nodes (get_or roots r 0) * members_of guards blocks r) n

abbrev pub returned_ways : List ℕ → List ℕ → ℕ → ℕ → ℕ
returned_ways nodes returns blocks n = sum (λ i. ways_of nodes i * members_of returns blocks i) n
