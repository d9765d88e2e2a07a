-- Blocks: the runs of the table between leaders. `populate_blocks`.
use Rattle.std.specs.Prelude.{Bool, cond, ◌||◌, List, [], ◌∷◌, ℕ, zero, suc, ◌-◌, eqb}
use Rattle.image.specs.Image.{Image}
use Rattle.graph.specs.declared.record.Block.{Block}
use Rattle.graph.specs.Fold.{flat, count}
use Rattle.graph.specs.Table.{below}
use Rattle.graph.specs.Transfer.{table_of, size}
use Rattle.graph.specs.Leaders.{is_leader}

-- the instruction at p is the last of its block: none follows, or the next one leads
unfoldable pub is_terminator : Image → ℕ → Bool
is_terminator m p = eqb (suc p) (size m) || is_leader m (suc p)

-- where the block of p begins, and its number: how many leaders there are up to p after the first instruction
unfoldable pub first_of : Image → ℕ → ℕ
first_of m zero = 0
first_of m (suc p) = cond (is_leader m (suc p)) (suc p) (first_of m p)

unfoldable pub block_of : Image → ℕ → ℕ
block_of m p = count (λ q. is_leader m (suc q)) p

-- the block of the instruction that starts at a
unfoldable pub block_at : Image → ℕ → ℕ
block_at m a = block_of m (below (table_of m) a)

-- the block that ends at p, if one does
abbrev pub block_end : Image → ℕ → List Block
block_end m p = cond (is_terminator m p) (record { first = first_of m p; count = suc p - first_of m p } ∷ []) []

-- 'blocks .. are numbered from 0 in order of adding'; 'No instruction: one empty block'
unfoldable pub blocks_of : Image → List Block
blocks_of m = cond (eqb (size m) 0) (record { first = 0; count = 0 } ∷ []) (flat (λ p. block_end m p) (size m))

-- the entry, without one in the image block 0
unfoldable pub entry_of : Image → ℕ
entry_of m = cond m.header.has_entry (block_at m m.header.entry) 0
