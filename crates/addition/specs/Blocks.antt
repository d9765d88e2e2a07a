-- Built blocks, the block that an address starts, and the blocks that a route protects.
use Rattle.std.specs.Prelude.{Bool, true, false, ◌&&◌, List, ℕ, ◌+◌, ◌-◌, eqb, leb, ltb, length}
use Rattle.std.proofs.Math.Option.{Option, none, some}
use Rattle.image.specs.Deal.{UnwindRoute}
use Rattle.graph.specs.declared.record.TableEntry.{TableEntry}
use Rattle.graph.specs.Graph.{Graph, block}
use Rattle.graph.specs.Table.{entry_at, is_start}
use Rattle.graph.specs.WellFormed.{is_built}
use Rattle.addition.specs.Lists.{keep, upto, head}

-- 'built blocks cover the table in order, copies follow'
unfoldable pub built_blocks : Graph → List ℕ
built_blocks g = keep (is_built g) (upto (length g.blocks))

-- the first and the last instruction of a block
unfoldable pub first_of : Graph → ℕ → TableEntry
first_of g b = entry_at g.table (block g b).first

unfoldable pub last_of : Graph → ℕ → TableEntry
last_of g b = entry_at g.table ((block g b).first + (block g b).count - 1)

-- `leading_block`: 'the built block that begins there'; else an instruction may start there inside a block
pub data Leading : Type 0 where
  leads : ℕ → Leading
  inside : Leading
  absent : Leading

unfoldable pub leading_by : Option ℕ → Bool → Leading
leading_by (some b) true = leads b
leading_by (some b) false = absent
leading_by none true = inside
leading_by none false = absent

unfoldable pub leading : Graph → ℕ → Leading
leading g a = leading_by (head (keep (λ b. eqb (first_of g b).address a) (built_blocks g))) (is_start g.table a)

-- the block itself, where there is one
unfoldable pub block_in : Leading → ℕ
block_in (leads b) = b
block_in inside = 0
block_in absent = 0

unfoldable pub block_of : Graph → ℕ → ℕ
block_of g a = block_in (leading g a)

-- 'at or above the route's start and below its end'
unfoldable pub within : UnwindRoute → ℕ → Bool
within r a = leb r.start a && ltb a r.end

-- 'whether it keeps its exception edge is read from its instructions' flags as the Rust reads it': the first one's
unfoldable pub keeps_edge : Graph → ℕ → Bool
keeps_edge g b = eqb (first_of g b).keeps 1

-- `protected_blocks` of one route: the built blocks that it covers and that keep their exception edge
unfoldable pub guarded : Graph → UnwindRoute → List ℕ
guarded g r = keep (λ b. within r (first_of g b).address && keeps_edge g b) (built_blocks g)
