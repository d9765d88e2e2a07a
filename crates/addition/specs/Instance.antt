-- 'The first node of a funclet uses the original blocks, each later one a clone.'
use Rattle.std.specs.Prelude.{Bool, cond, List, [], map, ℕ, ◌+◌, length}
use Rattle.std.proofs.Math.Option.{Option, none, some}
use Rattle.graph.specs.declared.record.Block.{Block}
use Rattle.graph.specs.declared.record.Edge.{Edge}
use Rattle.graph.specs.Graph.{Graph, block}
use Rattle.graph.specs.Fold.{flat, some as any, among}
use Rattle.addition.specs.Lists.{keep, joined, rank}
use Rattle.addition.specs.Blocks.{block_of}
use Rattle.addition.specs.Part.{part, outgoing, returning}
use Rattle.addition.specs.Trie.{Node, node_at, same_funclet}

-- the entry and the part of the funclet that a node entered; the root of a route has none
unfoldable pub entry_block : Graph → Option ℕ → ℕ
entry_block g none = 0
entry_block g (some f) = block_of g f

unfoldable pub part_of : Graph → List ℕ → Option ℕ → List ℕ
part_of g fs none = []
part_of g fs (some f) = part g fs f (block_of g f)

-- the graph before, the funclets of the routes, and the nodes in creation order
module _ (g : Graph) (fs : List ℕ) (z : List Node) where
  -- the original blocks of node i's funclet
  unfoldable pub blocks_of : ℕ → List ℕ
  blocks_of i = part_of g fs (node_at z i).funclet

  -- an earlier node has the same funclet
  unfoldable pub later : ℕ → Bool
  later i = any (λ j. same_funclet (node_at z j).funclet (node_at z i).funclet) i

  -- the blocks that node i copies, and the number of the first copy: behind the blocks that stood and the earlier copies
  unfoldable pub copied : ℕ → List ℕ
  copied i = cond (later i) (blocks_of i) []

  unfoldable pub base : ℕ → ℕ
  base i = length g.blocks + length (flat copied i)

  -- where node i has block b of its funclet
  unfoldable pub place : ℕ → ℕ → ℕ
  place i b = cond (later i) (base i + rank b (blocks_of i)) b

  -- 'targets inside the part moved'
  unfoldable pub moved : ℕ → ℕ → ℕ
  moved i t = cond (among (blocks_of i) t) (place i t) t

  unfoldable pub entry_of : ℕ → ℕ
  entry_of i = place i (entry_block g (node_at z i).funclet)

  unfoldable pub returns_of : ℕ → List ℕ
  returns_of i = map (place i) (keep (returning g) (blocks_of i))

  -- `clone_region`: copies of the blocks, and of every edge that goes out of them, in order
  unfoldable pub clone_blocks : List Block
  clone_blocks = map (block g) (flat copied (length z))

  unfoldable pub clone_edge : ℕ → Edge → Edge
  clone_edge i e =
      record { source = place i e.source; target = moved i e.target; kind = e.kind; role = e.role; number = e.number; key = e.key; source_address = e.source_address; target_address = e.target_address }

  unfoldable pub clone_edges : List Edge
  clone_edges = flat (λ i. joined (λ b. map (clone_edge i) (outgoing g b)) (copied i)) (length z)
