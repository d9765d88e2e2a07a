-- The copies of blocks and edges, by what instances in scratch say.
use Rattle.std.specs.Prelude.{◌≡◌, true, cond, List, [], map, ℕ, ◌+◌, ◌*◌, ◌≤◌, ◌<◌, eqb, length, get_or, take}
use Rattle.graph.specs.declared.record.Block.{Block}
use Rattle.graph.specs.declared.record.Edge.{Edge}
use Rattle.graph.specs.Graph.{Graph, block}
use Rattle.graph.specs.Fold.{flat, count}
use Rattle.graph.specs.BlockSet.{member}
use Rattle.graph.specs.Search.{Ends, Linked, Roomy}
use Rattle.addition.specs.Lists.{keep, joined, upto}
use Rattle.addition.specs.Part.{outgoing}
use Rattle.unwind.specs.Placed.{set_at}

-- the blocks of a set, rising
unfoldable pub list_of : List ℕ → List ℕ
list_of w = keep (member w) (upto 1024)

-- the blocks that node i copies: none where it uses the original ones
unfoldable pub copies_in : List ℕ → List ℕ → ℕ → List ℕ
copies_in bases parts i = cond (eqb (get_or bases i 0) 0) [] (list_of (set_at parts i))

-- the copy of an edge between blocks of which those of w are copied, the first as block b
unfoldable pub copy_of : ℕ → List ℕ → Edge → Edge
copy_of b w e =
    record {
      source = b + count (member w) e.source;
      target = cond (member w e.target) (b + count (member w) e.target) e.target;
      kind = e.kind;
      role = e.role;
      number = e.number;
      key = e.key;
      source_address = e.source_address;
      target_address = e.target_address;
    }

-- all copies of blocks, and of edges, of n nodes
unfoldable pub block_copies : Graph → List ℕ → List ℕ → ℕ → List Block
block_copies g bases parts n = map (block g) (flat (copies_in bases parts) n)

unfoldable pub edge_copies : Graph → List ℕ → List ℕ → ℕ → List Edge
edge_copies g bases parts n =
    flat (λ i. joined (λ b. map (copy_of (get_or bases i 0) (set_at parts i)) (outgoing g b)) (copies_in bases parts i)) n

-- the graph without the edges from m on
unfoldable pub first_edges : Graph → ℕ → Graph
first_edges g m =
    record { entry = g.entry; table = g.table; blocks = g.blocks; edges = take m g.edges; regions = g.regions; handlers = g.handlers; unresolved = g.unresolved; calls = g.calls }

-- the first m edges are linked, whichever stand behind them
pub record LinkedTo (g : Graph) (m : ℕ) (head next : List ℕ) : Type 0 where
  pub stood : m ≤ length g.edges
  pub ends : Ends (first_edges g m)
  pub roomy : Roomy (first_edges g m) head next
  pub linked : Linked (first_edges g m) head next 0

-- the blocks of n sets stand in the graph
pub record SetsIn (g : Graph) (parts : List ℕ) (n : ℕ) : Type 0 where
  pub fit : 16 * n ≤ length parts
  pub stand : (i b : ℕ) → i < n → member (set_at parts i) b ≡ true → b < length g.blocks
