-- Instances in scratch: for each node of the trie where its blocks stand, and which they are.
use Rattle.std.specs.Prelude.{◌≡◌, Bool, cond, List, ℕ, ◌+◌, ◌*◌, ◌%◌, ◌≤◌, ◌<◌, leb, length, get_or, set}
use Rattle.std.proofs.Math.Option.{Option, none, some}
use Rattle.std.specs.Int.Bits.{bit_and}
use Rattle.image.specs.Refusal.{Check, clear, refusal, unless}
use Rattle.image.specs.Image.{RouteImage, table}
use Rattle.image.specs.Deal.{routes_of}
use Rattle.graph.specs.Graph.{Graph}
use Rattle.graph.specs.Search.{Linked, Roomy}
use Rattle.addition.specs.Blocks.{block_of}
use Rattle.unwind.specs.Stands.{Stands, Has}
use Rattle.addition.specs.Part.{funclets}
use Rattle.unwind.specs.PartSearch.{Barriers}
use Rattle.addition.specs.Trie.{Node, same_funclet}
use Rattle.unwind.specs.Nodes.{record_in, funclet_in, nodes_in}
use Rattle.addition.specs.Instance.{entry_block, blocks_of, later, base, entry_of, clone_blocks}
use Rattle.addition.specs.Walk.{◌∈◌}

-- set i of a slice, sixteen words each
unfoldable pub set_at : List ℕ → ℕ → List ℕ
set_at l i = table (λ k. get_or l (16 * i + k) 0) 16

-- the sets of the blocks from which the nodes return: of each of `parts` the blocks that return
unfoldable pub returns_in : List ℕ → List ℕ → List ℕ
returns_in parts returners = table (λ j. bit_and (get_or parts j 0) (get_or returners (j % 16) 0)) (length parts)

-- set i is w, and all others are as they were
pub record SetPut (l : List ℕ) (i : ℕ) (w l' : List ℕ) : Type 0 where
  pub long : length l' ≡ length l
  pub here : set_at l' i ≡ w
  pub others : (j : ℕ) → (j ≡ i → ⊥) → set_at l' j ≡ set_at l j

-- set i may have changed, and all others are as they were
abbrev pub SetChanged : List ℕ → ℕ → List ℕ → Type 0
SetChanged l i l' = SetPut l i (set_at l' i) l'

-- there is room for n nodes
pub record Slots (n : ℕ) (bases entries parts : List ℕ) : Type 0 where
  pub bases_fit : n ≤ length bases
  pub entries_fit : n ≤ length entries
  pub parts_fit : 16 * n ≤ length parts

-- and there is as much as before
pub record SameSizes (bases entries parts bases' entries' parts' : List ℕ) : Type 0 where
  pub bases_long : length bases' ≡ length bases
  pub entries_long : length entries' ≡ length entries
  pub parts_long : length parts' ≡ length parts

-- THE INSTANCES of the first n nodes: the first copy's number, or 0 where the node uses the original blocks; the entry; the
-- original blocks
pub record Placed (g : Graph) (fs : List ℕ) (z : List Node) (bases entries parts : List ℕ) (n : ℕ) : Type 0 where
  pub base_is : (i : ℕ) → i < n → get_or bases i 0 ≡ cond (later g fs z i) (base g fs z i) 0
  pub entry_is : (i : ℕ) → i < n → get_or entries i 0 ≡ entry_of g fs z i
  pub part_has : (i : ℕ) → i < n → Has (set_at parts i) (blocks_of g fs z i)

-- ---- what is asked and answered of one node

-- the funclet of node i
abbrev pub funclet_at : RouteImage → List ℕ → ℕ → Option ℕ
funclet_at m nodes i = funclet_in m (record_in nodes i).funclet

-- the entries of the funclets of the first n nodes; 0 at the root of a route
pub record Entered (g : Graph) (m : RouteImage) (nodes entries : List ℕ) (n : ℕ) : Type 0 where
  pub enters : (i : ℕ) → i < n → get_or entries i 0 ≡ entry_block g (funclet_at m nodes i)

abbrev pub like : RouteImage → List ℕ → ℕ → ℕ → Bool
like m nodes i j = same_funclet (funclet_at m nodes j) (funclet_at m nodes i)

-- the funclets of the first n nodes are those of the routes
pub record Named (m : RouteImage) (nodes : List ℕ) (n : ℕ) : Type 0 where
  pub each : (i a : ℕ) → i < n → funclet_at m nodes i ≡ some a → a ∈ funclets (routes_of m)
  pub all : (a : ℕ) → a ∈ funclets (routes_of m) → (i : ℕ) × (i < n) × (funclet_at m nodes i ≡ some a)

-- what is at hand: the graph's links, and the entries of funclets
pub record Ready (g : Graph) (m : RouteImage) (head next barriers : List ℕ) : Type 0 where
  pub stands : Stands g
  pub roomy : Roomy g head next
  pub linked : Linked g head next 0
  pub bars : Barriers g (routes_of m) barriers

-- the slot of a funclet: 0 for the root of a route, and else one more than the block that it begins with
unfoldable pub slot_of : Graph → Option ℕ → ℕ
slot_of g none = 0
slot_of g (some f) = block_of g f + 1

-- THE FIRSTS of the first n nodes: a slot for each block and one for the roots, with one more than the first node of that slot, and
-- 0 where there is none
pub record Firsts (g : Graph) (m : RouteImage) (nodes firsts : List ℕ) (n : ℕ) : Type 0 where
  pub room : length g.blocks < length firsts
  pub first_is : (s i : ℕ) → s < length firsts → get_or firsts s 0 ≡ i + 1 → (i < n) × (slot_of g (funclet_at m nodes i) ≡ s)
  pub none_before : (i : ℕ) → i < n → (0 < get_or firsts (slot_of g (funclet_at m nodes i)) 0) × (get_or firsts (slot_of g (funclet_at m nodes i)) 0 ≤ i + 1)

-- node i is stored so
pub record NodePlaced (i b e : ℕ) (w bases entries parts bases' entries' parts' : List ℕ) : Type 0 where
  pub bases_set : bases' ≡ set bases i b
  pub entries_set : entries' ≡ set entries i e
  pub part_put : SetPut parts i w parts'

-- one more instance, which copies r blocks, the first as block b; the entries behind it are as they were
pub record Placing (g : Graph) (m : RouteImage) (nodes : List ℕ) (i b r : ℕ) (bases entries parts bases' entries' parts' : List ℕ) : Type 0 where
  pub few : r ≤ 1024
  pub sizes : SameSizes bases entries parts bases' entries' parts'
  pub rest : (j : ℕ) → i < j → get_or entries' j 0 ≡ get_or entries j 0
  pub next : (edges ends : List ℕ) (n : ℕ) → i < n → b ≡ base g (funclets (routes_of m)) (nodes_in m nodes edges ends n) i
      → Placed g (funclets (routes_of m)) (nodes_in m nodes edges ends n) bases entries parts i
      → Placed g (funclets (routes_of m)) (nodes_in m nodes edges ends n) bases' entries' parts' (i + 1)
      × (b + r ≡ base g (funclets (routes_of m)) (nodes_in m nodes edges ends n) (i + 1))

-- all n, and 18: 'when the definition's result exceeds: 18 blocks 1,024'; whatever the edges and ends of the nodes
pub record PlacedAll (g : Graph) (m : RouteImage) (nodes : List ℕ) (n : ℕ) (bases entries parts : List ℕ) (c : Check) : Type 0 where
  pub slots : Slots n bases entries parts
  pub check : (edges ends : List ℕ) → c ≡ unless (leb (length g.blocks + length (clone_blocks g (funclets (routes_of m)) (nodes_in m nodes edges ends n))) 1024) (refusal 18 0 0)
  pub placed : (edges ends : List ℕ) → c ≡ clear → Placed g (funclets (routes_of m)) (nodes_in m nodes edges ends n) bases entries parts n
