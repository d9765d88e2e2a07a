-- The trie in scratch: what the numbers of the nodes, edges and ends stand for, and what is read and stored of them.
use Rattle.std.specs.Prelude.{◌≡◌, ◌⊎◌, List, [], ◌∷◌, map, ℕ, zero, suc, ◌+◌, ◌*◌, ◌≤◌, ◌<◌, length, get_or}
use Rattle.std.proofs.Math.Option.{Option, none, some}
use Rattle.image.specs.Record.{path_from, step_from}
use Rattle.image.specs.Image.{RouteImage, table}
use Rattle.image.specs.Deal.{UnwindEnd, end_of}
use Rattle.image.specs.declared.record.Path.{Path}
use Rattle.image.specs.declared.record.Step.{Step}
use Rattle.graph.specs.Fold.{sum}
use Rattle.unwind.specs.declared.tries.store.NodeRecord.{NodeRecord}
use Rattle.unwind.specs.declared.tries.store.Branch.{Branch}
use Rattle.unwind.specs.declared.tries.store.Counts.{Counts}
use Rattle.addition.specs.Order.{Tagged, tagged}
use Rattle.addition.specs.Trie.{Node}

-- ---- the numbers

unfoldable pub record_in : List ℕ → ℕ → NodeRecord
record_in l i =
    record {
      funclet = get_or l (6 * i) 0;
      route = get_or l (6 * i + 1) 0;
      first_edge = get_or l (6 * i + 2) 0;
      edges = get_or l (6 * i + 3) 0;
      first_end = get_or l (6 * i + 4) 0;
      ends = get_or l (6 * i + 5) 0;
    }

unfoldable pub branch_in : List ℕ → ℕ → Branch
branch_in l k = record { step = get_or l (3 * k) 0; calls = get_or l (3 * k + 1) 0; what = get_or l (3 * k + 2) 0 }

-- the n branches from a on
unfoldable pub branches : List ℕ → ℕ → ℕ → List Branch
branches l a n = table (λ k. branch_in l (a + k)) n

-- the ways of node i out of one block: its edges and ends
abbrev pub ways_of : List ℕ → ℕ → ℕ
ways_of nodes i = (record_in nodes i).edges + (record_in nodes i).ends

-- the number that names a funclet, or 0 if there is none
abbrev pub value_of : Option ℕ → ℕ
value_of none = 0
value_of (some v) = v

-- ---- what they stand for, over the routes that were read

module _ (m : RouteImage) where
  abbrev pub step_in : ℕ → Step
  step_in j = get_or m.steps j (step_from [] 0)

  abbrev pub path_record : ℕ → Path
  path_record p = get_or m.paths p (path_from [] 0)

  -- the tags of the n steps from a on
  unfoldable pub tags_in : ℕ → ℕ → List ℕ
  tags_in a zero = []
  tags_in a (suc n) = (step_in a).value ∷ tags_in (suc a) n

  unfoldable pub funclet_in : ℕ → Option ℕ
  funclet_in zero = none
  funclet_in (suc j) = some (step_in j).value

  unfoldable pub edge_of : Branch → Tagged ℕ
  edge_of b = tagged (tags_in b.step b.calls) b.what

  unfoldable pub end_at : Branch → Tagged UnwindEnd
  end_at b = tagged (tags_in b.step b.calls) (end_of (path_record b.what))

  -- the node of a record, whose edges and ends stand in two lists
  unfoldable pub node_in : List ℕ → List ℕ → NodeRecord → Node
  node_in edges ends x =
      record {
        funclet = funclet_in x.funclet;
        edges = map edge_of (branches edges x.first_edge x.edges);
        ends = map end_at (branches ends x.first_end x.ends);
        route = x.route;
      }

  -- THE NODES IN SCRATCH: the first n
  unfoldable pub nodes_in : List ℕ → List ℕ → List ℕ → ℕ → List Node
  nodes_in nodes edges ends n = table (λ i. node_in edges ends (record_in nodes i)) n

-- ---- what holds of scratch with so many nodes, edges and ends

pub record Stored (nodes edges ends : List ℕ) (c : Counts) : Type 0 where
  pub nodes_fit : 6 * c.nodes ≤ length nodes
  pub edges_fit : 3 * c.edges ≤ length edges
  pub ends_fit : 3 * c.ends ≤ length ends
  -- the edges and ends of each node stand among those that are stored
  pub edges_within : (i : ℕ) → i < c.nodes → (record_in nodes i).first_edge + (record_in nodes i).edges ≤ c.edges
  pub ends_within : (i : ℕ) → i < c.nodes → (record_in nodes i).first_end + (record_in nodes i).ends ≤ c.ends
  -- so do those of all nodes together: no two share one
  pub ways_within : sum (ways_of nodes) c.nodes ≤ c.edges + c.ends

-- the edges and ends of x stand in two lists
pub record NodeFits (edges ends : List ℕ) (x : NodeRecord) : Type 0 where
  pub edges_within : 3 * (x.first_edge + x.edges) ≤ length edges
  pub ends_within : 3 * (x.first_end + x.ends) ≤ length ends

-- so do those of the nodes f 0, f 1, .. below n
pub record AllFit (nodes edges ends : List ℕ) (f : ℕ → ℕ) (n : ℕ) : Type 0 where
  pub fits : (i : ℕ) → i < n → NodeFits edges ends (record_in nodes (f i))

-- node i and its ends stand in the slices
pub record EndsThere (nodes ends : List ℕ) (i : ℕ) : Type 0 where
  pub node_in : 6 * i + 6 ≤ length nodes
  pub ends_within : 3 * ((record_in nodes i).first_end + (record_in nodes i).ends) ≤ length ends

-- ---- what is read and stored

-- numbers that a u16 holds
pub record NodeSmall (x : NodeRecord) : Type 0 where
  pub funclet : x.funclet < 65536
  pub route : x.route < 65536
  pub first_edge : x.first_edge < 65536
  pub edges : x.edges < 65536
  pub first_end : x.first_end < 65536
  pub ends : x.ends < 65536

pub record BranchSmall (b : Branch) : Type 0 where
  pub step : b.step < 65536
  pub calls : b.calls < 65536
  pub what : b.what < 65536

pub record NodeRead (l : List ℕ) (i : ℕ) (r : NodeRecord) : Type 0 where
  pub is : r ≡ record_in l i
  pub small : NodeSmall r

pub record BranchRead (l : List ℕ) (k : ℕ) (r : Branch) : Type 0 where
  pub is : r ≡ branch_in l k
  pub small : BranchSmall r

-- number i is x, and all others are as they were
pub record NodePut (l : List ℕ) (i : ℕ) (x : NodeRecord) (l' : List ℕ) : Type 0 where
  pub long : length l' ≡ length l
  pub here : record_in l' i ≡ x
  pub others : (j : ℕ) → (j ≡ i → ⊥) → record_in l' j ≡ record_in l j

pub record BranchPut (l : List ℕ) (k : ℕ) (b : Branch) (l' : List ℕ) : Type 0 where
  pub long : length l' ≡ length l
  pub here : branch_in l' k ≡ b
  pub others : (j : ℕ) → (j ≡ k → ⊥) → branch_in l' j ≡ branch_in l j

-- three numbers from place i on, and all others as they were
pub record ThreePut (l : List ℕ) (i a b c : ℕ) (l' : List ℕ) : Type 0 where
  pub long : length l' ≡ length l
  pub first : get_or l' i 0 ≡ a
  pub second : get_or l' (i + 1) 0 ≡ b
  pub third : get_or l' (i + 2) 0 ≡ c
  pub others : (j : ℕ) → (j < i) ⊎ (i + 3 ≤ j) → get_or l' j 0 ≡ get_or l j 0
