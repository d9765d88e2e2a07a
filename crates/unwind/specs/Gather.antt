-- The ways out of one block, gathered in scratch from the nodes of the trie.
use Rattle.std.specs.Prelude.{◌≡◌, Bool, cond, ◌&&◌, List, [], ◌∷◌, ◌++◌, eqb, length, get_or, take, drop}
use Prim.Native.Nat.{ℕ, ◌+◌, ◌*◌, ◌/◌, ◌≤◌, ◌<◌, Ordering}
use Rattle.image.specs.Image.{RouteImage, table}
use Rattle.graph.specs.BlockSet.{member}
use Rattle.unwind.specs.declared.tries.store.NodeRecord.{NodeRecord}
use Rattle.unwind.specs.declared.tries.store.Branch.{Branch}
use Rattle.addition.specs.Order.{put}
use Rattle.unwind.specs.Nodes.{branch_in, record_in, tags_in, BranchSmall}
use Rattle.addition.specs.Walk.{◌∈◌}
use Rattle.unwind.specs.Sources.{Exit, compare_exits}
use Rattle.unwind.specs.Entries.{end_in, exit_in, exits_in, Ordered}

-- xs put one after the other
unfoldable pub put_all : {A : Type 0} → (A → A → Ordering) → List A → List A → List A
put_all c [] l = l
put_all c (x ∷ xs) l = put_all c xs (put c x l)

-- the number of end k out of block b, where it goes on if the end resumes
unfoldable pub end_number : ℕ → List ℕ → ℕ → ℕ
end_number b landings k = cond (eqb (get_or landings k 0) 65534) b (get_or landings k 0)

module _ (m : RouteImage) where
  -- with the calls of e to the end of number n
  abbrev pub exit_to : ℕ → Branch → ℕ → Exit
  exit_to b e n = record { leap = record { source = b; end = end_in n }; calls = tags_in m e.step e.calls }

  -- ---- by the numbers that are lent: `heads` the entry of each node, `landings` where each end lands

  -- of the n branches from a on, branch k to the end of number f k
  abbrev pub branch_exits : ℕ → List ℕ → (ℕ → ℕ) → ℕ → ℕ → List Exit
  branch_exits b l f a n = table (λ k. exit_to b (branch_in l (a + k)) (f k)) n

  unfoldable pub edge_exits : ℕ → List ℕ → List ℕ → ℕ → ℕ → List Exit
  edge_exits b edges heads a n = table (λ k. exit_to b (branch_in edges (a + k)) (get_or heads (branch_in edges (a + k)).what 0)) n

  unfoldable pub end_exits : ℕ → List ℕ → List ℕ → ℕ → ℕ → List Exit
  end_exits b ends landings a n = table (λ k. exit_to b (branch_in ends (a + k)) (end_number b landings (a + k))) n

  unfoldable pub record_exits : ℕ → List ℕ → List ℕ → List ℕ → List ℕ → NodeRecord → List Exit
  record_exits b edges ends heads landings x =
      edge_exits b edges heads x.first_edge x.edges ++ end_exits b ends landings x.first_end x.ends

  -- xs are put among the n exits of block b
  pub record Gathers (b : ℕ) (l : List ℕ) (n : ℕ) (xs : List Exit) (l' : List ℕ) (r : ℕ) : Type 0 where
    pub long : length l' ≡ length l
    pub most : r ≤ n + length xs
    pub ordered : Ordered m l' r
    pub is : exits_in m b l' r ≡ put_all compare_exits xs (exits_in m b l n)

pub record EntryTo (e : Branch) (n : ℕ) (r : Branch) : Type 0 where
  pub small : BranchSmall r
  pub is : (m : RouteImage) (b : ℕ) → exit_in m b r ≡ exit_to m b e n

-- ---- those of one block

-- sets of sixteen words each
abbrev pub in_set : List ℕ → ℕ → ℕ → Bool
in_set l i b = member (take 16 (drop (16 * i) l)) b

-- node i stands in the slices, with its edges, the entries of the nodes after them, and where its ends land
pub record NodeThere (nodes edges heads landings : List ℕ) (i : ℕ) : Type 0 where
  pub node_in : 6 * i + 6 ≤ length nodes
  pub edges_within : 3 * ((record_in nodes i).first_edge + (record_in nodes i).edges) ≤ length edges
  pub heads_in : (k : ℕ) → k < (record_in nodes i).edges → (branch_in edges ((record_in nodes i).first_edge + k)).what < length heads
  pub lands_in : (record_in nodes i).first_end + (record_in nodes i).ends ≤ length landings

-- so do f 0, f 1, .. below n
pub record AllThere (nodes edges heads landings : List ℕ) (f : ℕ → ℕ) (n : ℕ) : Type 0 where
  pub there : (i : ℕ) → i < n → NodeThere nodes edges heads landings (f i)

module _ (m : RouteImage) (b : ℕ) (edges ends heads landings : List ℕ) where
  -- of route r, if its set of guarded blocks has b; of node i, if it returns from b; of node i, if it has the original
  -- blocks besides
  unfoldable pub route_records : List ℕ → List ℕ → List ℕ → ℕ → List Exit
  route_records nodes roots guards r = cond (in_set guards r b) (record_exits m b edges ends heads landings (record_in nodes (get_or roots r 0))) []

  unfoldable pub return_records : List ℕ → List ℕ → ℕ → List Exit
  return_records nodes returns i = cond (in_set returns i b) (record_exits m b edges ends heads landings (record_in nodes i)) []

  unfoldable pub node_records : List ℕ → List ℕ → List ℕ → ℕ → List Exit
  node_records nodes bases returns i =
      cond (eqb (get_or bases i 0) 0 && in_set returns i b) (record_exits m b edges ends heads landings (record_in nodes i)) []

  -- all that can be gathered, and room for twice as much
  unfoldable pub pool : List Exit
  pool = edge_exits m b edges heads 0 (length edges / 3) ++ end_exits m b ends landings 0 (length ends / 3)

  pub record Pooled (l : List ℕ) (n : ℕ) : Type 0 where
    pub ordered : Ordered m l n
    pub within : (x : Exit) → x ∈ exits_in m b l n → x ∈ pool
    pub room : 2 * (length edges + length ends) ≤ length l

  pub record Adds (l : List ℕ) (n : ℕ) (xs : List Exit) (l' : List ℕ) (r : ℕ) : Type 0 where
    pub gathers : Gathers m b l n xs l' r
    pub pooled : Pooled l' r
