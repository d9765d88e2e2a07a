-- The search for the reached blocks: what its steps keep. Only the contracts of `reach` cite this file; what the search
-- finds is said by `Finds`, with the definition of Reached.
use Rattle.std.specs.Prelude.{◌≡◌, true, cond, List, [], ◌∷◌, ℕ, suc, ◌+◌, ◌-◌, ◌*◌, ◌≤◌, ◌<◌, eqb, length, get_or, drop}
use Rattle.graph.specs.Graph.{Graph, edge}
use Rattle.graph.specs.BlockSet.{member, including, size_of}
use Rattle.graph.specs.WellFormed.{is_block, edge_ends_exist}
use Rattle.graph.specs.Reached.{Reached}
use Rattle.graph.specs.declared.record.Edge.{Edge}

abbrev pub In : List ℕ → ℕ → Type 0
In w b = member w b ≡ true

-- the set has the reached blocks and no other
pub record Finds (g : Graph) (w : List ℕ) : Type 0 where
  pub sound : (b : ℕ) → In w b → Reached g b
  pub complete : (b : ℕ) → Reached g b → In w b

-- what 21 says of a graph's ends
pub record Ends (g : Graph) : Type 0 where
  pub entry : is_block g g.entry ≡ true
  pub edges : edge_ends_exist g ≡ true

-- ---- edges linked by their source

-- the first edge from b among those from place i on, its number plus one; 0 where there is none
unfoldable pub link_in : List Edge → ℕ → ℕ → ℕ
link_in [] b i = 0
link_in (e ∷ es) b i = cond (eqb e.source b) (suc i) (link_in es b (suc i))

unfoldable pub link : Graph → ℕ → ℕ → ℕ
link g b i = link_in (drop i g.edges) b i

-- the edges from place i on are linked: from each block to its first, and from each edge to the next of its block
pub record Linked (g : Graph) (head next : List ℕ) (i : ℕ) : Type 0 where
  pub heads : (b : ℕ) → b < length head → get_or head b 0 ≡ link g b i
  pub nexts : (e : ℕ) → i ≤ e → e < length g.edges → get_or next e 0 ≡ link g (edge g e).source (suc e)

-- there is room for the links
pub record Roomy (g : Graph) (head next : List ℕ) : Type 0 where
  pub blocks : length g.blocks ≤ length head
  pub edges : length g.edges ≤ length next

-- ---- the worklist

-- What has been seen is reached, what is pending has been seen, and each edge from a block that is seen and not pending leads
-- to one that is seen; but of the edges from b only those below place i are followed yet.
pub record Works (g : Graph) (b i : ℕ) (seen pending : List ℕ) : Type 0 where
  pub long : (length seen ≡ 16) × (length pending ≡ 16)
  pub sound : (c : ℕ) → In seen c → Reached g c
  pub first : In seen g.entry
  pub pends : (c : ℕ) → In pending c → In seen c
  pub closed : (e : ℕ) → e < length g.edges → In seen (edge g e).source → (In pending (edge g e).source → ⊥) → ((edge g e).source ≡ b → e < i) → In seen (edge g e).target

-- what is left to do: two for each block that is not seen, and one for each that is pending
abbrev pub left : List ℕ → List ℕ → ℕ
left seen pending = 2 * (1024 - size_of seen) + size_of pending

pub record Followed (g : Graph) (b i : ℕ) (seen pending seen' pending' : List ℕ) : Type 0 where
  pub from : In seen' b
  pub works : Works g b i seen' pending'
  pub less : left seen' pending' ≤ left seen pending

-- the edges from b are followed up to place i
abbrev pub Follows : Graph → ℕ → ℕ → List ℕ → List ℕ → List ℕ → List ℕ → Type 0
Follows g b i seen pending seen' pending' = In seen b → Works g b 0 seen pending → Followed g b i seen pending seen' pending'

-- block t is seen, and is pending if it was not seen before
abbrev pub seeing : List ℕ → ℕ → List ℕ → List ℕ
seeing seen t w = cond (member seen t) w (including w t)
