-- Route edges as they are stored: each pair of a way is the leap of one hop, and a flag of that hop says whether the pair
-- was wanted before.
use Rattle.graph.specs.declared.store.Graph.{Graph as Lent}
use Rattle.std.specs.Prelude.{◌≡◌, true, cond, List, [], ◌∷◌, ℕ, ◌+◌, ◌<◌, eqb, length, get_or}
use Prim.Native.Nat.{Ordering}
use Rattle.image.specs.Image.{RouteImage}
use Rattle.graph.specs.Graph.{Graph, block as block_at}
use Rattle.graph.specs.Lent.{held_of}
use Rattle.graph.specs.Fold.{count}
use Rattle.graph.specs.BlockSet.{member}
use Rattle.graph.specs.Adding.{Added}
use Rattle.unwind.specs.declared.hops.HopRow.{HopRow}
use Rattle.addition.specs.Lists.{joined}
use Rattle.unwind.specs.Nodes.{record_in}
use Rattle.unwind.specs.Clones.{list_of}
use Rattle.addition.specs.Walk.{◌∈◌}
use Rattle.addition.specs.Ways.{block, Way, Leap, leap, compare_leaps, wanted, route_edges}
use Rattle.unwind.specs.Entries.{end_in}
use Rattle.unwind.specs.HopWords.{rows_in, hop_at, end_from}
use Rattle.unwind.specs.Wanted.{record_ways, RunsFit}

-- ---- leaps by numbers

-- from block s to block t, and from block b to the end of number t
abbrev pub pair : ℕ → ℕ → Leap
pair s t = record { source = s; end = block t }

abbrev pub leap_to : ℕ → ℕ → Leap
leap_to b t = record { source = b; end = end_in t }

-- the way of route r there
abbrev pub way_to : ℕ → ℕ → ℕ → List ℕ → Way
way_to r b t calls = record { source = b; route = r; calls = calls; end = end_in t }

-- of a hop in words, and of number k
abbrev pub row_leap : HopRow → Leap
row_leap x = record { source = x.source; end = end_from x }

abbrev pub leap_at : List ℕ → ℕ → Leap
leap_at l k = row_leap (hop_at (rows_in l) k)

-- ---- the hops of ways

-- the hops rise, so no two make one leap
pub record HopsRise (l : List ℕ) : Type 0 where
  pub rise : (i j : ℕ) → i < j → j < length (rows_in l).hops → compare_leaps (leap_at l i) (leap_at l j) ≡ Ordering.lt

-- hop k makes leap x
pub record HopIs (l : List ℕ) (x : Leap) (k : ℕ) : Type 0 where
  pub stands : k < length (rows_in l).hops
  pub is : leap_at l k ≡ x

-- some hop does
pub record HopStands (l : List ℕ) (x : Leap) : Type 0 where
  pub hop : ℕ
  pub makes : HopIs l x hop

-- the runs of blocks lie in the table, and each hop to a block joins two of the graph, the latter with a first instruction
pub record HopsJoin (l : List ℕ) (g : Graph) : Type 0 where
  pub runs : RunsFit g
  pub joins : (s t : ℕ) → HopStands l (pair s t) → (s < length g.blocks) × (t < length g.blocks) × ((block_at g t).first < length g.table)

pub record WaysStand (l : List ℕ) (ws : List Way) : Type 0 where
  pub rises : HopsRise l
  pub stands : (w : Way) → w ∈ ws → HopStands l (leap w)

-- Calls do not matter to leaps: of ways by an image and by ends that say where calls stand, those of some stand.
abbrev pub SomeStand : List ℕ → (RouteImage → List ℕ → List Way) → Type 0
SomeStand l f = (m : RouteImage) × (ends : List ℕ) × WaysStand l (f m ends)

-- ---- flags

-- flag k, a bit, says whether the pair of hop k is among those seen; no flag stands in the last word
pub record Flags (l done : List ℕ) (seen : List Leap) : Type 0 where
  pub long : length done ≡ 33
  pub tells : (k s t : ℕ) → HopIs l (pair s t) k → member done k ≡ wanted s t seen

-- flag k is set, and the others are as they were
pub record FlagSet (done : List ℕ) (k : ℕ) (done' : List ℕ) : Type 0 where
  pub long : length done' ≡ length done
  pub this : length done ≡ 33 → member done' k ≡ true
  pub others : length done ≡ 33 → (j : ℕ) → j < 2048 → (j ≡ k → ⊥) → member done' j ≡ member done j

-- the leaps of ways are seen besides
unfoldable pub seen_with : List Way → List Leap → List Leap
seen_with [] seen = seen
seen_with (w ∷ ws) seen = seen_with ws (leap w ∷ seen)

-- ---- what is stored

-- the blocks are as they were
pub record SameRuns (g g' : Graph) : Type 0 where
  pub table : g'.table ≡ g.table
  pub blocks : g'.blocks ≡ g.blocks

-- The edges that ways ws want first are added and their flags set, over the hops in h, whichever leaps were seen before.
pub record EdgesWanted (h : List ℕ) (g : Lent) (done : List ℕ) (ws : List Way) (g' : Lent) (done' : List ℕ) : Type 0 where
  pub runs : SameRuns (held_of g).graph (held_of g').graph
  pub added : (seen : List Leap) → Flags h done seen → Added g g' (route_edges (held_of g).graph seen ws) [] []
  pub flags : (seen : List Leap) → Flags h done seen → Flags h done' (seen_with ws seen)

-- whichever calls they make
abbrev pub AllWanted : List ℕ → Lent → List ℕ → (RouteImage → List ℕ → List Way) → Lent → List ℕ → Type 0
AllWanted h g done f g' done' = (m : RouteImage) (ends : List ℕ) → EdgesWanted h g done (f m ends) g' done'

-- ---- the blocks of a node

-- where a node has block o: as it is where `base` is 0, else copied, and `base` is the first copy
unfoldable pub place_of : ℕ → List ℕ → ℕ → ℕ
place_of base part o = cond (eqb base 0) o (base + count (member part) o)

-- the ways of node i for route r out of the blocks of a set
unfoldable pub set_ways : RouteImage → List ℕ → List ℕ → List ℕ → List ℕ → List ℕ → ℕ → ℕ → ℕ → List ℕ → List ℕ → List Way
set_ways m nodes edges ends heads landings i r base part set =
    joined (λ o. record_ways m nodes edges ends heads landings r (place_of base part o) (record_in nodes i)) (list_of set)

-- node i has no edges, and all its ends leave, so it wants nothing
pub record Over (nodes landings : List ℕ) (i : ℕ) : Type 0 where
  pub edgeless : (record_in nodes i).edges ≡ 0
  pub leaves : (k : ℕ) → k < (record_in nodes i).ends → get_or landings ((record_in nodes i).first_end + k) 0 ≡ 65535
