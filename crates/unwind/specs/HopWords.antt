-- The words of the hops of an addition, and what they hold: how many hops and how many lists there are, six words to spare,
-- then a section for the hops and one for the lists. Any words hold something: each section is cut at its limit. A list is
-- a run of consecutive steps of the route image.
use Rattle.std.specs.Prelude.{◌≡◌, Bool, true, false, cond, not, ◌&&◌, List, [], ◌∷◌, ◌++◌, map, ℕ, zero, suc, ◌+◌, ◌≤◌, ◌<◌, eqb, ltb, length, get_or, take, drop}
use Rattle.image.specs.Image.{RouteImage}
use Rattle.graph.specs.Section.{Section, records, Beside}
use Rattle.unwind.specs.declared.tries.store.Branch.{Branch}
use Rattle.unwind.specs.declared.hops.HopRow.{HopRow}
use Rattle.unwind.specs.declared.hops.ListRow.{ListRow}
use Rattle.addition.specs.Lists.{joined}
use Rattle.addition.specs.Walk.{◌∈◌}
use Rattle.unwind.specs.Nodes.{branch_in, tags_in}
use Rattle.unwind.specs.Gather.{in_set}
use Rattle.addition.specs.Ways.{HopEnd, block, leave, Hop}

-- ---- where the rows stand

abbrev pub hop_rows : Section
hop_rows = record { count = 0; base = 8; stride = 5; most = 2048 }

abbrev pub list_rows : Section
list_rows = record { count = 1; base = 10248; stride = 2; most = 4096 }

abbrev pub hop_row : List ℕ → HopRow
hop_row w = record { source = get_or w 0 0; has_end = get_or w 1 0; end = get_or w 2 0; first = get_or w 3 0; lists = get_or w 4 0 }

abbrev pub list_row : List ℕ → ListRow
list_row w = record { step = get_or w 0 0; calls = get_or w 1 0 }

pub record Rows : Type 0 where
  pub hops : List HopRow
  pub lists : List ListRow

unfoldable pub rows_in : List ℕ → Rows
rows_in l = record { hops = records hop_rows hop_row l; lists = records list_rows list_row l }

abbrev pub hop_at : Rows → ℕ → HopRow
hop_at r i = get_or r.hops i (hop_row [])

-- ---- what they stand for, over the routes that were read

unfoldable pub end_from : HopRow → HopEnd
end_from x = cond (eqb x.has_end 0) leave (block x.end)

module _ (m : RouteImage) where
  abbrev pub tags_from : ListRow → List ℕ
  tags_from t = tags_in m t.step t.calls

  -- of a hop: as many lists as it has, from its first on
  unfoldable pub row_hop : List ListRow → HopRow → Hop
  row_hop ts x = record { source = x.source; end = end_from x; calls = map tags_from (take x.lists (drop x.first ts)) }

  unfoldable pub row_hops : Rows → List Hop
  row_hops r = map (row_hop r.lists) r.hops

  -- THE HOPS IN WORDS
  abbrev pub hops_in : List ℕ → List Hop
  hops_in l = row_hops (rows_in l)

-- ---- one way more

-- no row
abbrev pub no_rows : Rows
no_rows = record { hops = []; lists = [] }

abbrev pub with_hop : Rows → HopRow → Rows
with_hop r x = record { hops = r.hops ++ (x ∷ []); lists = r.lists }

-- one hop more behind the others; none where their section is full
abbrev pub with_hop_if_room : Rows → HopRow → Rows
with_hop_if_room r x = cond (ltb (length r.hops) hop_rows.most) (with_hop r x) r

abbrev pub with_run : Rows → ListRow → Rows
with_run r t = record { hops = r.hops; lists = r.lists ++ (t ∷ []) }

abbrev pub wider : HopRow → HopRow
wider x = record { source = x.source; has_end = x.has_end; end = x.end; first = x.first; lists = x.lists + 1 }

-- the last hop has a list more
unfoldable pub widened : List HopRow → List HopRow
widened [] = []
widened (x ∷ []) = wider x ∷ []
widened (x ∷ y ∷ l) = x ∷ widened (y ∷ l)

abbrev pub with_wider : Rows → Rows
with_wider r = record { hops = widened r.hops; lists = r.lists }

-- a hop ends at the end of number n
unfoldable pub ends_at : HopRow → ℕ → Bool
ends_at x n = cond (eqb n 65535) (eqb x.has_end 0) (not (eqb x.has_end 0) && eqb x.end n)

-- the first of block b to the end of number n, whose lists begin at f
unfoldable pub hop_to : ℕ → ℕ → ℕ → HopRow
hop_to b n f = record { source = b; has_end = cond (eqb n 65535) 0 1; end = cond (eqb n 65535) 0 n; first = f; lists = 1 }

-- the last hop makes the same leap
unfoldable pub last_leaps : List HopRow → ℕ → ℕ → Bool
last_leaps [] b n = false
last_leaps (x ∷ []) b n = eqb x.source b && ends_at x n
last_leaps (x ∷ y ∷ l) b n = last_leaps (y ∷ l) b n

abbrev pub run_of : Branch → ListRow
run_of e = record { step = e.step; calls = e.calls }

-- an entry of block b: a list of the last hop if that makes the same leap, else a hop behind it
unfoldable pub rows_then : Rows → ℕ → Branch → Rows
rows_then r b e =
    cond (last_leaps r.hops b e.what) (with_wider (with_run r (run_of e))) (with_hop (with_run r (run_of e)) (hop_to b e.what (length r.lists)))

-- the first n entries of block b in scratch
unfoldable pub rows_on : Rows → ℕ → List ℕ → ℕ → Rows
rows_on r b l zero = r
rows_on r b l (suc n) = rows_then (rows_on r b l n) b (branch_in l n)

-- the lists of each hop begin where those of the hop before it end: a is the first, n is behind the last
unfoldable pub Consecutive : ℕ → List HopRow → ℕ → Type 0
Consecutive a [] n = a ≡ n
Consecutive a (x ∷ l) n = (x.first ≡ a) × Consecutive (a + x.lists) l n

pub record InOrder (r : Rows) : Type 0 where
  pub lists_follow : Consecutive 0 r.hops (length r.lists)

-- ---- the words that they do not use

-- word k neither counts nor is a word of a row
pub record HopsUnused (l : List ℕ) (k : ℕ) : Type 0 where
  pub behind : 2 ≤ k
  pub hops_beside : Beside hop_rows l k
  pub lists_beside : Beside list_rows l k

-- Stores took l to l', which holds r, and wrote no word but those that r uses. Nothing that l used is free again, so such
-- steps follow one another.
pub record HopsStored (l l' : List ℕ) (r : Rows) : Type 0 where
  pub holds : rows_in l' ≡ r
  pub uses : (k : ℕ) → HopsUnused l' k → HopsUnused l k
  pub kept : (k : ℕ) → HopsUnused l' k → get_or l' k 0 ≡ get_or l k 0

-- the same where what l used may be free
pub record HopsEmptied (l l' : List ℕ) : Type 0 where
  pub holds : rows_in l' ≡ no_rows
  pub kept : (k : ℕ) → HopsUnused l' k → get_or l' k 0 ≡ get_or l k 0

-- Stores took l to l', which holds the hops hs, all out of blocks below b.
pub record HopsHeld (m : RouteImage) (b : ℕ) (l l' : List ℕ) (hs : List Hop) : Type 0 where
  pub holds : hops_in m l' ≡ hs
  pub order : InOrder (rows_in l')
  pub below : (h : Hop) → h ∈ hs → h.source < b
  pub uses : (k : ℕ) → HopsUnused l' k → HopsUnused l k
  pub kept : (k : ℕ) → HopsUnused l' k → get_or l' k 0 ≡ get_or l k 0

-- the words hold these hops, and each word that they do not use is as it was
pub record HopsLaid (m : RouteImage) (l l' : List ℕ) (hs : List Hop) : Type 0 where
  pub holds : hops_in m l' ≡ hs
  pub kept : (k : ℕ) → HopsUnused l' k → get_or l' k 0 ≡ get_or l k 0

-- there is room for hops
pub record HopsFit (hs : List Hop) : Type 0 where
  pub hops : length hs ≤ 2048
  pub lists : length (joined (λ h. h.calls) hs) ≤ 4096

-- node i returns from blocks of its part alone
pub record ReturnsWithin (parts returns : List ℕ) (i : ℕ) : Type 0 where
  pub within : (o : ℕ) → in_set returns i o ≡ true → in_set parts i o ≡ true
