-- The sets of blocks that hops are gathered from, read as sixteen words each.
use Rattle.std.specs.Prelude.{◌≡◌, ◌⊎◌, Bool, true, false, List, [], ℕ, ◌+◌, ◌*◌, ◌/◌, ◌%◌, ◌^◌, ◌≤◌, ◌<◌, eqb, length, get_or}
use Rattle.graph.specs.Fold.{flat, some}
use Rattle.unwind.specs.Sources.{Exit}
use Rattle.unwind.specs.Gather.{in_set}

-- the sets of node i stand in the slices, and it returns from the first `blocks` blocks alone
pub record NodeSets (parts returns : List ℕ) (blocks i : ℕ) : Type 0 where
  pub part_fits : 16 * i + 16 ≤ length parts
  pub returns_fit : 16 * i + 16 ≤ length returns
  pub below : (o : ℕ) → in_set returns i o ≡ true → o < blocks

-- so it is with each of the first n nodes
pub record NodesSets (parts returns : List ℕ) (blocks n : ℕ) : Type 0 where
  pub each : (i : ℕ) → i < n → NodeSets parts returns blocks i

-- ---- the blocks that have a way out

-- word x has the blocks of word w that one of the first n sets has
pub record Joins (f : ℕ → ℕ → Bool) (n w x : ℕ) : Type 0 where
  pub has : (b : ℕ) → b / 64 ≡ w → eqb (x / 2 ^ (b % 64) % 2) 1 ≡ some (λ i. f i b) n

-- the sets of the routes and of the first n nodes stand in the slices, and have the first `blocks` blocks alone
pub record BlockSets (guards returns : List ℕ) (blocks routes n : ℕ) : Type 0 where
  pub guards_fit : 16 * routes ≤ length guards
  pub returns_fit : 16 * n ≤ length returns
  pub guards_below : (r o : ℕ) → r < routes → in_set guards r o ≡ true → o < blocks
  pub returns_below : (i o : ℕ) → i < n → in_set returns i o ≡ true → o < blocks

-- ---- the nodes on the original blocks

-- `count` of the first n nodes are listed: where those give nothing that have copies or return from no block of word w, the
-- listed give all
pub record Originals (bases returns originals : List ℕ) (n w count : ℕ) : Type 0 where
  pub few : count ≤ n
  pub within : (k : ℕ) → k < count → get_or originals k 0 < n
  pub original : (k : ℕ) → k < count → get_or bases (get_or originals k 0) 0 ≡ 0
  pub all : (f : ℕ → List Exit) → ((i : ℕ) → i < n → (get_or bases i 0 ≡ 0 → ⊥) ⊎ (get_or returns (16 * i + w) 0 ≡ 0) → f i ≡ []) → flat f n ≡ flat (λ k. f (get_or originals k 0)) count

-- a block of word w that word x has not, word `guarded` has not, and none of the listed nodes returns from it
pub record BusyIn (guarded : ℕ) (returns originals : List ℕ) (listed w x : ℕ) : Type 0 where
  pub unguarded : (b : ℕ) → b / 64 ≡ w → eqb (x / 2 ^ (b % 64) % 2) 1 ≡ false → eqb (guarded / 2 ^ (b % 64) % 2) 1 ≡ false
  pub unreturned : (b : ℕ) → b / 64 ≡ w → eqb (x / 2 ^ (b % 64) % 2) 1 ≡ false → (k : ℕ) → k < listed → in_set returns (get_or originals k 0) b ≡ false
