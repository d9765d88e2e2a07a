-- Blocks in a row with the same ways out.
use Rattle.std.specs.Prelude.{◌≡◌, Bool, true, false, List, ℕ, ◌+◌, ◌*◌, ◌/◌, ◌%◌, ◌^◌, ◌<◌, get_or}
use Rattle.graph.specs.BlockSet.{member}
use Rattle.unwind.specs.Gather.{in_set}

-- none of the first n ends resumes
pub record Moves (landings : List ℕ) (n : ℕ) : Type 0 where
  pub moves : (k : ℕ) → k < n → get_or landings k 0 ≡ 65534 → ⊥

-- where word t has no mark, word k of each of the first n sets says the same of two places in a row
pub record Steady (sets : List ℕ) (n k t : ℕ) : Type 0 where
  pub same : (i j : ℕ) → i < n → t / 2 ^ j % 2 ≡ 0 → get_or sets (16 * i + k) 0 / 2 ^ j % 2 ≡ get_or sets (16 * i + k) 0 / 2 ^ (j + 1) % 2

-- where t has no mark, the same routes guard two of the blocks in a row, and the same nodes return from them; the last block
-- of a word is not told from the next
pub record Turning (guards : List ℕ) (routes : ℕ) (returns : List ℕ) (nodes blocks : ℕ) (t : List ℕ) : Type 0 where
  pub guards_same : (r b : ℕ) → r < routes → b < blocks → b % 64 < 63 → member t b ≡ false → in_set guards r b ≡ in_set guards r (b + 1)
  pub returns_same : (i b : ℕ) → i < nodes → b < blocks → b % 64 < 63 → member t b ≡ false → in_set returns i b ≡ in_set returns i (b + 1)

-- b stands behind a, without a mark between them, and it is worth knowing
pub record GoesOn (worth : Bool) (t : List ℕ) (a b : ℕ) : Type 0 where
  pub sought : worth ≡ true
  pub next : b ≡ a + 1
  pub low : a % 64 < 63
  pub steady : member t a ≡ false
