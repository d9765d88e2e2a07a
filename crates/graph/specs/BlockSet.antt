-- A set of blocks, of which there are 1,024, as sixteen words: block b is bit b % 64 of word b / 64.
use Rattle.std.specs.Prelude.{◌≡◌, Bool, true, false, cond, ◌&&◌, List, ℕ, ◌/◌, ◌%◌, ◌^◌, ◌≤◌, ◌<◌, eqb, get_or, set, replicate, Option, Some, None}
use Rattle.std.specs.Int.Bits.{bit_or, bit_xor}
use Rattle.graph.specs.Fold.{count}

unfoldable pub member : List ℕ → ℕ → Bool
member w b = eqb (get_or w (b / 64) 0 / 2 ^ (b % 64) % 2) 1

abbrev pub none : List ℕ
none = replicate 16 0

-- w with block b, and without it; past the last block there is nothing to put in or take out
unfoldable pub including : List ℕ → ℕ → List ℕ
including w b = set w (b / 64) (bit_or (get_or w (b / 64) 0) (2 ^ (b % 64)))

unfoldable pub excluding : List ℕ → ℕ → List ℕ
excluding w b = cond (member w b) (set w (b / 64) (bit_xor (get_or w (b / 64) 0) (2 ^ (b % 64)))) w

-- w has the blocks of both
abbrev pub Common : List ℕ → List ℕ → List ℕ → Type 0
Common u v w = (b : ℕ) → member w b ≡ (member u b && member v b)

-- how many blocks there are
abbrev pub size_of : List ℕ → ℕ
size_of w = count (member w) 1024

-- the lowest block, if there is one
abbrev pub LowestOf : List ℕ → Option ℕ → Type 0
LowestOf w (Some b) = (b < 1024) × (member w b ≡ true) × ((c : ℕ) → c < b → member w c ≡ false)
LowestOf w None = (c : ℕ) → member w c ≡ false

-- the lowest block from n on, if there is one
abbrev pub LowestFrom : List ℕ → ℕ → Option ℕ → Type 0
LowestFrom w n (Some b) = (b < 1024) × (member w b ≡ true) × ((c : ℕ) → n ≤ c → c < b → member w c ≡ false) × (n ≤ b)
LowestFrom w n None = (c : ℕ) → n ≤ c → member w c ≡ false
