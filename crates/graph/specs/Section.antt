-- A section of a list of words: rows of `stride` words from `base` on, as many as the word at `count` says, and `most` at
-- most. Whatever the count says, no more than `most` rows are read, so every list of words has its rows.
use Rattle.std.specs.Prelude.{◌⊎◌, List, ℕ, ◌+◌, ◌*◌, ◌≤◌, ◌<◌, min, get_or, take, drop}
use Rattle.image.specs.Image.{table}

pub record Section : Type 0 where
  pub count : ℕ
  pub base : ℕ
  pub stride : ℕ
  pub most : ℕ

-- where row i begins
abbrev pub place : Section → ℕ → ℕ
place s i = s.base + s.stride * i

-- how many rows are read
unfoldable pub size : Section → List ℕ → ℕ
size s l = min (get_or l s.count 0) s.most

unfoldable pub row_at : Section → List ℕ → ℕ → List ℕ
row_at s l i = take s.stride (drop (place s i) l)

-- the rows, each read as a record
unfoldable pub records : {A : Type 0} → Section → (List ℕ → A) → List ℕ → List A
records s of l = table (λ i. of (row_at s l i)) (size s l)

-- word k is in none of the rows that are read
abbrev pub Beside : Section → List ℕ → ℕ → Type 0
Beside s l k = (k < s.base) ⊎ (place s (size s l) ≤ k)
