-- What the count of edges is lent.
use Rattle.std.specs.Prelude.{◌≡◌, List, ℕ, ◌≤◌, get_or}
use Rattle.image.specs.Image.{Image}
use Rattle.graph.specs.Fold.{count}
use Rattle.graph.specs.Transfer.{size, instruction_at}

-- how many of the instructions before p keep their exception edge
abbrev pub kept_before : Image → ℕ → ℕ
kept_before m p = count (λ q. (instruction_at m q).keeps) p

pub record Kept (m : Image) (kept : List ℕ) : Type 0 where
  pub before : (p : ℕ) → p ≤ size m → get_or kept p 0 ≡ kept_before m p
