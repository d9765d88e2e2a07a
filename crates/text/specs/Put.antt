-- What the code that writes lines leaves in a buffer.
use Rattle.std.specs.Prelude.{◌≡◌, List, ◌++◌, ℕ, ◌+◌, ◌≤◌, length, drop}
use Rattle.std.proofs.lemmas.List.Edits.{sets}

-- bytes were put into a buffer from place n on, and n' is the place behind them
pub record Puts (bytes before : List ℕ) (n : ℕ) (after : List ℕ) (n' : ℕ) : Type 0 where
  pub stored : after ≡ sets before n bytes
  pub next : n' ≡ n + length bytes

-- The first n bytes of a buffer are the line, and the others are as they were.
pub record Told (line before after : List ℕ) (n : ℕ) : Type 0 where
  pub bytes : after ≡ line ++ drop n before
  pub count : n ≡ length line
  pub fits : n ≤ length after
