-- Records one behind the other.
use Rattle.std.specs.Prelude.{List, ℕ, ◌+◌, ◌*◌}
use Rattle.image.specs.Image.{table}

-- n records from a place on, w bytes each
abbrev pub records_at : {A : Type 0} → ℕ → (List ℕ → ℕ → A) → List ℕ → ℕ → ℕ → List A
records_at w from l at n = table (λ i. from l (at + w * i)) n
