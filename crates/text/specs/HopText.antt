-- The lines of hops as a buffer holds them.
use Rattle.std.specs.Prelude.{List, [], map, ℕ, get_or, take}
use Rattle.addition.specs.Ways.{HopEnd, Hop}
use Rattle.text.specs.Chart.{hop_line}

-- hop i, past the last one without lists
abbrev pub hop_in : List Hop → ℕ → Hop
hop_in hs i = get_or hs i (record { source = 0; end = HopEnd.leave; calls = [] })

-- Words may name lists of any length. Of a list the first 512 tags are told: an image has no more steps, so of an addition's
-- hops none is cut (`lines_told`).
unfoldable pub told_line : Hop → List ℕ → List ℕ
told_line h tags = hop_line h (take 512 tags)

-- the line of list k of hop i; past the last list there is none
unfoldable pub told_at : List Hop → ℕ → ℕ → List ℕ
told_at hs i k = get_or (map (told_line (hop_in hs i)) (hop_in hs i).calls) k []
