-- Numbers in bytes: 'Integers are little-endian.'
use Rattle.std.specs.Prelude.{List, ℕ, ◌+◌, ◌*◌, get_or}

-- the byte, the four and the eight bytes at a place
abbrev pub le1 : List ℕ → ℕ → ℕ
le1 l at = get_or l at 0

abbrev pub le4 : List ℕ → ℕ → ℕ
le4 l at = le1 l at + 256 * le1 l (at + 1) + 65536 * le1 l (at + 2) + 16777216 * le1 l (at + 3)

abbrev pub le8 : List ℕ → ℕ → ℕ
le8 l at = le4 l at + 4294967296 * le4 l (at + 4)
