-- A line of the chart as bytes: a word, a space and a field for each field, a newline.
use Rattle.std.specs.Prelude.{Bool, cond, List, [], ◌∷◌, ◌++◌, ℕ, zero, suc, ◌+◌, ◌/◌, ◌%◌}
use Prim.Native.Char.{code}
use Prim.Native.String.{String}
use Rattle.text.specs.declared.field.Field.{Field}
use Rattle.text.specs.declared.field.Field.TheVariants.{Number, Leave, Absent}

-- the bytes of a plain text
unfoldable pub bytes : String → List ℕ
bytes String.[] = []
bytes (String.◌∷◌ c s) = code c ∷ bytes s

-- 'Numbers are decimal', with the fewest digits. Those of the number whose tenth is q and whose last digit is d, if k are
-- enough for q; a number's value is enough for its tenth.
unfoldable pub digits_of : ℕ → ℕ → ℕ → List ℕ
digits_of zero q d = (48 + d) ∷ []
digits_of (suc k) zero d = (48 + d) ∷ []
digits_of (suc k) (suc q) d = digits_of k (suc q / 10) (suc q % 10) ++ ((48 + d) ∷ [])

unfoldable pub decimal : ℕ → List ℕ
decimal n = digits_of n (n / 10) (n % 10)

-- 'end block or `leave`'; 'What is absent .. is `-`.'
unfoldable pub field : Field → List ℕ
field (Number n) = 32 ∷ decimal n
field Leave = 32 ∷ bytes "leave"
field Absent = 32 ∷ 45 ∷ []

-- fields one behind the other
unfoldable pub fields : List Field → List ℕ
fields [] = []
fields (f ∷ fs) = field f ++ fields fs

abbrev pub present_if : Bool → ℕ → Field
present_if present n = cond present (Number n) Absent

-- a line that has begun so, with these fields more
unfoldable pub line : List ℕ → List Field → List ℕ
line begun [] = begun ++ (10 ∷ [])
line begun (f ∷ fs) = line (begun ++ field f) fs
