-- Bad form: refusal 1 of a record, 'File order, field by field'.
use Rattle.std.specs.Prelude.{Bool, true, cond, ◌&&◌, ◌||◌, List, ℕ, ◌+◌, ◌-◌, eqb, leb, ltb, length}
use Rattle.image.specs.Little.{le1, le4, le8}
use Rattle.image.specs.Record.{flag}
use Rattle.image.specs.Refusal.{Check, refused, refusal, ◌then◌, unless}
use Rattle.image.specs.Kind.{Kind, Instructions, Cases, Sources, Edges, Handlers, Routes, Paths, Steps}

-- '1 bad form, byte offset'
abbrev pub bad : ℕ → Bool → Check
bad at good = unless good (refusal 1 at 0)

-- A field of w bytes: 'too few bytes (the length)', and its own offset where its value is not good.
unfoldable pub field : List ℕ → ℕ → ℕ → Bool → Check
field l at w good = cond (leb (at + w) (length l)) (bad at good) (refused (refusal 1 (length l) 0))

-- a byte that is at most `most`
abbrev pub byte : List ℕ → ℕ → ℕ → Check
byte l at most = field l at 1 (leb (le1 l at) most)

-- 'an unused field not 0'
abbrev pub used4 : List ℕ → ℕ → Bool → Check
used4 l at used = field l at 4 (used || eqb (le4 l at) 0)

abbrev pub used8 : List ℕ → ℕ → Bool → Check
used8 l at used = field l at 8 (used || eqb (le8 l at) 0)

-- the flows that name a target: Jump, Conditional, Call, Exceptional and Switch
unfoldable pub names_target : ℕ → Bool
names_target flow = leb 6 flow && leb flow 9 || eqb flow 12

-- 'Byte 0 is 1; then a byte each for mode (0 to 2), calls (0 Edges, 1 Flatten), entry flag (0, 1), and the 8-byte entry.'
abbrev pub header_form : List ℕ → Check
header_form l =
    field l 0 1 (eqb (le1 l 0) 1)
    then byte l 1 2
    then byte l 2 1
    then byte l 3 1
    then used8 l 4 (flag l 3)

-- 'an unused end being found when its flag is read and reported at the end's offset'; 'Flow is 0 to 12'
abbrev pub instruction_form : List ℕ → ℕ → Check
instruction_form l at =
    used8 l at true
    then used8 l (at + 8) true
    then byte l (at + 16) 1
    then bad (at + 8) (flag l (at + 16) || eqb (le8 l (at + 8)) 0)
    then byte l (at + 17) 1
    then byte l (at + 18) 12
    then used8 l (at + 19) (names_target (le1 l (at + 18)))
    then used4 l (at + 27) (eqb (le1 l (at + 18)) 12)

abbrev pub case_form : List ℕ → ℕ → Check
case_form l at = used4 l at true then used8 l (at + 4) true

-- 'given sources not strictly rising (offset of the later address)'; the first has none before it
abbrev pub source_form : List ℕ → ℕ → Bool → Check
source_form l at first = field l at 8 (first || ltb (le8 l (at - 12)) (le8 l at)) then used4 l (at + 8) true

-- edge kinds are 0 to 7
abbrev pub edge_form : List ℕ → ℕ → Check
edge_form l at = used8 l at true then byte l (at + 8) 7 then used4 l (at + 9) true

-- handler kinds are 0 to 4; only Filter, 4, has a filter block
abbrev pub handler_form : List ℕ → ℕ → Check
handler_form l at =
    used8 l at true
    then used8 l (at + 8) true
    then used8 l (at + 16) true
    then byte l (at + 24) 4
    then used4 l (at + 25) (eqb (le1 l (at + 24)) 4)

abbrev pub route_form : List ℕ → ℕ → Check
route_form l at = used8 l at true then used8 l (at + 8) true then used4 l (at + 16) true

-- path ends are 0 to 2; only Handler, 0, has an address
abbrev pub path_form : List ℕ → ℕ → Check
path_form l at = byte l at 2 then used8 l (at + 1) (eqb (le1 l at) 0) then used4 l (at + 9) true

-- step codes are 0 and 1; 'a call tag is below 2^32'
abbrev pub step_form : List ℕ → ℕ → Check
step_form l at = byte l at 1 then field l (at + 1) 8 (eqb (le1 l at) 0 || ltb (le8 l (at + 1)) 4294967296)

-- the record of a kind at a place, the first of its section or a later one
abbrev pub form_of : Kind → List ℕ → ℕ → Bool → Check
form_of Instructions l at first = instruction_form l at
form_of Cases l at first = case_form l at
form_of Sources l at first = source_form l at first
form_of Edges l at first = edge_form l at
form_of Handlers l at first = handler_form l at
form_of Routes l at first = route_form l at
form_of Paths l at first = path_form l at
form_of Steps l at first = step_form l at
