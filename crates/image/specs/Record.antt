-- The records of an image as bytes: the list of 'The sequence image', width by width.
use Rattle.std.specs.Prelude.{Bool, List, ℕ, ◌+◌, eqb}
use Rattle.image.specs.Little.{le1, le4, le8}
use Rattle.image.specs.declared.record.Header.{Header}
use Rattle.image.specs.declared.record.Instruction.{Instruction}
use Rattle.image.specs.declared.record.Case.{Case}
use Rattle.image.specs.declared.record.GivenSource.{GivenSource}
use Rattle.image.specs.declared.record.GivenEdge.{GivenEdge}
use Rattle.image.specs.declared.record.Handler.{Handler}
use Rattle.image.specs.declared.record.Route.{Route}
use Rattle.image.specs.declared.record.Path.{Path}
use Rattle.image.specs.declared.record.Step.{Step}

-- 'Flags are 0 or 1.'
abbrev pub flag : List ℕ → ℕ → Bool
flag l at = eqb (le1 l at) 1

-- 'then a byte each for mode (0 to 2), calls (0 Edges, 1 Flatten), entry flag (0, 1), and the 8-byte entry'
abbrev pub header_from : List ℕ → Header
header_from l = record { mode = le1 l 1; calls = le1 l 2; has_entry = flag l 3; entry = le8 l 4 }

-- 'address 8, end 8, end flag 1, keeps exception edge 1, flow 1, target or default 8, case count 4'
abbrev pub instruction_from : List ℕ → ℕ → Instruction
instruction_from l at =
    record {
      address = le8 l at;
      end = le8 l (at + 8);
      has_end = flag l (at + 16);
      keeps = flag l (at + 17);
      flow = le1 l (at + 18);
      target = le8 l (at + 19);
      cases = le4 l (at + 27);
    }

-- 'key 4, target 8'
abbrev pub case_from : List ℕ → ℕ → Case
case_from l at = record { key = le4 l at; target = le8 l (at + 4) }

-- 'address 8, edge count 4'
abbrev pub source_from : List ℕ → ℕ → GivenSource
source_from l at = record { address = le8 l at; edges = le4 l (at + 8) }

-- 'target 8, kind 1, payload 4'
abbrev pub edge_from : List ℕ → ℕ → GivenEdge
edge_from l at = record { target = le8 l at; kind = le1 l (at + 8); payload = le4 l (at + 9) }

-- 'start 8, end 8, entry 8, kind 1, filter block 4'
abbrev pub handler_from : List ℕ → ℕ → Handler
handler_from l at =
    record { start = le8 l at; end = le8 l (at + 8); entry = le8 l (at + 16); kind = le1 l (at + 24); filter = le4 l (at + 25) }

-- 'start 8, end 8, path count 4'
abbrev pub route_from : List ℕ → ℕ → Route
route_from l at = record { start = le8 l at; end = le8 l (at + 8); paths = le4 l (at + 16) }

-- 'end 1, handler address 8, step count 4'
abbrev pub path_from : List ℕ → ℕ → Path
path_from l at = record { end = le1 l at; handler = le8 l (at + 1); steps = le4 l (at + 9) }

-- 'code 1, value 8'
abbrev pub step_from : List ℕ → ℕ → Step
step_from l at = record { code = le1 l at; value = le8 l (at + 1) }
