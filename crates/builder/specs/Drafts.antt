-- What the code that adds regions is lent, and what it answers on the way: ranges and drafts in arrays, and the parent of one.
use Rattle.std.specs.Prelude.{◌≡◌, List, ◌∷◌, ◌++◌, ℕ, ◌≤◌, ◌<◌, length, get_or, take, drop}
use Rattle.image.specs.Refusal.{clear}
use Rattle.image.specs.Image.{Image}
use Rattle.graph.specs.declared.record.Region.{Region}
use Rattle.graph.specs.declared.record.HandlerRecord.{HandlerRecord}
use Rattle.graph.specs.Graph.{Graph, held}
use Rattle.graph.specs.Lent.{held_of}
use Rattle.graph.specs.declared.store.Graph.{Graph as Lent}
use Rattle.graph.specs.Fold.{checks}
use Rattle.graph.specs.Transfer.{table_of}
use Rattle.graph.specs.Leaders.{handler_at}
use Rattle.graph.specs.Build.{table_check, handler_check}
use Rattle.builder.specs.Emit.{Numbered}

-- two arrays hold the ranges of the handlers, and zeros past the last
pub record Extents (m : Image) (starts ends : List ℕ) : Type 0 where
  pub start : (h : ℕ) → get_or starts h 0 ≡ (handler_at m h).start
  pub end : (h : ℕ) → get_or ends h 0 ≡ (handler_at m h).end

-- an array of 32 numbers of handlers, the first n in use
pub record Counted (l : List ℕ) (n : ℕ) : Type 0 where
  pub room : length l ≡ 32
  pub within : n ≤ 32
  pub below : (k : ℕ) → get_or l k 0 < 32

-- those in use are these drafts
pub record Drafted (l : List ℕ) (n : ℕ) (gs : List ℕ) : Type 0 where
  pub counted : Counted l n
  pub list : take n l ≡ gs

-- h in place j of a list
abbrev pub put : ℕ → ℕ → List ℕ → List ℕ
put j h gs = take j gs ++ h ∷ drop j gs

-- the checks of the table and of the handlers have passed, and the numbers of the blocks are known
pub record Handled (m : Image) (blocks : List ℕ) : Type 0 where
  pub few : length m.handlers ≤ 32
  pub table : table_check (table_of m) ≡ clear
  pub passed : checks (handler_check m) (length m.handlers) ≡ clear
  pub numbered : Numbered m blocks

-- a lent graph that holds one of which nothing is cut
abbrev pub Whole : Lent → Type 0
Whole g = held_of g ≡ held (held_of g).graph

-- a graph with these regions, or these handlers, for its own
abbrev pub with_regions : Graph → List Region → Graph
with_regions g rs =
    record { entry = g.entry; table = g.table; blocks = g.blocks; edges = g.edges; regions = rs; handlers = g.handlers; unresolved = g.unresolved; calls = g.calls }

abbrev pub with_handlers : Graph → List HandlerRecord → Graph
with_handlers g hs =
    record { entry = g.entry; table = g.table; blocks = g.blocks; edges = g.edges; regions = g.regions; handlers = hs; unresolved = g.unresolved; calls = g.calls }
