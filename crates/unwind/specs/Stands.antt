-- What the look-up of blocks asks of a graph, and what it answers.
use Rattle.std.specs.Prelude.{◌≡◌, true, List, ℕ, ◌≤◌, ◌<◌, Result, Ok, Err}
use Rattle.image.specs.Refusal.{clear}
use Rattle.image.specs.Deal.{UnwindPath, UnwindRoute}
use Rattle.graph.specs.Graph.{Graph, block}
use Rattle.graph.specs.Fold.{among}
use Rattle.graph.specs.BlockSet.{member}
use Rattle.graph.specs.Build.{table_check}
use Rattle.graph.specs.Search.{Ends}
use Rattle.graph.specs.WellFormed.{covers_table, copies_repeat, none_empty}
use Rattle.graph.specs.declared.error.AddressBuildError.{AddressBuildError}
use Rattle.graph.specs.declared.error.AddressBuildError.TheVariants.{MissingRouteEntry, RouteAddressNotBlockStart}
use Rattle.addition.specs.Blocks.{Leading, leads, inside, absent, guarded}

-- what is used of 21
pub record Stands (g : Graph) : Type 0 where
  pub table : table_check g.table ≡ clear
  pub ends : Ends g
  pub covers : covers_table g ≡ true
  pub copies : copies_repeat g ≡ true
  pub runs : none_empty g ≡ true

-- of the first n blocks, those that begin before position p are the first r
pub record Before (g : Graph) (n p r : ℕ) : Type 0 where
  pub most : r ≤ n
  pub before : (b : ℕ) → b < r → (block g b).first < p
  pub behind : (b : ℕ) → r ≤ b → b < n → p ≤ (block g b).first

-- the set w has the blocks of a list
abbrev pub Has : List ℕ → List ℕ → Type 0
Has w l = (b : ℕ) → member w b ≡ among l b

-- the route from start to end with these paths
abbrev pub route_of : ℕ → ℕ → List UnwindPath → UnwindRoute
route_of start end ps = record { start = start; end = end; paths = ps }

-- the set w has the blocks that a route from start to end guards, whatever its paths
abbrev pub Guards : Graph → ℕ → ℕ → List ℕ → Type 0
Guards g start end w = (ps : List UnwindPath) → Has w (guarded g (route_of start end ps))

-- what look-up answers: the block that the address a leads, or 17 or 14
abbrev pub led : ℕ → Leading → Result ℕ AddressBuildError
led a (leads b) = Ok b
led a inside = Err (RouteAddressNotBlockStart a)
led a absent = Err (MissingRouteEntry a)
