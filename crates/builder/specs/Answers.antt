-- What a build answers, and what it leaves in the words that it is lent.
use Rattle.std.specs.Prelude.{true, ◌≡◌, [], Result, Ok, Err}
use Rattle.image.specs.Image.{Image}
use Rattle.graph.specs.Graph.{Graph}
use Rattle.graph.specs.Lent.{held_of}
use Rattle.graph.specs.declared.store.Graph.{Graph as Lent}
use Rattle.graph.specs.Answers.{Laid}
use Rattle.graph.specs.Error.{refusal_of}
use Rattle.graph.specs.Build.{Outcome, built, refused}
use Rattle.graph.specs.WellFormed.{well_formed}
use Rattle.graph.specs.Transfer.{table_of}
use Rattle.graph.specs.Blocks.{blocks_of}
use Rattle.graph.specs.declared.error.AddressBuildError.{AddressBuildError}

-- a build: the graph that now stands in the words, or the refusal
abbrev pub build_answer : {A : Type 0} → Lent → Result A AddressBuildError → Outcome
build_answer w (Ok _) = built (held_of w).graph
build_answer w (Err e) = refused (refusal_of e)

-- a build leaves its graph, of which nothing is cut, and each other word as it was; refused, every word
abbrev pub BuildLeaves : {A : Type 0} → Lent → Lent → Result A AddressBuildError → Type 0
BuildLeaves w w' (Ok _) = Laid w w' (held_of w').graph
BuildLeaves w w' (Err e) = w' ≡ w

-- what a build stores is a graph: 21 lets it pass
abbrev pub Graphed : {A : Type 0} → Lent → Result A AddressBuildError → Type 0
Graphed w (Ok _) = well_formed (held_of w) ≡ true
Graphed w (Err e) = Unit {0}

-- ---- on the way

-- the table and the blocks of an image, alone
abbrev pub code_only : Image → Graph
code_only m =
    record { entry = 0; table = table_of m; blocks = blocks_of m; edges = []; regions = []; handlers = []; unresolved = []; calls = [] }
