-- The search for a part, and the sets of blocks that it asks for and gives.
use Rattle.std.specs.Prelude.{◌≡◌, Bool, true, cond, not, ◌&&◌, List, map, ℕ, ◌<◌, length}
use Rattle.image.specs.Deal.{UnwindRoute}
use Rattle.graph.specs.declared.record.Edge.{Edge}
use Rattle.graph.specs.Graph.{Graph}
use Rattle.graph.specs.Fold.{among}
use Rattle.graph.specs.BlockSet.{member}
use Rattle.graph.specs.Search.{seeing}
use Rattle.graph.specs.WellFormed.{is_built}
use Rattle.addition.specs.Blocks.{first_of}
use Rattle.unwind.specs.Stands.{Has}
use Rattle.addition.specs.Part.{funclets, ordinary, part, returning}

-- the built blocks that start a funclet of the routes
pub record Barriers (g : Graph) (rs : List UnwindRoute) (w : List ℕ) : Type 0 where
  pub bars : (b : ℕ) → b < length g.blocks → member w b ≡ (is_built g b && among (funclets rs) (first_of g b).address)

-- the blocks that return, of those that there are
pub record Returners (g : Graph) (w : List ℕ) : Type 0 where
  pub which : (b : ℕ) → b < length g.blocks → member w b ≡ returning g b

-- a set has only blocks that there are
abbrev pub Exist : Graph → List ℕ → Type 0
Exist g w = (b : ℕ) → member w b ≡ true → b < length g.blocks

-- the blocks of a set that return
pub record Returns (g : Graph) (w r : List ℕ) : Type 0 where
  pub those : (b : ℕ) → member r b ≡ (member w b && returning g b)

-- the part of the funclet whose entry is block e, in any routes whose funclets w bars
abbrev pub PartFrom : Graph → List ℕ → ℕ → List ℕ → Type 0
PartFrom g w e r = (rs : List UnwindRoute) → Barriers g rs w → Has r (part g (funclets rs) (first_of g e).address e)

-- ---- what the search keeps: only the contracts of `part` cite it

-- an edge is followed if it is ordinary and enters no block of w
unfoldable pub followed : List ℕ → Edge → Bool
followed w d = ordinary d && not (member w d.target)

-- an edge that is not followed is bent back to its source
unfoldable pub bent : List ℕ → Edge → Edge
bent w d =
    cond (followed w d) d
    (record { source = d.source; target = d.source; kind = d.kind; role = d.role; number = d.number; key = d.key; source_address = d.source_address; target_address = d.target_address })

-- the graph with its edges so bent, entered at e: the part from e is what is reached in it
unfoldable pub bounded : Graph → List ℕ → ℕ → Graph
bounded g w e =
    record { entry = e; table = g.table; blocks = g.blocks; edges = map (bent w) g.edges; regions = g.regions; handlers = g.handlers; unresolved = g.unresolved; calls = g.calls }

-- what is seen and pending by an edge more
pub record Takes (w : List ℕ) (d : Edge) (seen pending seen' pending' : List ℕ) : Type 0 where
  pub sees : seen' ≡ cond (followed w d) (seeing seen d.target seen) seen
  pub pends : pending' ≡ cond (followed w d) (seeing seen d.target pending) pending
