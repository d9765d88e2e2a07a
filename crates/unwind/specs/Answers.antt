-- What the addition answers, and what it leaves in the graph and the hops that it is lent.
use Rattle.graph.specs.declared.store.Graph.{Graph as Lent}
use Rattle.std.specs.Prelude.{◌≡◌, true, List, [], ℕ, length, get_or, Result, Ok, Err}
use Rattle.image.specs.Refusal.{clear}
use Rattle.image.specs.Image.{RouteImage}
use Rattle.image.specs.Read.{Reading, read, refusing, read_routes}
use Rattle.image.specs.Deal.{routes_of}
use Rattle.image.specs.Accepted.{AcceptedRoutes}
use Rattle.graph.specs.Graph.{Held}
use Rattle.graph.specs.Lent.{held_of}
use Rattle.graph.specs.Error.{refusal_of}
use Rattle.graph.specs.Fold.{checks}
use Rattle.graph.specs.WellFormed.{well_formed, Built}
use Rattle.graph.specs.Answers.{Laid}
use Rattle.graph.specs.declared.error.AddressBuildError.{AddressBuildError}
use Rattle.unwind.specs.HopWords.{hops_in, HopsUnused}
use Rattle.addition.specs.Add.{Addition, addition, Outcome, added, refused, outcome, route_check, size_check, add_routes_to}
use Rattle.addition.specs.Demand.{Conditions, Demand3}

-- what a graph and hops hold afterwards
abbrev pub addition_in : RouteImage → Lent → List ℕ → Addition
addition_in m w h = record { graph = (held_of w).graph; hops = hops_in m h }

abbrev pub answer_of : RouteImage → Lent → List ℕ → Result Unit AddressBuildError → Outcome
answer_of m w h (Ok _) = added (addition_in m w h)
answer_of m w h (Err e) = refused (refusal_of e)

-- the routes that bytes hold; none where they are refused
abbrev pub image_of : Reading RouteImage → RouteImage
image_of (read m) = m
image_of (refusing r) = record { routes = []; paths = []; steps = [] }

abbrev pub add_answer : List ℕ → Lent → List ℕ → Result Unit AddressBuildError → Outcome
add_answer l w h r = answer_of (image_of (read_routes l)) w h r

-- an addition leaves its graph, of which nothing is cut, and its hops, and what they do not use as it was; refused, it leaves
-- all as it was
abbrev pub AddLeaves : Lent → Lent → List ℕ → List ℕ → Result Unit AddressBuildError → Type 0
AddLeaves w w' h h' (Ok _) = Laid w w' (held_of w').graph × ((k : ℕ) → HopsUnused h' k → get_or h' k 0 ≡ get_or h k 0)
AddLeaves w w' h h' (Err e) = (w' ≡ w) × (h' ≡ h)

-- what an addition stores is a graph: 21 lets it pass again
abbrev pub Graphed : Lent → Result Unit AddressBuildError → Type 0
Graphed w (Ok _) = well_formed (held_of w) ≡ true
Graphed w (Err e) = Unit {0}

-- DEMAND 3 of this graph and these routes
pub record Spells (l : List ℕ) (w w' : Lent) (h' : List ℕ) (r : Result Unit AddressBuildError) : Type 0 where
  pub spells : (m : RouteImage) → read_routes l ≡ read m → r ≡ Ok tt → Conditions (held_of w).graph (routes_of m) → Demand3 (routes_of m) (addition_in m w' h')

-- ---- on the way

-- a graph, and routes that were read
pub record Adds (m : RouteImage) (w w' : Lent) (h h' : List ℕ) (r : Result Unit AddressBuildError) : Type 0 where
  pub answer : answer_of m w' h' r ≡ add_routes_to (held_of w).graph (routes_of m)
  pub leaves : AddLeaves w w' h h' r

-- routes whose own checks are clear
pub record RoutesChecked (h : Held) (n : ℕ) (m : RouteImage) : Type 0 where
  pub graphed : well_formed h ≡ true
  pub built : Built h.graph n
  pub accepted : AcceptedRoutes m
  pub passed : checks (route_check h.graph (routes_of m)) (length (routes_of m)) ≡ clear

-- routes whose instances are placed: what is left to refuse are the sizes
pub record Sized (m : RouteImage) (w w' : Lent) (h h' : List ℕ) (r : Result Unit AddressBuildError) : Type 0 where
  pub answer : answer_of m w' h' r ≡ outcome (size_check (addition (held_of w).graph (routes_of m))) (addition (held_of w).graph (routes_of m))
  pub leaves : AddLeaves w w' h h' r
