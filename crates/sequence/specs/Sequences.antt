-- A sequence with its own routes: what an image gives, and what is left of it in the graph and the hops that are lent.
use Rattle.std.specs.Prelude.{true, cond, ◌≡◌, List, [], ℕ, ◌≤◌, eqb, get_or, Result, Ok, Err}
use Rattle.image.specs.Little.{le1}
use Rattle.image.specs.Refusal.{Refusal}
use Rattle.image.specs.Image.{RouteImage}
use Rattle.image.specs.Read.{read, read_routes}
use Rattle.image.specs.Deal.{routes_of}
use Rattle.graph.specs.Graph.{Graph, held}
use Rattle.graph.specs.Lent.{held_of}
use Rattle.graph.specs.declared.store.Graph.{Graph as Lent}
use Rattle.graph.specs.Error.{refusal_of}
use Rattle.graph.specs.Build.{Outcome as Building, built, refused as not_built, build_from}
use Rattle.graph.specs.WellFormed.{well_formed}
use Rattle.graph.specs.Answers.{Laid}
use Rattle.graph.specs.declared.error.AddressBuildError.{AddressBuildError}
use Rattle.addition.specs.Add.{Addition, Outcome as Adding, added, refused as not_added, add_routes}
use Rattle.addition.specs.Demand.{Conditions, Demand3}
use Rattle.unwind.specs.HopWords.{HopsUnused}
use Rattle.unwind.specs.Answers.{image_of, addition_in}
use Rattle.text.specs.Chart.{route_bytes}
use Rattle.sequence.specs.declared.SequenceError.{SequenceError}
use Rattle.sequence.specs.declared.SequenceError.TheVariants.{Unrouted, Refused}

-- the graph that its routes were added to, and their hops; the graph alone, with why its routes are refused; or a refusal
pub data Outcome : Type 0 where
  whole : Addition → Outcome
  unrouted : Graph → Refusal → Outcome
  refused : Refusal → Outcome

abbrev pub routed : Graph → Adding → Outcome
routed g (added a) = whole a
routed g (not_added r) = unrouted g r

-- 'in modes 1 and 2, adds the routes too'
unfoldable pub with_routes : List ℕ → Building → Outcome
with_routes l (not_built r) = refused r
with_routes l (built g) = cond (eqb (le1 l 1) 0) (whole (record { graph = g; hops = [] })) (routed g (add_routes (held g) (route_bytes l)))

-- WHAT AN IMAGE GIVES
unfoldable pub sequence_from : List ℕ → Outcome
sequence_from l = with_routes l (build_from l)

-- as they hold it
abbrev pub answer_of : List ℕ → Lent → List ℕ → Result Unit SequenceError → Outcome
answer_of l w h (Ok _) = whole (addition_in (image_of (read_routes (route_bytes l))) w h)
answer_of l w h (Err (Unrouted e)) = unrouted (held_of w).graph (refusal_of e)
answer_of l w h (Err (Refused e)) = refused (refusal_of e)

-- they hold the graph, which 21 lets pass, and the hops, and what these do not use is as it was; refused, all is
abbrev pub Leaves : Lent → Lent → List ℕ → List ℕ → Result Unit SequenceError → Type 0
Leaves w w' h h' (Ok _) = Laid w w' (held_of w').graph × (well_formed (held_of w') ≡ true) × ((k : ℕ) → HopsUnused h' k → get_or h' k 0 ≡ get_or h k 0)
Leaves w w' h h' (Err (Unrouted e)) = Laid w w' (held_of w').graph × (well_formed (held_of w') ≡ true) × (h' ≡ h)
Leaves w w' h h' (Err (Refused e)) = (w' ≡ w) × (h' ≡ h)

pub record Gives (l : List ℕ) (w w' : Lent) (h h' : List ℕ) (r : Result Unit SequenceError) : Type 0 where
  pub answer : answer_of l w' h' r ≡ sequence_from l
  pub leaves : Leaves w w' h h' r
  -- DEMAND 3 of the graph that is built and the routes in the image
  pub spells : (g : Graph) (m : RouteImage) → build_from l ≡ built g → (le1 l 1 ≡ 0 → ⊥) → read_routes (route_bytes l) ≡ read m → r ≡ Ok tt → Conditions g (routes_of m) → Demand3 (routes_of m) (addition_in m w' h')
  -- routes that the image has itself are refused for want of room alone: 18, 19 or 20
  pub limits : (e : AddressBuildError) → r ≡ Err (Unrouted e) → (18 ≤ (refusal_of e).number) × ((refusal_of e).number ≤ 20)
