-- The answer of an addition, by what was read and decided on the way.
--     graph_none                   21
--     form_refused, read_added     1 and 2 of the routes, and routes that were read
--     added_spells                 an addition that is stored spells the listed paths: demand 3
--     added_graphed                and leaves a graph that 21 lets pass
--     read_answer                  the answer to routes that were read
--     adds_refused, adds_sized     the same of routes that were read, by their checks
-- Assumes nothing.
use mathlib.Core.Path.{◌≡◌, refl, sym, ap, ◌∙◌}
use mathlib.Core.Bool.{true, false}
use mathlib.Core.List.{List}
use Prim.Native.Nat.{ℕ}
use Rattle.graph.specs.declared.store.Graph.{Graph as Lent}
use Rattle.std.proofs.Common.{Result, Ok, Err}
use Rattle.image.specs.Refusal.{Refusal, refusal}
use Rattle.image.specs.Image.{RouteImage}
use Rattle.image.specs.Read.{Reading, read, refusing, read_routes}
use Rattle.image.specs.Deal.{routes_of}
use Rattle.graph.specs.Graph.{Held}
use Rattle.graph.specs.Lent.{held_of}
use Rattle.graph.specs.Error.{refusal_of}
use Rattle.graph.specs.WellFormed.{well_formed}
use Rattle.graph.specs.declared.error.AddressBuildError.{AddressBuildError}
use Rattle.addition.specs.Add.{addition, refused, outcome, size_check, add_routes_to, add_read, add_routes}
use Rattle.unwind.specs.Answers.{addition_in, answer_of, image_of, add_answer, AddLeaves, Graphed, Spells, Adds, Sized}
use Rattle.addition.proofs.Demand.{demand3}
use Rattle.addition.proofs.Again.{words_again}

module _ (h : Held) (l : List ℕ) where
  pub graph_none : well_formed h ≡ false → refused (refusal 21 0 0) ≡ add_routes h l
  unfolding add_routes
  graph_none none = rw none

  module _ (graph : well_formed h ≡ true) where
    pub form_refused : (e : AddressBuildError) (r : Refusal) → refusal_of e ≡ r → refusing r ≡ read_routes l → refused (refusal_of e) ≡ add_routes h l
    unfolding add_routes add_read
    form_refused e r is found = rw (graph, ← found) (ap refused is)

    pub read_added : (m : RouteImage) → read m ≡ read_routes l → add_routes_to h.graph (routes_of m) ≡ add_routes h l
    unfolding add_routes add_read
    read_added m found = rw (graph, ← found)

pub added_graphed : (l : List ℕ) (w w' : Lent) (h h' : List ℕ) (r : Result Unit AddressBuildError) → add_answer l w' h' r ≡ add_routes (held_of w) l → AddLeaves w w' h h' r → Graphed w' r
added_graphed l w w' h h' (Ok _) answer leaves = ap well_formed leaves.0.holds ∙ words_again w l (addition_in (image_of (read_routes l)) w' h') (sym answer)
added_graphed l w w' h h' (Err e) answer leaves = tt

module _ (l : List ℕ) (w w' : Lent) (h h' : List ℕ) (r : Result Unit AddressBuildError) where
  pub added_spells : add_answer l w' h' r ≡ add_routes (held_of w) l → Spells l w w' h' r
  added_spells answer =
      record {
        spells = λ m found stored conditions. demand3 (held_of w) l m (addition_in m w' h') found (sym answer ∙ ap (λ (x : Reading RouteImage). answer_of (image_of x) w' h' r) found ∙ ap (answer_of m w' h') stored) conditions;
      }

  -- of routes that were read
  pub read_answer : well_formed (held_of w) ≡ true → (m : RouteImage) → read m ≡ read_routes l → Adds m w w' h h' r → add_answer l w' h' r ≡ add_routes (held_of w) l
  read_answer graph m found adds =
      ap (λ (x : Reading RouteImage). answer_of (image_of x) w' h' r) (sym found) ∙ adds.answer ∙ read_added (held_of w) l graph m found

module _ (m : RouteImage) (w : Lent) (h : List ℕ) where
  pub adds_refused : (e : AddressBuildError) → add_routes_to (held_of w).graph (routes_of m) ≡ refused (refusal_of e) → Adds m w w h h (Err e)
  adds_refused e found = record { answer = sym found; leaves = (refl, refl) }

  pub adds_sized : {w' : Lent} {h' : List ℕ} {r : Result Unit AddressBuildError} → add_routes_to (held_of w).graph (routes_of m) ≡ outcome (size_check (addition (held_of w).graph (routes_of m))) (addition (held_of w).graph (routes_of m)) → Sized m w w' h h' r → Adds m w w' h h' r
  adds_sized found sized = record { answer = sized.answer ∙ sym found; leaves = sized.leaves }
