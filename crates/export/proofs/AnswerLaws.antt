-- What the answers tell, and what they leave.
--     built_told, built_leaves          of a build
--     added_told, added_leaves          of an addition
--     whole_told, whole_leaves          of a sequence with its own routes
--     reached_told                      how many blocks are reached
--     counts                            how many records the sections have
-- Assumes nothing.
use mathlib.Core.Bool.{Bool, true, false}
use mathlib.Core.Path.{◌≡◌, refl, ap}
use mathlib.Core.List.{List}
use Prim.Native.Nat.{ℕ}
use Rattle.graph.specs.declared.store.Graph.{Graph as Lent}
use Rattle.std.proofs.Common.{Result, Ok, Err, is_ok}
use Rattle.image.specs.Refusal.{clear, refused, refusal}
use Rattle.image.specs.Image.{RouteImage}
use Rattle.image.proofs.Tables.{length-records}
use Rattle.graph.specs.Graph.{Held}
use Rattle.graph.specs.Error.{check_of}
use Rattle.graph.specs.WellFormed.{well_formed}
use Rattle.graph.specs.Answers.{ReachedIn}
use Rattle.graph.specs.declared.reach.ReachedSet.{ReachedSet}
use Rattle.graph.specs.declared.error.AddressBuildError.{AddressBuildError}
use Rattle.builder.specs.Answers.{build_answer, BuildLeaves, Graphed as BuiltGraphed}
use Rattle.unwind.specs.Answers.{answer_of as addition_of, add_answer, AddLeaves, Graphed}
use Rattle.sequence.specs.declared.SequenceError.{SequenceError}
use Rattle.sequence.specs.declared.SequenceError.TheVariants.{Unrouted, Refused}
use Rattle.sequence.specs.Sequences.{answer_of, Leaves as WholeLeaves}
use Rattle.export.specs.Answers.{told, told_build, Leaves}
use Rattle.export.specs.Additions.{told_addition, AdditionLeaves}
use Rattle.export.specs.Sequences.{told_whole, told_sequence, SequenceLeaves}
use Rattle.export.specs.Count.{counted, told_reached}

pub built_told : (w : Lent) (r : Result Unit AddressBuildError) → told_build (build_answer w r) ≡ told r
built_told w (Ok _) = refl
built_told w (Err e) = refl

pub built_leaves : (w w' : Lent) (r : Result Unit AddressBuildError) → BuildLeaves w w' r → BuiltGraphed w' r → Leaves (build_answer w' r) w w'
built_leaves w w' (Ok _) laid graph = (laid, graph)
built_leaves w w' (Err e) same _ = same

pub added_told : (m : RouteImage) (w : Lent) (h : List ℕ) (r : Result Unit AddressBuildError) → told_addition (addition_of m w h r) ≡ told r
added_told m w h (Ok _) = refl
added_told m w h (Err e) = refl

pub added_leaves : (l : List ℕ) (w w' : Lent) (h h' : List ℕ) (r : Result Unit AddressBuildError) → AddLeaves w w' h h' r → Graphed w' r → AdditionLeaves (add_answer l w' h' r) l w w' h h'
added_leaves l w w' h h' (Ok _) left graph = (left.0, graph, record { holds = refl; kept = left.1 })
added_leaves l w w' h h' (Err e) same _ = same

pub whole_told : (l : List ℕ) (w : Lent) (h : List ℕ) (r : Result Unit SequenceError) → told_sequence (answer_of l w h r) ≡ told_whole r
whole_told l w h (Ok _) = refl
whole_told l w h (Err (Unrouted e)) = refl
whole_told l w h (Err (Refused e)) = refl

pub whole_leaves : (l : List ℕ) (w w' : Lent) (h h' : List ℕ) (r : Result Unit SequenceError) → WholeLeaves w w' h h' r → SequenceLeaves (answer_of l w' h' r) l w w' h h'
whole_leaves l w w' h h' (Ok _) left = (left.0, left.1, record { holds = refl; kept = left.2 })
whole_leaves l w w' h h' (Err (Unrouted e)) left = left
whole_leaves l w w' h h' (Err (Refused e)) same = same

-- ---- reached blocks

clear_ok : (r : Result Unit AddressBuildError) → check_of r ≡ clear → is_ok r ≡ true
clear_ok (Ok _) e = refl
clear_ok (Err x) e = absurd (cc)

refused_err : (r : Result Unit AddressBuildError) → check_of r ≡ refused (refusal 21 0 0) → is_ok r ≡ false
refused_err (Ok _) e = absurd (cc)
refused_err (Err x) e = refl

pub reached_told : (h : Held) (r : ReachedSet) → ReachedIn h r → counted (is_ok r.found) r.count ≡ told_reached h
reached_told h r reached = go (well_formed h) refl
  where
    go : (b : Bool) → well_formed h ≡ b → counted (is_ok r.found) r.count ≡ told_reached h
    go true e = rw (e, clear_ok r.found (reached.finds e).0) (ap (counted true) (reached.finds e).2)
    go false e = rw (e, refused_err r.found (reached.nothing e).0)

pub ruleset counts = (length-records)

pub ruleset builds = (built_told, built_leaves)

pub ruleset adds = (added_told, added_leaves)

pub ruleset wholes = (whole_told, whole_leaves)
