-- A build leaves a graph that 21 lets pass.
--     build_passes                 whatever bytes it was built from
--     graphed                      in the words
-- Assumes nothing.
use mathlib.Core.Path.{◌≡◌, refl, ap, ◌∙◌}
use mathlib.Core.Bool.{true}
use mathlib.Core.List.{List}
use Prim.Native.Nat.{ℕ}
use native.Mathlib.Omega.{arith}
use Rattle.graph.specs.declared.store.Graph.{Graph as Lent}
use Rattle.image.specs.Refusal.{Check, clear}
use Rattle.image.specs.Image.{Image}
use Rattle.image.specs.Read.{Reading, read, refusing, read_image}
use Rattle.image.proofs.Accepted.{accepted}
use Rattle.graph.specs.Graph.{Graph, held}
use Rattle.graph.specs.Lent.{held_of}
use Rattle.graph.specs.Build.{build_check, graph_from, Outcome, built, refused, outcome, build_of, build_read, build_from}
use Rattle.graph.specs.WellFormed.{well_formed}
use Rattle.graph.proofs.BuiltChecks.{parts, input_clear}
use Rattle.graph.proofs.Built.{graph_passes}
use Rattle.builder.specs.Answers.{build_answer, BuildLeaves, Graphed}
use Rattle.builder.proofs.BoundLaws.{unresolved_few, calls_few}
use Rattle.builder.proofs.BuildLaws.{passed}
use Rattle.graph.specs.declared.error.AddressBuildError.{AddressBuildError}
use Rattle.std.proofs.Common.{Result, Ok, Err}

-- the graph of an outcome, and which of the two it is
abbrev graph_or : Graph → Outcome → Graph
graph_or d (built g) = g
graph_or d (refused r) = d

abbrev which : Outcome → ℕ
which (built g) = 0
which (refused r) = 1

pub build_passes : (l : List ℕ) (g : Graph) → built g ≡ build_from l → well_formed (held g) ≡ true
unfolding build_from build_read build_of
build_passes l g e = of_reading (read_image l) refl e
  where
    of_check : (m : Image) → read_image l ≡ read m → (c : Check) → build_check m ≡ c → built g ≡ outcome c (graph_from m) → well_formed (held g) ≡ true
    of_check m is clear clears e =
        let image = accepted l m is in
        ap (λ (x : Outcome). well_formed (held (graph_or g x))) e
        ∙ graph_passes m image clears
        (unresolved_few m (passed m image (parts m (input_clear m clears))).sourced)
        (calls_few m image.instructions_most)
    of_check m is (Check.refused r) clears e = absurd (let z : ◌≡◌ {A = ℕ} 0 1 = ap which e in omega arith)

    of_reading : (r : Reading Image) → read_image l ≡ r → built g ≡ build_read r → well_formed (held g) ≡ true
    of_reading (read m) is e = of_check m is (build_check m) refl e
    of_reading (refusing r) is e = absurd (let z : ◌≡◌ {A = ℕ} 0 1 = ap which e in omega arith)

pub graphed : {A : Type 0} (l : List ℕ) (w w' : Lent) (r : Result A AddressBuildError) → build_answer w' r ≡ build_from l → BuildLeaves w w' r → Graphed w' r
graphed l w w' (Ok _) e laid = ap well_formed laid.holds ∙ build_passes l (held_of w').graph e
graphed l w w' (Err x) e kept = tt
