-- The answers on a graph: number 0 where nothing is refused, else document 01's number and values.
use Rattle.std.specs.Prelude.{true, ◌≡◌, Result, Ok, Err}
use Rattle.image.specs.Refusal.{Refusal, refusal}
use Rattle.graph.specs.Lent.{held_of}
use Rattle.graph.specs.declared.store.Graph.{Graph as Lent}
use Rattle.graph.specs.Error.{refusal_of}
use Rattle.graph.specs.Build.{Outcome, built, refused}
use Rattle.graph.specs.Answers.{Laid}
use Rattle.graph.specs.WellFormed.{well_formed}
use Rattle.graph.specs.declared.error.AddressBuildError.{AddressBuildError}
use Rattle.text.specs.declared.refusal.Numbers.{Numbers}

abbrev pub refusal_answer : Refusal → Numbers
refusal_answer r = record { number = r.number; first = r.first; second = r.second }

abbrev pub told : Result Unit AddressBuildError → Numbers
told (Ok _) = refusal_answer (refusal 0 0 0)
told (Err e) = refusal_answer (refusal_of e)

abbrev pub told_build : Outcome → Numbers
told_build (built g) = refusal_answer (refusal 0 0 0)
told_build (refused r) = refusal_answer r

-- What is lent holds the graph, which 21 lets pass, and what that does not use is as it was; refused, all of it is.
abbrev pub Leaves : Outcome → Lent → Lent → Type 0
Leaves (built g) w w' = Laid w w' g × (well_formed (held_of w') ≡ true)
Leaves (refused r) w w' = w' ≡ w
