-- The answers of an addition, and what it leaves: number 0 where nothing is refused, else document 01's number and values.
use Rattle.std.specs.Prelude.{true, ◌≡◌, List, ℕ}
use Rattle.image.specs.Refusal.{refusal}
use Rattle.image.specs.Read.{read_routes}
use Rattle.graph.specs.Lent.{held_of}
use Rattle.graph.specs.declared.store.Graph.{Graph as Lent}
use Rattle.graph.specs.WellFormed.{well_formed}
use Rattle.graph.specs.Answers.{Laid}
use Rattle.addition.specs.Add.{Outcome, added, refused}
use Rattle.unwind.specs.HopWords.{HopsLaid}
use Rattle.unwind.specs.Answers.{image_of}
use Rattle.text.specs.declared.refusal.Numbers.{Numbers}
use Rattle.export.specs.Answers.{refusal_answer}

abbrev pub told_addition : Outcome → Numbers
told_addition (added a) = refusal_answer (refusal 0 0 0)
told_addition (refused r) = refusal_answer r

-- What is lent holds the graph, which 21 lets pass again, and the hops, and what they do not use is as it was; refused, all
-- of it is.
abbrev pub AdditionLeaves : Outcome → List ℕ → Lent → Lent → List ℕ → List ℕ → Type 0
AdditionLeaves (added a) l w w' h h' = Laid w w' a.graph × (well_formed (held_of w') ≡ true) × HopsLaid (image_of (read_routes l)) h h' a.hops
AdditionLeaves (refused r) l w w' h h' = (w' ≡ w) × (h' ≡ h)
