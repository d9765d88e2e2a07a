-- The answers on a sequence with its own routes, and what is left of it: number 0 where nothing is refused, else document 01's
-- number and values, and 1 before them where the graph was built.
use Rattle.std.specs.Prelude.{true, ◌≡◌, List, ℕ, Result, Ok, Err}
use Rattle.image.specs.Refusal.{Refusal, refusal}
use Rattle.image.specs.Read.{read_routes}
use Rattle.graph.specs.Lent.{held_of}
use Rattle.graph.specs.declared.store.Graph.{Graph as Lent}
use Rattle.graph.specs.Error.{refusal_of}
use Rattle.graph.specs.WellFormed.{well_formed}
use Rattle.graph.specs.Answers.{Laid}
use Rattle.unwind.specs.HopWords.{HopsLaid}
use Rattle.unwind.specs.Answers.{image_of}
use Rattle.text.specs.Chart.{route_bytes}
use Rattle.sequence.specs.Sequences.{Outcome, whole, unrouted, refused}
use Rattle.sequence.specs.declared.SequenceError.{SequenceError}
use Rattle.sequence.specs.declared.SequenceError.TheVariants.{Unrouted, Refused}
use Rattle.export.specs.declared.whole.SequenceAnswer.{SequenceAnswer}
use Rattle.export.specs.Answers.{refusal_answer}

abbrev pub sequence_answer : ℕ → Refusal → SequenceAnswer
sequence_answer built r = record { built = built; refusal = refusal_answer r }

abbrev pub told_whole : Result Unit SequenceError → SequenceAnswer
told_whole (Ok _) = sequence_answer 1 (refusal 0 0 0)
told_whole (Err (Unrouted e)) = sequence_answer 1 (refusal_of e)
told_whole (Err (Refused e)) = sequence_answer 0 (refusal_of e)

abbrev pub told_sequence : Outcome → SequenceAnswer
told_sequence (whole a) = sequence_answer 1 (refusal 0 0 0)
told_sequence (unrouted g r) = sequence_answer 1 r
told_sequence (refused r) = sequence_answer 0 r

-- What is lent holds the graph, which 21 lets pass, and the hops, and what they do not use is as it was; refused, all of it is.
abbrev pub SequenceLeaves : Outcome → List ℕ → Lent → Lent → List ℕ → List ℕ → Type 0
SequenceLeaves (whole a) l w w' h h' = Laid w w' a.graph × (well_formed (held_of w') ≡ true) × HopsLaid (image_of (read_routes (route_bytes l))) h h' a.hops
SequenceLeaves (unrouted g r) l w w' h h' = Laid w w' g × (well_formed (held_of w') ≡ true) × (h' ≡ h)
SequenceLeaves (refused r) l w w' h h' = (w' ≡ w) × (h' ≡ h)
