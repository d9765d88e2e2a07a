-- What is left in a graph that is lent, and what the search for the reached blocks answers.
use Rattle.std.specs.Prelude.{true, false, ◌≡◌, length}
use Rattle.image.specs.Refusal.{Check, refusal, clear}
use Rattle.graph.specs.declared.reach.ReachedSet.{ReachedSet}
use Rattle.graph.specs.Graph.{Graph, Held, held}
use Rattle.graph.specs.Lent.{held_of}
use Rattle.graph.specs.declared.store.Graph.{Graph as Lent}
use Rattle.graph.specs.Stored.{Untouched}
use Rattle.graph.specs.Error.{check_of}
use Rattle.graph.specs.BlockSet.{none, size_of}
use Rattle.graph.specs.WellFormed.{well_formed}
use Rattle.graph.specs.Reached.{reached_blocks}
use Rattle.graph.specs.Search.{Finds}

-- w' holds this graph, of which nothing is cut, and each row that it does not use is as it was in w
pub record Laid (w w' : Lent) (g : Graph) : Type 0 where
  pub holds : held_of w' ≡ held g
  pub kept : Untouched w w'

-- the reached blocks of a graph, and how many; where none is held, 21, the empty set and 0
pub record ReachedIn (h : Held) (r : ReachedSet) : Type 0 where
  pub finds : well_formed h ≡ true → (check_of r.found ≡ clear) × Finds h.graph r.blocks.words × (r.count ≡ length (reached_blocks h.graph))
  pub nothing : well_formed h ≡ false → (check_of r.found ≡ Check.refused (refusal 21 0 0)) × (r.blocks.words ≡ none)
  pub count : r.count ≡ size_of r.blocks.words
