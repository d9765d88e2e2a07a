-- Marks of funclets: a node stands only if the mark of its funclet was seen.
use Rattle.std.specs.Prelude.{◌≡◌, true, List, ℕ, ◌%◌, ◌<◌, length}
use Rattle.image.specs.Image.{RouteImage}
use Rattle.graph.specs.BlockSet.{member}
use Rattle.unwind.specs.Nodes.{record_in, funclet_in, value_of}

abbrev pub mark_of : ℕ → ℕ
mark_of v = v % 1021

-- the set w has the marks of the first n nodes
pub record Seen (m : RouteImage) (nodes : List ℕ) (n : ℕ) (w : List ℕ) : Type 0 where
  pub long : length w ≡ 16
  pub marked : (i : ℕ) → i < n → member w (mark_of (value_of (funclet_in m (record_in nodes i).funclet))) ≡ true
