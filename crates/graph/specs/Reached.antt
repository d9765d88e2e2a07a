-- '*Reached* are the entry block and every block an edge of any kind leads to from a reached one.'
use Rattle.std.specs.Prelude.{cond, not, ◌&&◌, List, [], ◌∷◌, ℕ, zero, suc, ◌<◌, length}
use Rattle.graph.specs.Graph.{Graph, edge}
use Rattle.graph.specs.Fold.{flat, among}
use Rattle.graph.specs.declared.record.Edge.{Edge}

-- the least such set
pub data Reached (g : Graph) : ℕ → Type 0 where
  start : Reached g g.entry
  step : (e : ℕ) → e < length g.edges → Reached g (edge g e).source → Reached g (edge g e).target

-- The same by computing: a set of blocks with those that its edges, taken in order, lead to; as often as there are blocks.
unfoldable pub along : List Edge → List ℕ → List ℕ
along [] s = s
along (e ∷ es) s = along es (cond (among s e.source && not (among s e.target)) (e.target ∷ s) s)

unfoldable pub rounds : Graph → ℕ → List ℕ
rounds g zero = g.entry ∷ []
rounds g (suc n) = along g.edges (rounds g n)

-- in rising order
unfoldable pub reached_blocks : Graph → List ℕ
reached_blocks g = let s = rounds g (length g.blocks) in flat (λ b. cond (among s b) (b ∷ []) []) (length g.blocks)
