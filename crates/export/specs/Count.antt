-- A count of what is lent: number 0 before it, or 21 and none where it is no graph.
use Rattle.std.specs.Prelude.{Bool, cond, ℕ, length}
use Rattle.graph.specs.Graph.{Held}
use Rattle.graph.specs.WellFormed.{well_formed}
use Rattle.graph.specs.Reached.{reached_blocks}
use Rattle.text.specs.Chart.{graph_lines}
use Rattle.export.specs.declared.count.Count.{Count}

abbrev pub counted : Bool → ℕ → Count
counted graph n = cond graph (record { number = 0; count = n }) (record { number = 21; count = 0 })

-- how many blocks are reached, or 21
abbrev pub told_reached : Held → Count
told_reached h = counted (well_formed h) (length (reached_blocks h.graph))

-- how many lines of a chart a graph has, or 21
abbrev pub told_lines : Held → Count
told_lines h = counted (well_formed h) (length (graph_lines h.graph))
