-- The graph behind the stores of an addition: copies of edges, copies of blocks, then route edges.
--     copies_held, copies_graph    behind the copies nothing is cut
--     finished                     behind the route edges the graph of the addition is laid
-- Assumes nothing.
use mathlib.Core.Path.{◌≡◌, ap, ◌∙◌}
use mathlib.Core.Bool.{true}
use mathlib.Core.List.{List, [], ◌++◌, append-nil, append_assoc}
use Prim.Native.Nat.{◌+◌, ◌≤◌}
use native.Mathlib.Omega.{arith}
use lib.ListN.{length, length-append}
use Rattle.graph.specs.declared.store.Graph.{Graph as Lent}
use Rattle.graph.specs.declared.record.Block.{Block}
use Rattle.graph.specs.declared.record.Edge.{Edge}
use Rattle.graph.specs.Graph.{Graph, Held, held}
use Rattle.graph.specs.Lent.{held_of}
use Rattle.graph.specs.Stored.{Stored}
use Rattle.graph.specs.Adding.{Added, adding, with_blocks}
use Rattle.graph.specs.Answers.{Laid}
use Rattle.graph.specs.WellFormed.{well_formed}
use Rattle.graph.proofs.RecordLaws.{unresolved_most, call_most}
use Rattle.graph.proofs.RuleLaws as rule
use Rattle.graph.proofs.StoredLaws.{stored_then, all_held}
use Rattle.graph.proofs.AddingLaws.{adding-held, blocks_held}
use Rattle.addition.specs.Add.{extended}

-- a graph with more edges
abbrev with_edges : Graph → List Edge → Graph
with_edges g es =
    record { entry = g.entry; table = g.table; blocks = g.blocks; edges = g.edges ++ es; regions = g.regions; handlers = g.handlers; unresolved = g.unresolved; calls = g.calls }

edges_held : (g : Graph) (es : List Edge) → length g.edges + length es ≤ 4096 → length g.unresolved ≤ 1024 → length g.calls ≤ 512 → adding (held g) es [] [] ≡ held (with_edges g es)
edges_held g es fit unresolved_fit calls_fit =
    adding-held g es [] [] fit (omega arith) (omega arith)
    ∙ (λ t. held (record { entry = g.entry; table = g.table; blocks = g.blocks; edges = g.edges ++ es; regions = g.regions; handlers = g.handlers; unresolved = append-nil g.unresolved t; calls = append-nil g.calls t }))

module _ {w w₁ w₂ : Lent} (ok : well_formed (held_of w) ≡ true) (bs : List Block) (ce : List Edge) (cloned : Added w w₁ ce [] []) (copied : Stored w₁ w₂ (with_blocks (held_of w₁) bs)) (blocks_fit : length (held_of w).graph.blocks + length bs ≤ 1024) where
  abbrev before : Graph
  before = (held_of w).graph

  unresolved_fit : length before.unresolved ≤ 1024
  unresolved_fit = omega (arith, unresolved_most w)

  calls_fit : length before.calls ≤ 512
  calls_fit = omega (arith, call_most w)

  pub copies_held : length (held_of w).graph.edges + length ce ≤ 4096 → held_of w₂ ≡ held (extended (held_of w).graph bs ce)
  unfolding extended
  copies_held fit =
      copied.holds
      ∙ ap (λ (h : Held). with_blocks h bs)
      (cloned.stored.holds ∙ ap (λ (h : Held). adding h ce [] []) (all_held w (rule.stands (held_of w) ok).limits) ∙ edges_held before ce fit unresolved_fit calls_fit)
      ∙ blocks_held (with_edges before ce) bs blocks_fit

  pub copies_graph : length (held_of w).graph.edges + length ce ≤ 4096 → (held_of w₂).graph ≡ extended (held_of w).graph bs ce
  unfolding held
  copies_graph fit = ap (λ (h : Held). h.graph) (copies_held fit)

  pub finished : {w₃ : Lent} (re : List Edge) → Added w₂ w₃ re [] [] → length (held_of w).graph.edges + length ce + length re ≤ 4096 → Laid w w₃ (extended (held_of w).graph bs (ce ++ re))
  unfolding extended
  finished {w₃} re routed fit =
      let all : Stored w w₃ _ = stored_then cloned.stored (stored_then copied routed.stored) in
      let g : Graph = before in
      record {
        holds =
            routed.stored.holds
            ∙ ap (λ (h : Held). adding h re [] []) (copies_held (omega arith))
            ∙ edges_held (extended before bs ce) re (omega (arith, length-append g.edges ce)) unresolved_fit calls_fit
            ∙ ap (λ (es : List Edge). held (record { entry = g.entry; table = g.table; blocks = g.blocks ++ bs; edges = es; regions = g.regions; handlers = g.handlers; unresolved = g.unresolved; calls = g.calls })) (append_assoc g.edges ce re);
        kept = all.kept;
      }
