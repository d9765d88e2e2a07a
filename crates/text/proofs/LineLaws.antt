-- The lines of a graph, counted through the kinds.
--     from_blocks, from_edges, ..   the lines from a kind on
--     here, past                  the lines of the first kind, and those behind it
--     at_start, at_block, ..      line k
--     lines_length, records_few   how many lines there are, and how many records at most
-- Assumes nothing.
use mathlib.Core.Path.{◌≡◌, sym, ap, ◌∙◌}
use mathlib.Core.List.{List, [], ◌++◌}
use Prim.Native.Nat.{ℕ, suc, ◌+◌, ◌≤◌, ◌<◌}
use native.Mathlib.Omega.{arith}
use lib.ListN.{length, get_or, length-append, get_or-append, get_or-eq_default}
use lib.Seq.{get_or-append-add}
use Rattle.graph.specs.declared.store.Graph.{Graph as Lent}
use Rattle.image.specs.Image.{table}
use Rattle.graph.specs.Graph.{Graph}
use Rattle.graph.specs.Lent.{held_of}
use Rattle.graph.proofs.FoldLaws.{length-table, get_or_table}
use Rattle.graph.proofs.RecordLaws.{block_most, edge_most, region_most, handler_most, unresolved_most, call_most}
use Rattle.text.specs.Chart.{built_line, block_line, edge_line, region_line, handler_line, unresolved_line, call_line, graph_lines}

abbrev pub from_calls : Graph → List (List ℕ)
from_calls g = table (call_line g) (length g.calls)

abbrev pub from_unresolved : Graph → List (List ℕ)
from_unresolved g = table (unresolved_line g) (length g.unresolved) ++ from_calls g

abbrev pub from_handlers : Graph → List (List ℕ)
from_handlers g = table (handler_line g) (length g.handlers) ++ from_unresolved g

abbrev pub from_regions : Graph → List (List ℕ)
from_regions g = table (region_line g) (length g.regions) ++ from_handlers g

abbrev pub from_edges : Graph → List (List ℕ)
from_edges g = table (edge_line g) (length g.edges) ++ from_regions g

abbrev pub from_blocks : Graph → List (List ℕ)
from_blocks g = table (block_line g) (length g.blocks) ++ from_edges g

module _ (f : ℕ → List ℕ) (n : ℕ) (l : List (List ℕ)) (j : ℕ) where
  here : j < n → get_or (table f n ++ l) j [] ≡ f j
  here h = get_or-append (table f n) l [] j (rw length-table h) ∙ get_or_table f n j [] h

  past : get_or (table f n ++ l) (n + j) [] ≡ get_or l j []
  past = ap (λ (k : ℕ). get_or (table f n ++ l) (k + j) []) (sym (length-table f n)) ∙ get_or-append-add (table f n) l j []

-- Line k, by what is left of it behind the kinds before.
module _ (g : Graph) (k : ℕ) where
  abbrev Is : List (List ℕ) → ℕ → Type 0
  Is l j = get_or (graph_lines g) k [] ≡ get_or l j []

  to_blocks : (b : ℕ) → k ≡ 1 + b → Is (from_blocks g) b
  unfolding graph_lines
  to_blocks b e = let next : k ≡ suc b = omega arith in rw next

  to_edges : (e : ℕ) → k ≡ 1 + length g.blocks + e → Is (from_edges g) e
  to_edges e is = to_blocks (length g.blocks + e) (omega arith) ∙ past (block_line g) (length g.blocks) (from_edges g) e

  to_regions : (r : ℕ) → k ≡ 1 + length g.blocks + length g.edges + r → Is (from_regions g) r
  to_regions r is = to_edges (length g.edges + r) (omega arith) ∙ past (edge_line g) (length g.edges) (from_regions g) r

  to_handlers : (h : ℕ) → k ≡ 1 + length g.blocks + length g.edges + length g.regions + h → Is (from_handlers g) h
  to_handlers h is = to_regions (length g.regions + h) (omega arith) ∙ past (region_line g) (length g.regions) (from_handlers g) h

  to_unresolved : (u : ℕ) → k ≡ 1 + length g.blocks + length g.edges + length g.regions + length g.handlers + u → Is (from_unresolved g) u
  to_unresolved u is = to_handlers (length g.handlers + u) (omega arith) ∙ past (handler_line g) (length g.handlers) (from_unresolved g) u

  to_calls : (c : ℕ) → k ≡ 1 + length g.blocks + length g.edges + length g.regions + length g.handlers + length g.unresolved + c → Is (from_calls g) c
  to_calls c is = to_unresolved (length g.unresolved + c) (omega arith) ∙ past (unresolved_line g) (length g.unresolved) (from_calls g) c

  pub at_start : k ≡ 0 → get_or (graph_lines g) k [] ≡ built_line g
  unfolding graph_lines
  at_start e = rw e

  pub at_block : (b : ℕ) → k ≡ 1 + b → b < length g.blocks → get_or (graph_lines g) k [] ≡ block_line g b
  at_block b is h = to_blocks b is ∙ here (block_line g) (length g.blocks) (from_edges g) b h

  pub at_edge : (e : ℕ) → k ≡ 1 + length g.blocks + e → e < length g.edges → get_or (graph_lines g) k [] ≡ edge_line g e
  at_edge e is h = to_edges e is ∙ here (edge_line g) (length g.edges) (from_regions g) e h

  pub at_region : (r : ℕ) → k ≡ 1 + length g.blocks + length g.edges + r → r < length g.regions → get_or (graph_lines g) k [] ≡ region_line g r
  at_region r is h = to_regions r is ∙ here (region_line g) (length g.regions) (from_handlers g) r h

  pub at_handler : (h : ℕ) → k ≡ 1 + length g.blocks + length g.edges + length g.regions + h → h < length g.handlers → get_or (graph_lines g) k [] ≡ handler_line g h
  at_handler h is lt = to_handlers h is ∙ here (handler_line g) (length g.handlers) (from_unresolved g) h lt

  pub at_unresolved : (u : ℕ) → k ≡ 1 + length g.blocks + length g.edges + length g.regions + length g.handlers + u → u < length g.unresolved → get_or (graph_lines g) k [] ≡ unresolved_line g u
  at_unresolved u is h = to_unresolved u is ∙ here (unresolved_line g) (length g.unresolved) (from_calls g) u h

  pub at_call : (c : ℕ) → k ≡ 1 + length g.blocks + length g.edges + length g.regions + length g.handlers + length g.unresolved + c → c < length g.calls → get_or (graph_lines g) k [] ≡ call_line g c
  at_call c is h = to_calls c is ∙ get_or_table (call_line g) (length g.calls) c [] h

  pub at_end : length (graph_lines g) ≤ k → get_or (graph_lines g) k [] ≡ []
  at_end h = get_or-eq_default (graph_lines g) [] h

pub lines_length : (g : Graph) →
    length (graph_lines g) ≡ 1 + length g.blocks + length g.edges + length g.regions + length g.handlers + length g.unresolved + length g.calls
unfolding graph_lines
lines_length g = simp (length-append, length-table) (omega arith)

pub records_few : (l : Lent) →
    length (held_of l).graph.blocks + length (held_of l).graph.edges + length (held_of l).graph.regions + length (held_of l).graph.handlers + length (held_of l).graph.unresolved + length (held_of l).graph.calls ≤ 6720
records_few l =
    omega (arith, block_most l, edge_most l, region_most l, handler_most l, unresolved_most l, call_most l)

pub ruleset lines = (at_start, at_block, at_edge, at_region, at_handler, at_unresolved, at_call, at_end, lines_length)
