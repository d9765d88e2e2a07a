-- The exception edges of handlers.
--     edge_to                         the edge of a resolved transfer, to a block that is known
--     entry_resolved                  the transfer to a handler that passed its check is resolved
--     unwind_is                       what it gives where the instruction keeps its exception edge
--     range_first_law, range_size_law         the positions of a range that was checked
--     edges_from                      one position more of a range
--     other_modes, other_modes_add, handlers_edges     the edges of an image that is built in another mode, and in mode 0
-- Assumes nothing.
use mathlib.Core.Bool.{true, cond}
use mathlib.Core.Path.{◌≡◌, ◌∙◌}
use mathlib.Core.List.{List, [], ◌∷◌}
use Prim.Native.Nat.{ℕ, ◌+◌, ◌-◌, ◌<◌, ◌≤◌}
use native.Mathlib.Omega.{arith}
use borrow.Author.Tests.{eq-eqb, ne_eqb}
use lib.ListN.{length, get_or}
use Rattle.graph.specs.declared.store.Graph.{Graph as Lent}
use Rattle.image.specs.Refusal.{clear}
use Rattle.image.specs.Image.{Image}
use Rattle.image.specs.declared.record.Instruction.{Instruction}
use Rattle.image.specs.declared.record.Handler.{Handler}
use Rattle.graph.specs.declared.record.Edge.{Edge}
use Rattle.graph.specs.Fold.{flat}
use Rattle.graph.specs.Flow.{Role, From}
use Rattle.graph.specs.Transfer.{table_of, size, instruction_at, Transfer}
use Rattle.graph.specs.Leaders.{handler_at}
use Rattle.graph.specs.Blocks.{block_at}
use Rattle.graph.specs.Edges.{resolved, transfer_edges, range_first, range_size, unwind_edges, exception_edges}
use Rattle.graph.specs.Build.{handler_check}
use Rattle.graph.specs.Adding.{Added}
use Rattle.graph.proofs.AddingLaws.{added_none, edges_more}
use Rattle.graph.proofs.BuiltRegions.{entry_clear}
use Rattle.builder.specs.Emit.{Numbered, edge_between, handler_edges}
use Rattle.builder.specs.Ranges.{Ranges}
use Rattle.builder.specs.declared.ranges.Positions.{Positions}
use Rattle.std.proofs.Common.{Ok}

module _ (m : Image) where
  pub edge_to : (x : Transfer) (p : ℕ) (blocks : List ℕ) (i : Instruction) (b c : ℕ) (e : Edge) → Numbered m blocks → p < size m → resolved m x ≡ true
      → i ≡ instruction_at m p → b ≡ get_or blocks p 0 → c ≡ block_at m x.target → e ≡ edge_between b c i.address x → transfer_edges m p x ≡ e ∷ []
  unfolding transfer_edges
  edge_to x p blocks i b c e numbered here leads i-is b-is c-is e-is = rw (leads, e-is, i-is, b-is ∙ numbered.block p here, c-is)

  module _ (h : ℕ) (a : Handler) (is : a ≡ handler_at m h) where
    module _ (x : Transfer) (x_is : x ≡ record { role = Role.unwind; from = From.named; target = a.entry; number = h; key = 0 }) where
      pub entry_resolved : handler_check m h ≡ clear → resolved m x ≡ true
      unfolding resolved
      entry_resolved passed = rw (x_is, is) (entry_clear m h passed)

      pub unwind_is : (p : ℕ) → cond (instruction_at m p).keeps (transfer_edges m p x) [] ≡ unwind_edges m h p
      unfolding unwind_edges
      unwind_is p = rw (x_is, is)

    module _ (p : Positions) (range : Ranges (table_of m) a.start a.end (Ok p)) where
      pub range_first_law : p.first ≡ range_first m h
      unfolding range_first
      range_first_law = rw is at range.1

      pub range_size_law : p.past - p.first ≡ range_size m h
      unfolding range_first range_size
      range_size_law = rw (range.1, range.2, is)

  pub other_modes : (m.header.mode ≡ 0 → ⊥) → exception_edges m ≡ []
  unfolding exception_edges
  other_modes e = rw (ne_eqb m.header.mode 0 e)

  pub other_modes_add : (l : Lent) → (m.header.mode ≡ 0 → ⊥) → Added l l (exception_edges m) [] []
  other_modes_add l e = rw (other_modes e) (added_none l)

  pub handlers_edges : m.header.mode ≡ 0
      → exception_edges m ≡ flat (λ h. handler_edges m h) (length m.handlers)
  unfolding exception_edges
  handlers_edges e = rw (eq-eqb m.header.mode 0 e)

pub edges_from : {l k n : Lent} (f : ℕ → List Edge) (first p : ℕ) → first ≤ p
    → Added l k (flat (λ i. f (first + i)) (p - first)) [] [] → Added k n (f p) [] [] → Added l n (flat (λ i. f (first + i)) (p + 1 - first)) [] []
edges_from f first p h a b =
    let more : p + 1 - first ≡ p - first + 1 = omega arith in
    let here : first + (p - first) ≡ p = omega arith in
    rw more (edges_more (λ i. f (first + i)) (p - first) a (rw here b))
