-- The edges of a build: their ends exist, and their kinds and roles are in their sets.
--     Good, edges_good     what rule 21 asks of an edge holds of each
--     edge_ends            'edge ends .. exist'
-- Assumes nothing.
use mathlib.Core.Bool.{Bool, true, false, cond, ◌&&◌}
use mathlib.Core.Path.{◌≡◌}
use mathlib.Core.List.{List, [], ◌∷◌}
use Prim.Native.Nat.{ℕ, zero, suc, ◌+◌, ◌≤◌, ◌<◌}
use native.Mathlib.Omega.{arith}
use borrow.Author.Tests.{lt-ltb}
use lib.Dec.{eqb}
use lib.ListN.{length, get_or}
use Rattle.image.specs.Refusal.{clear}
use Rattle.image.specs.Image.{Image}
use Rattle.image.specs.Record.{case_from, edge_from}
use Rattle.image.specs.Accepted.{Accepted}
use Rattle.image.specs.Deal.{deal, given_of}
use Rattle.image.specs.declared.record.GivenEdge.{GivenEdge}
use Rattle.graph.specs.declared.record.Edge.{Edge}
use Rattle.graph.specs.Table.{is_start}
use Rattle.graph.specs.Flow.{Flow, Slot, slots, slots_of, kind_of, empty}
use Rattle.graph.specs.Transfer.{table_of, size, flow_at, Transfer, has_target, slot_transfer, case_transfer, cases_at, instruction_at, transfer_at, slot_count, source_at, address_at, is_given, given_at, given}
use Rattle.graph.specs.Leaders.{handler_at}
use Rattle.graph.specs.Blocks.{is_terminator, blocks_of}
use Rattle.graph.specs.Edges.{resolved, transfer_edges, given_edge, edges_at, normal_edges, range_first, range_size, unwind_edges, exception_edges, edges_of}
use Rattle.graph.specs.Build.{build_check, graph_from}
use Rattle.graph.specs.WellFormed.{is_block, edge_ends_exist}
use Rattle.graph.proofs.TableLaws.{length-entries, below_most}
use Rattle.graph.proofs.RuleLaws.{both_true}
use Rattle.graph.proofs.EachLaws.{Each, each_append, each_flat, each_cond, each_take, each_drop, each_of, each_in, each_at, each_all}
use Rattle.graph.proofs.BuiltChecks.{parts, input_clear, given_starts}
use Rattle.graph.proofs.BuiltBlocks.{block_exists, start_exists}

-- ---- kinds and roles

kind_most : (role : ℕ) → kind_of role ≤ 7
unfolding kind_of
kind_most role = each_at (λ k. k ≤ 7) 7 (0 ∷ 1 ∷ 2 ∷ 3 ∷ 4 ∷ 4 ∷ 5 ∷ 6 ∷ []) role (omega arith) (omega arith)

slot_roles : (flow : ℕ) → ((slots_of flow).0.role ≤ 10) × ((slots_of flow).1.role ≤ 10)
unfolding slots_of slots
slot_roles flow = each_at (λ (s : Slot × Slot). (s.0.role ≤ 10) × (s.1.role ≤ 10)) (empty, empty) slots flow (omega arith) (omega arith)

transfer_role : (m : Image) (p k : ℕ) → (transfer_at m p k).role ≤ 10
unfolding transfer_at slot_transfer
transfer_role m p zero = (slot_roles (flow_at m p)).0
transfer_role m p (suc k) = go (eqb (flow_at m p) Flow.switch)
  where
    go : (b : Bool) → (cond b (case_transfer (get_or (cases_at m p) k (case_from [] 0)) k) (slot_transfer (instruction_at m p) (slots_of (flow_at m p)).1)).role ≤ 10
    go true = omega arith
    go false = (slot_roles (flow_at m p)).1

-- what holds of each child holds of each that is dealt to a parent
each_dealt : {A : Type 0} (P : A → Type 0) (ns : List ℕ) (xs : List A) (r : ℕ) → Each P xs → Each P (get_or (deal ns xs) r [])
unfolding deal
each_dealt P [] xs r each = tt
each_dealt P (n ∷ ns) xs zero each = each_take P n xs each
each_dealt P (n ∷ ns) xs (suc r) each = each_dealt P ns _ r (each_drop P n xs each)

abbrev Known : GivenEdge → Type 0
Known e = e.kind ≤ 7

given_kinds : (m : Image) → Accepted m → (p : ℕ) → Each Known (given_at m p)
unfolding given_at given_of
given_kinds m accepted p =
    each_flat Known _ (length m.sources)
    (λ s h. each_cond Known (eqb (source_at m s).address (address_at m p)) _ _
    (λ here. each_dealt Known _ m.edges s (each_of Known (edge_from [] 0) m.edges (λ i h. accepted.edge_kinds i)))
    (λ there. tt))

-- ---- edges

pub record Good (m : Image) (e : Edge) : Type 0 where
  pub source : e.source < length (blocks_of m)
  pub target : e.target < length (blocks_of m)
  pub kind : e.kind ≤ 7
  pub role : e.role ≤ 11

module _ (m : Image) where
  transfer_good : (p : ℕ) (x : Transfer) → p < size m → x.role ≤ 10 → Each (Good m) (transfer_edges m p x)
  unfolding transfer_edges resolved
  transfer_good p x here known =
      each_cond (Good m) (resolved m x) _ _
      (λ to. (
        record {
          source = block_exists m p here;
          target = start_exists m x.target (both_true (has_target x) (is_start (table_of m) x.target) to).1;
          kind = kind_most x.role;
          role = omega arith;
        },
        tt,
      ))
      (λ nowhere. tt)

  -- the positions that a handler protects are in the table
  in_range : (h i : ℕ) → i < range_size m h → range_first m h + i < size m
  unfolding range_size
  in_range h i lt = omega (arith, below_most (table_of m) (handler_at m h).end, length-entries m.instructions)

  unwind_good : (h i : ℕ) → i < range_size m h → Each (Good m) (unwind_edges m h (range_first m h + i))
  unfolding unwind_edges
  unwind_good h i lt =
      each_cond (Good m) (instruction_at m (range_first m h + i)).keeps _ _
      (λ keeps. transfer_good (range_first m h + i) _ (in_range h i lt) (omega arith))
      (λ not. tt)

  module _ (accepted : Accepted m) (passed : build_check m ≡ clear) where
    given_good : (p k : ℕ) → p < size m → is_given m p ≡ true → k < length (given_at m p) → Good m (given_edge m p (given m p k))
    unfolding given_edge
    given_good p k here is h =
        record {
          source = block_exists m p here;
          target = start_exists m (given m p k).target (given_starts m (parts m (input_clear m passed)).given p here is k h);
          kind = each_in Known (edge_from [] 0) (given_at m p) k (given_kinds m accepted p) h;
          role = omega arith;
        }

    edges_at_law : (p : ℕ) → p < size m → Each (Good m) (edges_at m p)
    unfolding edges_at
    edges_at_law p here =
        each_cond (Good m) (is_given m p) _ _
        (λ is. each_flat (Good m) _ (length (given_at m p)) (λ k h. (given_good p k here is h, tt)))
        (λ not. each_flat (Good m) _ (slot_count m p) (λ k h. transfer_good p (transfer_at m p k) here (transfer_role m p k)))

    pub edges_good : Each (Good m) (edges_of m)
    unfolding edges_of normal_edges exception_edges
    edges_good =
        each_append (Good m) (normal_edges m) (exception_edges m)
        (each_flat (Good m) _ (size m) (λ p here. each_cond (Good m) (is_terminator m p) _ _ (λ ends. edges_at_law p here) (λ not. tt)))
        (each_cond (Good m) (eqb m.header.mode 0) _ _
        (λ flow. each_flat (Good m) _ (length m.handlers) (λ h in-h. each_flat (Good m) _ (range_size m h) (unwind_good h)))
        (λ not. tt))

    pub edge_ends : edge_ends_exist (graph_from m) ≡ true
    unfolding edge_ends_exist is_block graph_from
    edge_ends =
        each_all (Good m) _ (λ e. is_block (graph_from m) e.source && is_block (graph_from m) e.target)
        (λ e good. rw (lt-ltb e.source (length (blocks_of m)) good.source, lt-ltb e.target (length (blocks_of m)) good.target))
        (edges_of m) edges_good
