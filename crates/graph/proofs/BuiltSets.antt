-- The flows, kinds, roles and flags of a build are in their sets.
--     in_sets_law     so rule 21 says
-- Assumes nothing.
use mathlib.Core.Bool.{Bool, true, false, cond, ◌&&◌, ◌||◌}
use mathlib.Core.Path.{◌≡◌, refl}
use mathlib.Core.Logic.{⊎_elim}
use mathlib.Core.List.{[]}
use Prim.Native.Nat.{ℕ, zero, suc, ◌≤◌}
use native.Mathlib.Omega.{arith}
use borrow.Author.Tests.{le-leb}
use lib.Dec.{eqb, leb}
use lib.ListN.{length, get_or}
use Rattle.image.specs.Refusal.{clear}
use Rattle.image.specs.Image.{Image}
use Rattle.image.specs.Record.{instruction_from}
use Rattle.image.specs.Accepted.{Accepted}
use Rattle.graph.specs.declared.record.Region.{Region}
use Rattle.graph.specs.declared.record.HandlerRecord.{HandlerRecord}
use Rattle.graph.specs.declared.record.UnresolvedTransfer.{UnresolvedTransfer}
use Rattle.graph.specs.declared.record.CallSite.{CallSite}
use Rattle.graph.specs.Fold.{all}
use Rattle.graph.specs.Table.{entry_at}
use Rattle.graph.specs.Flow.{Flow, Role, From, falls_through, unresolved_role, is_call}
use Rattle.graph.specs.Transfer.{word, table_entry, table_of, size, instruction_at, has_target, transfer_at, slot_count, is_given}
use Rattle.graph.specs.Leaders.{handler_at}
use Rattle.graph.specs.Blocks.{is_terminator}
use Rattle.graph.specs.Edges.{resolved, transfer_unresolved, unresolved_at, unresolved_of, edges_of, call_at, calls_of}
use Rattle.graph.specs.Regions.{draft, drafts, contains, smaller, parent_below, region_at, regions_of, handler_record, handlers_of}
use Rattle.graph.specs.Build.{build_check, graph_from}
use Rattle.graph.specs.WellFormed.{in_sets}
use Rattle.graph.proofs.FoldLaws.{decided}
use Rattle.graph.proofs.TableLaws.{entry_is}
use Rattle.graph.proofs.RuleLaws.{all_from, both_hold}
use Rattle.graph.proofs.EachLaws.{Each, each_flat, each_table, each_cond, each_all, each_most}
use Rattle.graph.proofs.BuiltEdges.{Good, edges_good}

-- ---- flags, and roles of unresolved transfers

flag : (b : Bool) → word b ≤ 1
flag true = omega arith
flag false = omega arith

one_of : (b : Bool) (x y : ℕ) → x ≤ 9 → y ≤ 9 → cond b x y ≤ 9
one_of true x y hx hy = hx
one_of false x y hx hy = hy

loose_role : (role : ℕ) (target : Bool) → unresolved_role role target ≤ 9
unfolding unresolved_role
loose_role role target =
    one_of (eqb role Role.conditional_taken) _ _ (one_of target 2 3 (omega arith) (omega arith))
    (one_of (eqb role Role.jump) _ _ (one_of target 4 0 (omega arith) (omega arith))
    (one_of (eqb role Role.switch_default) _ _ (omega arith)
    (one_of (eqb role Role.switch_case) _ _ (omega arith)
    (one_of (eqb role Role.call) _ _ (one_of target 7 1 (omega arith) (omega arith)) (one_of target 8 9 (omega arith) (omega arith))))))

module _ (m : Image) where
  -- ---- the table

  entries_in_law : Accepted m → all (λ p. leb (entry_at (table_of m) p).flow 12 && leb (entry_at (table_of m) p).keeps 1) (length (table_of m)) ≡ true
  unfolding all table_entry
  entries_in_law accepted =
      all_from _ 0 (length (table_of m)) (omega arith) refl
      (λ p le h. rw (entry_is m.instructions p, le-leb _ 12 (accepted.flows p), le-leb _ 1 (flag (get_or m.instructions p (instruction_from [] 0)).keeps)))

  -- ---- unresolved records

  abbrev Loose : UnresolvedTransfer → Type 0
  Loose u = u.role ≤ 9

  loose_each : Each Loose (unresolved_of m)
  unfolding unresolved_of unresolved_at transfer_unresolved
  loose_each =
      each_flat Loose _ (size m)
      (λ p here. each_cond Loose (is_terminator m p) _ _
      (λ ends. each_cond Loose (is_given m p) _ _
      (λ is. tt)
      (λ not. each_flat Loose _ (slot_count m p)
      (λ k h. let x = transfer_at m p k in
      each_cond Loose (eqb x.from From.nowhere || falls_through x.role || resolved m x) _ _ (λ no_record. tt) (λ one. (loose_role x.role (has_target x), tt)))))
      (λ not. tt))

  -- ---- calls

  abbrev Site : CallSite → Type 0
  Site c = c.has_target ≤ 1

  sites_each : Each Site (calls_of m)
  unfolding calls_of call_at
  sites_each =
      each_cond Site (eqb m.header.calls 1) _ _
      (λ flattened. each_flat Site _ (size m)
      (λ p h. each_cond Site (is_call (instruction_at m p).flow) _ _ (λ call. (flag (eqb (instruction_at m p).flow Flow.call), tt)) (λ not. tt)))
      (λ not. tt)

  -- ---- regions and handlers

  parent_one : (r k : ℕ) → length (parent_below m r k) ≤ 1
  unfolding parent_below
  parent_one r zero = omega arith
  parent_one r (suc k) =
      ⊎_elim (λ e. rw e (omega arith)) (λ e. rw e (parent_one r k)) (decided (contains m (draft m k) (draft m r) && smaller m (parent_below m r k) k))

  regions_each : Each (λ (r : Region). r.has_parent ≤ 1) (regions_of m)
  unfolding regions_of region_at
  regions_each =
      each_table (λ r. r.has_parent ≤ 1) (region_at m) (length (drafts m)) (λ r. parent_one r (length (drafts m)))

  handlers_each : Accepted m → Each (λ (x : HandlerRecord). x.kind ≤ 4) (handlers_of m)
  unfolding handlers_of handler_record handler_at
  handlers_each accepted = each_table (λ x. x.kind ≤ 4) (handler_record m) (length m.handlers) (λ h. accepted.handler_kinds h)

  -- ---- all of them

  pub in_sets_law : Accepted m → build_check m ≡ clear → in_sets (graph_from m) ≡ true
  unfolding in_sets graph_from
  in_sets_law accepted passed =
      both_hold _ _
      (both_hold _ _
      (both_hold _ _
      (both_hold _ _
      (both_hold _ _ (entries_in_law accepted)
      (each_all (Good m) _ (λ e. leb e.kind 7 && leb e.role 11) (λ e good. rw (le-leb e.kind 7 good.kind, le-leb e.role 11 good.role))
      (edges_of m) (edges_good m accepted passed)))
      (each_most (λ r. r.has_parent) 1 _ (regions_of m) regions_each))
      (each_most (λ x. x.kind) 4 _ (handlers_of m) (handlers_each accepted)))
      (each_most (λ u. u.role) 9 _ (unresolved_of m) loose_each))
      (each_most (λ c. c.has_target) 1 _ (calls_of m) sites_each)
