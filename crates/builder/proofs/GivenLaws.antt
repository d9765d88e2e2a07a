-- The checks 5 and 7 to 9, as the code makes them.
--     order_at                                    an instruction behind the first
--     visit_within, visit_edges, visit_flow       one for which edges are given, and one that leads as its flow says
--     not_given                                   in the other modes nothing is refused
--     sourced                                     what 1 to 5 and 7 leave
-- Assumes nothing.
use mathlib.Core.Bool.{true, ◌||◌}
use mathlib.Core.Path.{◌≡◌, refl, sym, ap, ◌∙◌}
use mathlib.Core.List.{List, []}
use Prim.Native.Nat.{ℕ, zero, suc, ◌+◌, ◌-◌, ◌<◌, ◌≤◌}
use native.Mathlib.Omega.{arith}
use borrow.Author.Tests.{eq-eqb, ne_eqb}
use lib.Dec.{eqb, ltb}
use lib.ListN.{length, get_or}
use Rattle.image.specs.Refusal.{clear, refusal, unless}
use Rattle.image.specs.Record.{edge_from}
use Rattle.image.specs.Image.{Image}
use Rattle.image.specs.Accepted.{Accepted}
use Rattle.image.proofs.Checks.{unless_clear}
use Rattle.graph.specs.declared.record.TableEntry.{TableEntry}
use Rattle.graph.specs.Fold.{some, checks}
use Rattle.graph.specs.Flow.{Flow, is_call}
use Rattle.graph.specs.Table.{entry_at, is_start}
use Rattle.graph.specs.Transfer.{table_of, size, address_at, source_at, is_given, given_at}
use Rattle.graph.specs.Build.{order_check, table_check, source_check, given_mode, target_check, given_check}
use Rattle.graph.proofs.CheckLaws.{checks-same, checks_clear, checks_at}
use Rattle.graph.proofs.RangeLaws.{rising}
use Rattle.builder.specs.declared.cursor.Cursor.{Cursor}
use Rattle.builder.specs.declared.cursor.Visit.{Visit}
use Rattle.builder.specs.Cursor.{Sourced, cursor_at, given_for, visit_at}
use Rattle.builder.proofs.CursorLaws.{leads_edges, leads_flow, edges_within_law, edge_is}
use Rattle.std.proofs.Common.{Some, None}

pub order_at : (t : List TableEntry) (p : ℕ) → (p ≡ 0 → ⊥)
    → order_check t p ≡ unless (ltb (entry_at t (p - 1)).address (entry_at t p).address) (refusal 5 (entry_at t (p - 1)).address (entry_at t p).address)
unfolding order_check
order_at t zero ne = absurd (ne refl)
order_at t (suc p) ne = let e : suc p - 1 ≡ p = omega arith in rw e

module _ (m : Image) (h : Sourced m) (p : ℕ) (hp : p < size m) (c : Cursor) (v : Visit) (here : c ≡ cursor_at m p) (at : v ≡ visit_at m p) where
  leads : v.given ≡ given_for m p
  leads = ap (λ (x : Visit). x.given) at

  module _ (n : ℕ) (e : v.given ≡ Some n) where
    given_edges : (is_given m p ≡ true) × (length (given_at m p) ≡ n)
    given_edges = leads_edges m p n (sym leads ∙ e)

    pub visit_within : c.edge + n ≤ length m.edges
    visit_within = rw here (omega (arith, edges_within_law m h p hp given_edges.0, given_edges.1))

    pub visit_edges : checks (λ k. target_check (table_of m) v.instruction.address (get_or m.edges (c.edge + k) (edge_from [] 0))) n ≡ given_check m p
    unfolding given_check
    visit_edges =
        rw (here, at, given_edges.0, given_edges.1)
        (checks-same _ _ n (λ k hk. ap (target_check (table_of m) (address_at m p)) (sym (edge_is m h p hp given_edges.0 k (rw given_edges.1 hk)))))

  pub visit_flow : m.header.mode ≡ 2 → v.given ≡ None
      → unless (eqb v.instruction.flow Flow.next || is_call v.instruction.flow) (refusal 9 v.instruction.address 0) ≡ given_check m p
  unfolding given_check given_mode
  visit_flow mode e = rw (at, leads_flow m p (sym leads ∙ e), eq-eqb m.header.mode 2 mode)

pub not_given : (m : Image) → Accepted m → (m.header.mode ≡ 2 → ⊥) → (n : ℕ) → checks (given_check m) n ≡ clear
unfolding given_check given_mode is_given some
not_given m h mode n =
    let none : m.sources ≡ [] = h.not_given (omega (arith, h.modes)) in
    checks_clear (given_check m) n (λ p hp. rw (none, ne_eqb m.header.mode 2 mode))

pub sourced : (m : Image) → Accepted m → table_check (table_of m) ≡ clear → checks (source_check m) (length m.sources) ≡ clear → Sourced m
unfolding source_check
sourced m h table sources =
    record {
      accepted = h;
      rising = rising (table_of m) table;
      starts = λ s hs. unless_clear (is_start (table_of m) (source_at m s).address) _ (checks_at (source_check m) (length m.sources) s sources hs);
    }
