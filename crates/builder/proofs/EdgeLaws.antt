-- Edges and unresolved records.
--     resolves, resolved-not               a transfer's target was looked up, or it has none
--     edge_found, edge_none                its edge where it is resolved, and where it is not
--     unresolved_of_law, unresolved_none       its record where it is not, and where it is
--     given_found                          a given edge, to the block that was found
--     given_next, given_inside, given_fits     its given edges stand where the cursor says
--     case_next, case_inside, case_fits        and so do its cases
--     flow_is, flow_most, first_is, second_is          its flow under the policy, and its two slots
--     flow_edges, given_edges              what the instruction at p gives by its flow, and where edges are given
--     switch_count, two_count              how many transfers it has
--     end_most, end_all                    how many of them the code goes through: no more, and they give all
--     case_is_slot                         case k of a Switch is its transfer k + 1
--     switch_edges, two_edges              a Switch: its default, and its cases behind it; any other flow: two slots
--     X-unresolved                         the same of records, for X of flow, given, switch, two
--     terminator_is                        the last instruction of a block, by the leaders' marks
-- Assumes nothing.
use mathlib.Core.Bool.{Bool, true, false, cond, ◌&&◌, ◌||◌, or-true, or-false}
use mathlib.Core.Path.{◌≡◌, refl, sym, ap, ◌∙◌}
use mathlib.Core.Logic.{◌⊎◌, inl, inr, ⊎_elim}
use mathlib.Core.List.{List, [], ◌∷◌, ◌++◌, append-nil}
use Prim.Native.Nat.{ℕ, suc, ◌+◌, ◌<◌, ◌≤◌}
use native.Mathlib.Decide.{ℕ_discrete}
use native.Mathlib.Numerals.{add-one}
use native.Mathlib.Omega.{arith}
use borrow.Author.Tests.{eq-eqb, ne_eqb}
use lib.Dec.{eqb}
use lib.ListN.{length, get_or}
use Rattle.image.specs.Record.{case_from, edge_from}
use Rattle.image.specs.Accepted.{Accepted}
use Rattle.image.specs.declared.record.Instruction.{Instruction}
use Rattle.image.specs.declared.record.GivenEdge.{GivenEdge}
use Rattle.image.specs.Image.{Image}
use Rattle.graph.specs.declared.record.Edge.{Edge}
use Rattle.graph.specs.declared.record.UnresolvedTransfer.{UnresolvedTransfer}
use Rattle.graph.specs.Lookup.{Finds}
use Rattle.graph.specs.Flow.{Flow, Role, From, Slot, slots_of, falls_through, is_call, flow_under}
use Rattle.graph.specs.Transfer.{table_of, size, instruction_at, address_at, flow_at, Transfer, has_target, slot_transfer, cases_at, transfer_at, slot_count, is_given, given_at, given}
use Rattle.graph.specs.Blocks.{is_terminator, block_at}
use Rattle.graph.specs.Edges.{resolved, transfer_edges, transfer_unresolved, given_edge, edges_at, unresolved_at}
use Rattle.graph.specs.Fold.{flat}
use Rattle.graph.proofs.FoldLaws.{flat-same, flat_front}
use Rattle.graph.proofs.TableLaws.{length-entries}
use Rattle.builder.specs.declared.cursor.Cursor.{Cursor}
use Rattle.builder.specs.Cursor.{Sourced, cursor_at}
use Rattle.builder.specs.Marks.{Leading}
use Rattle.builder.specs.Emit.{Emitting, Resolves, edge_between, unresolved_from, slot_edges, slot_unresolved, case_at, case_edges, case_unresolved}
use Rattle.builder.proofs.CursorLaws.{edge_is, edges_within_law, case_is, cases_within, cases_length}
use Rattle.std.proofs.Common.{Option, Some, None}

module _ (m : Image) (x : Transfer) where
  pub resolves : (f : Option ℕ) → has_target x ≡ true → Finds (table_of m) x.target f → Resolves m x f
  unfolding resolved
  resolves (Some k) has found = (rw has found.0, found.1, rw (length-entries m.instructions) at found.2)
  resolves None has none = rw has none

  pub resolved-not : has_target x ≡ false → resolved m x ≡ false
  unfolding resolved
  resolved-not none = rw none

  module _ (p : ℕ) where
    pub edge_found : (blocks : List ℕ) (k a b c : ℕ) (e : Edge) → Emitting m blocks → p < size m → Resolves m x (Some k)
        → a ≡ address_at m p → b ≡ get_or blocks p 0 → c ≡ get_or blocks k 0 → e ≡ edge_between b c a x → transfer_edges m p x ≡ e ∷ []
    unfolding transfer_edges block_at
    edge_found blocks k a b c e n here r a-is b-is c-is e-is =
        rw (r.0, e-is, a-is, b-is ∙ n.block p here, c-is ∙ n.block k r.2, r.1)

    pub edge_none : resolved m x ≡ false → transfer_edges m p x ≡ []
    unfolding transfer_edges
    edge_none e = rw e

    edge-empty : x.from ≡ From.nowhere → transfer_edges m p x ≡ []
    edge-empty e = edge_none (resolved-not (rw e))

    unresolved_empty : x.from ≡ From.nowhere → transfer_unresolved m p x ≡ []
    unfolding transfer_unresolved
    unresolved_empty e = rw e

    pub unresolved_none : resolved m x ≡ true → transfer_unresolved m p x ≡ []
    unfolding transfer_unresolved
    unresolved_none e = rw (e, or-true (eqb x.from From.nowhere || falls_through x.role))

    pub unresolved_of_law : resolved m x ≡ false → transfer_unresolved m p x ≡ cond (eqb x.from From.nowhere || falls_through x.role) [] (unresolved_from (address_at m p) x ∷ [])
    unfolding transfer_unresolved
    unresolved_of_law e = rw (e, or-false (eqb x.from From.nowhere || falls_through x.role))

module _ (m : Image) (blocks : List ℕ) (h : Emitting m blocks) (p : ℕ) (here : p < size m) where
  pub given_found : (x : GivenEdge) (k b c : ℕ) → Finds (table_of m) x.target (Some k) → b ≡ get_or blocks p 0 → c ≡ get_or blocks k 0
      → given_edge m p x ≡ record { source = b; target = c; kind = x.kind; role = Role.given; number = x.payload; key = 0; source_address = 0; target_address = 0 }
  unfolding given_edge block_at
  given_found x k b c found b-is c-is =
      rw (b-is ∙ h.block p here, c-is ∙ h.block k (rw (length-entries m.instructions) at found.2), found.1)

module _ (m : Image) (h : Sourced m) (c : Cursor) (at : c ≡ cursor_at m c.at) (here : c.at < size m) where
  module _ (e : is_given m c.at ≡ true) where
    pub given_next : (k : ℕ) → k < length (given_at m c.at) → get_or m.edges (c.edge + k) (edge_from [] 0) ≡ given m c.at k
    given_next k hk =
        ap (λ (x : Cursor). get_or m.edges (x.edge + k) (edge_from [] 0)) at ∙ sym (edge_is m h c.at here e k hk)

    pub given_inside : c.edge + length (given_at m c.at) ≤ length m.edges
    given_inside = omega (arith, ap (λ (x : Cursor). x.edge) at, edges_within_law m h c.at here e)

    pub given_fits : c.edge + length (given_at m c.at) ≤ 512
    given_fits = omega (arith, given_inside, h.accepted.edges_most)

  pub case_next : (k : ℕ) → k < (instruction_at m c.at).cases → get_or m.cases (c.case + k) (case_from [] 0) ≡ get_or (cases_at m c.at) k (case_from [] 0)
  case_next k hk = ap (λ (x : Cursor). get_or m.cases (x.case + k) (case_from [] 0)) at ∙ sym (case_is m h c.at here k hk)

  pub case_inside : c.case + (instruction_at m c.at).cases ≤ length m.cases
  case_inside = omega (arith, ap (λ (x : Cursor). x.case) at, cases_within m h c.at here)

  pub case_fits : c.case + (instruction_at m c.at).cases ≤ 512
  case_fits = omega (arith, case_inside, h.accepted.cases_most)

module _ (m : Image) (p : ℕ) where
  module _ (e : is_given m p ≡ true) where
    pub given_edges : edges_at m p ≡ flat (λ k. given_edge m p (given m p k) ∷ []) (length (given_at m p))
    unfolding edges_at
    given_edges = rw e

    pub given_unresolved : unresolved_at m p ≡ []
    unfolding unresolved_at
    given_unresolved = rw e

  module _ (e : is_given m p ≡ false) where
    pub flow_edges : edges_at m p ≡ slot_edges m p (slot_count m p)
    unfolding edges_at
    flow_edges = rw e

    pub flow_unresolved : unresolved_at m p ≡ slot_unresolved m p (slot_count m p)
    unfolding unresolved_at
    flow_unresolved = rw e

  module _ (e : flow_at m p ≡ Flow.switch) where
    pub case_is_slot : (k : ℕ) → case_at m p k ≡ transfer_at m p (suc k)
    unfolding transfer_at
    case_is_slot k = rw e

    pub switch_count : slot_count m p ≡ suc (length (cases_at m p))
    unfolding slot_count
    switch_count = rw e

    pub switch_edges : slot_edges m p (slot_count m p) ≡ transfer_edges m p (transfer_at m p 0) ++ case_edges m p (length (cases_at m p))
    unfolding slot_count
    switch_edges =
        rw e
        (flat_front (λ i. transfer_edges m p (transfer_at m p i)) (length (cases_at m p))
        ∙ ap (λ (l : List Edge). transfer_edges m p (transfer_at m p 0) ++ l)
        (flat-same _ _ (length (cases_at m p)) (λ k hk. ap (transfer_edges m p) (sym (case_is_slot k)))))

    pub switch_unresolved : slot_unresolved m p (slot_count m p) ≡ transfer_unresolved m p (transfer_at m p 0) ++ case_unresolved m p (length (cases_at m p))
    unfolding slot_count
    switch_unresolved =
        rw e
        (flat_front (λ i. transfer_unresolved m p (transfer_at m p i)) (length (cases_at m p))
        ∙ ap (λ (l : List UnresolvedTransfer). transfer_unresolved m p (transfer_at m p 0) ++ l)
        (flat-same _ _ (length (cases_at m p)) (λ k hk. ap (transfer_unresolved m p) (sym (case_is_slot k)))))

  module _ (e : flow_at m p ≡ Flow.switch → ⊥) where
    pub two_count : slot_count m p ≡ 2
    unfolding slot_count
    two_count = rw (ne_eqb (flow_at m p) Flow.switch e)

    pub two_edges : slot_edges m p (slot_count m p) ≡ transfer_edges m p (transfer_at m p 0) ++ transfer_edges m p (transfer_at m p 1)
    unfolding slot_count flat
    two_edges = rw (ne_eqb (flow_at m p) Flow.switch e)

    pub two_unresolved : slot_unresolved m p (slot_count m p) ≡ transfer_unresolved m p (transfer_at m p 0) ++ transfer_unresolved m p (transfer_at m p 1)
    unfolding slot_count flat
    two_unresolved = rw (ne_eqb (flow_at m p) Flow.switch e)

  -- its flow under the policy, and its two slots as the code reads them
  module _ (i : Instruction) (is : i ≡ instruction_at m p) (f : ℕ) (f_is : f ≡ flow_under m.header.calls i.flow) where
    pub flow_is : f ≡ flow_at m p
    unfolding flow_at
    flow_is = f_is ∙ ap (λ (x : Instruction). flow_under m.header.calls x.flow) is

    pub flow_most : Accepted m → f ≤ 12
    unfolding instruction_at flow_under
    flow_most h = rw f_is (go (eqb m.header.calls 1 && is_call i.flow))
      where
        go : (b : Bool) → cond b Flow.next i.flow ≤ 12
        go true = omega arith
        go false = rw is (h.flows p)

    module _ (x : Transfer) (z : Slot × Slot) (z_is : z ≡ slots_of f) where
      pub first_is : x ≡ slot_transfer i z.0 → x ≡ transfer_at m p 0
      unfolding transfer_at
      first_is e = rw (e, is, z_is, flow_is)

      pub second_is : (f ≡ Flow.switch → ⊥) → x ≡ slot_transfer i z.1 → x ≡ transfer_at m p 1
      unfolding transfer_at
      second_is other e = rw (ne_eqb (flow_at m p) Flow.switch (rw flow_is at other), e, is, z_is, flow_is)

    -- where the code stops there is no transfer left, or one that is empty
    module _ (z : Slot × Slot) (z_is : z ≡ slots_of f) (n : ℕ) (n_is : n ≡ cond (eqb f Flow.switch) (suc i.cases) (cond (eqb z.1.from From.nowhere) 1 2)) (h : Sourced m) (here : p < size m) where
      left : (n ≡ slot_count m p) ⊎ ((n ≡ 1) × (slot_count m p ≡ 2) × ((transfer_at m p 1).from ≡ From.nowhere))
      unfolding slot_transfer
      left =
          elim (ℕ_discrete f Flow.switch) [
            | yes switch ↦ inl (rw (n_is, eq-eqb f Flow.switch switch, switch_count (sym flow_is ∙ switch), cases_length m h p here, is))
            | no other ↦
                let two = two_count (rw flow_is at other) in
                let second = second_is (slot_transfer i z.1) z z_is other refl in
                elim (ℕ_discrete z.1.from From.nowhere) [
                  | yes none ↦ inr (rw (n_is, ne_eqb f Flow.switch other, eq-eqb z.1.from From.nowhere none), two, rw (← second) none)
                  | no one ↦ inl (rw (n_is, ne_eqb f Flow.switch other, ne_eqb z.1.from From.nowhere one, two))
                ]
          ]

      pub end_most : n ≤ slot_count m p
      end_most = ⊎_elim (λ all. omega arith) (λ one. omega arith) left

      end_flat : {A : Type 0} (g : Transfer → List A) → ((x : Transfer) → x.from ≡ From.nowhere → g x ≡ []) → flat (λ k. g (transfer_at m p k)) n ≡ flat (λ k. g (transfer_at m p k)) (slot_count m p)
      unfolding flat
      end_flat g none = ⊎_elim (λ all. rw all) (λ one. rw (one.0, one.1, none (transfer_at m p 1) one.2) (sym (append-nil (g (transfer_at m p 0))))) left

      pub end_all : (slot_edges m p n ≡ slot_edges m p (slot_count m p)) × (slot_unresolved m p n ≡ slot_unresolved m p (slot_count m p))
      end_all = (end_flat (transfer_edges m p) (λ x. edge-empty m x p), end_flat (transfer_unresolved m p) (λ x. unresolved_empty m x p))

  pub terminator_is : (marks : List Bool) → Leading m marks → p < size m → (eqb (p + 1) (size m) || get_or marks (p + 1) false) ≡ is_terminator m p
  unfolding is_terminator
  terminator_is marks leading here =
      rw add-one
      (elim (ℕ_discrete (suc p) (size m)) [
        | yes last ↦ rw (eq-eqb (suc p) (size m) last)
        | no more ↦ rw (ne_eqb (suc p) (size m) more) (leading (suc p) (omega arith))
      ])
