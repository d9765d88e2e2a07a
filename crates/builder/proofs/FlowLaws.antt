-- Where an instruction leads, as the marks of its flow or of its given edges say it.
--     given_marks, flow_marks      a block ends: the targets, then the next instruction
--     flow_none                    it does not
--     lead_marks                   the start at an end is the next one, or a gap's
--     visits_all                   all instructions
--     given_inside, flow_inside    its given edges and its cases stand among all
--     under_most, switch_most      a flow under the policy, and the cases of a Switch
--     names_are                    the first slot and the cases, by their numbers
-- Assumes nothing.
use mathlib.Core.Bool.{Bool, true, false, cond, not, ◌&&◌, ◌||◌, or-true}
use mathlib.Core.Path.{◌≡◌, sym, ap, ap₂, ◌∙◌}
use mathlib.Core.List.{List}
use mathlib.Core.Logic.{⊎_elim}
use Prim.Native.Nat.{ℕ, suc, ◌+◌, ◌≤◌, ◌<◌}
use native.Mathlib.Omega.{arith}
use native.Mathlib.Numerals.{add-one}
use native.Mathlib.Decide.{ℕ_discrete}
use borrow.Author.Tests.{eqb-true, eq-eqb, ne_eqb, ltb-true, lt-leb}
use lib.Dec.{T, eqb, leb, leb→le}
use lib.ListN.{length}
use Rattle.image.specs.Image.{Image}
use Rattle.image.specs.declared.record.Instruction.{Instruction}
use Rattle.image.specs.declared.record.Case.{Case}
use Rattle.image.specs.declared.record.GivenEdge.{GivenEdge}
use Rattle.graph.specs.Fold.{some, all}
use Rattle.graph.specs.Flow.{Flow, Slot, slots, slots_of, is_call, flow_under}
use Rattle.graph.specs.Transfer.{size, instruction_at, address_at, flow_at, has_target, slot_transfer, transfer_at, slot_count, is_given, given_at, ends_at}
use Rattle.graph.specs.Leaders.{goes_on, gap_mark, sequence_mark, leads_to, end_mark, flow_mark, exceptional_mark}
use Rattle.graph.proofs.RuleLaws.{both_true}
use Rattle.graph.proofs.FoldLaws.{decided, all_at, some_same, some_front, some_or}
use Rattle.builder.specs.declared.cursor.Cursor.{Cursor}
use Rattle.builder.specs.Cursor.{Sourced, cases_before, edges_before, cursor_at, given_for}
use Rattle.builder.specs.Marks.{Marked, slot_mark, case_mark, edge_mark, switch_cases, names_mark, lead_mark, funclet_end, visit_mark, instruction_mark}
use Rattle.builder.proofs.CursorLaws.{leads_edges, leads_flow, same_place, cases_length, case_is, edge_is}
use Rattle.builder.proofs.EdgeLaws.{given_inside as all-given, case_inside}
use Rattle.builder.proofs.MarkLaws.{mark_none, mark_then, mark_as, some_own, eqb_comm}
use Rattle.std.proofs.Common.{Some, None}

pub names_are : (m : Image) (first : ℕ) (i : Instruction) (flow n : ℕ) (x : Slot × Slot) → flow ≡ flow_under m.header.calls i.flow → x ≡ slots_of flow → n ≡ switch_cases flow i → (p : ℕ) → (slot_mark m i x.0 p || case_mark m first n p) ≡ names_mark m first i p
unfolding names_mark
names_are m first i flow n x e s k p = rw (k, s, e)

-- ---- slots: a first one may name a target, a second one does not

module _ (m : Image) (i : Instruction) (p : ℕ) where
  leads : Slot → Bool
  leads x = has_target (slot_transfer i x) && eqb (slot_transfer i x).target (address_at m p)

  module _ (away : eqb i.end (address_at m p) ≡ false) where
    first_named : (flow : ℕ) → flow ≤ 12 → leads (slots_of flow).0 ≡ slot_mark m i (slots_of flow).0 p
    unfolding leads slot_transfer slots_of slots all
    first_named flow most = go (slots_of flow).0 (leb→le _ _ (all_at (λ k. leb (slots_of k).0.from 3) 13 flow tt (omega arith)))
      where
        go : (x : Slot) → x.from ≤ 3 → leads x ≡ slot_mark m i x p
        go x h =
            elim (ℕ_discrete x.from 2) [
              | yes e ↦ rw e
              | no n ↦ elim (ℕ_discrete x.from 3) [ yes e ↦ rw e away | no k ↦ rw (lt-leb 2 x.from (omega arith), ne_eqb x.from 2 n) ]
            ]

    second_away : (flow : ℕ) → flow ≤ 12 → leads (slots_of flow).1 ≡ false
    unfolding leads slot_transfer slots_of slots all
    second_away flow most = go (slots_of flow).1 (all_at (λ k. eqb (slots_of k).1.from 0 || eqb (slots_of k).1.from 3) 13 flow tt (omega arith))
      where
        go : (x : Slot) → T (eqb x.from 0 || eqb x.from 3) → leads x ≡ false
        go x t =
            elim (ℕ_discrete x.from 0) [
              | yes e ↦ rw e
              | no n ↦ elim (ℕ_discrete x.from 3) [ yes e ↦ rw e away | no k ↦ absurd (rw (ne_eqb x.from 0 n, ne_eqb x.from 3 k) at t) ]
            ]

pub under_most : (calls flow : ℕ) → flow ≤ 12 → flow_under calls flow ≤ 12
unfolding flow_under
under_most calls flow h = go (eqb calls 1 && is_call flow)
  where
    go : (b : Bool) → cond b 0 flow ≤ 12
    go true = omega arith
    go false = h

pub switch_most : (flow : ℕ) (i : Instruction) → switch_cases flow i ≤ i.cases
switch_most flow i = go (eqb flow 12)
  where
    go : (b : Bool) → cond b i.cases 0 ≤ i.cases
    go true = omega arith
    go false = omega arith

module _ (m : Image) (h : Sourced m) (q : ℕ) (hq : q < size m) where
  by_edges : is_given m q ≡ true → (p : ℕ) → leads_to m q (address_at m p) ≡ edge_mark m (edges_before m q) (length (given_at m q)) p
  unfolding leads_to edge_mark
  by_edges given p =
      rw given
      (some_same _ _ (length (given_at m q)) (λ k hk. ap (λ (x : GivenEdge). eqb x.target (address_at m p)) (edge_is m h q hq given k hk)))

  -- a Switch leads by its first slot and its cases, any other flow by its two slots
  switches : flow_at m q ≡ 12 → is_given m q ≡ false → (p : ℕ) → leads_to m q (address_at m p) ≡ (leads m (instruction_at m q) p (slots_of (flow_at m q)).0 || case_mark m (cases_before m q) (instruction_at m q).cases p)
  unfolding leads_to slot_count transfer_at case_mark leads
  switches e none p =
      rw (none, eq-eqb (flow_at m q) 12 e, cases_length m h q hq)
      (some_front _ (instruction_at m q).cases
      ∙ rw (eq-eqb (flow_at m q) 12 e)
      (ap (λ (b : Bool). leads m (instruction_at m q) p (slots_of (flow_at m q)).0 || b)
      (some_same _ _ (instruction_at m q).cases (λ k hk. ap (λ (x : Case). eqb x.target (address_at m p)) (case_is m h q hq k hk)))))

  slotted : (flow_at m q ≡ 12 → ⊥) → is_given m q ≡ false → (p : ℕ) → leads_to m q (address_at m p) ≡ (leads m (instruction_at m q) p (slots_of (flow_at m q)).0 || leads m (instruction_at m q) p (slots_of (flow_at m q)).1)
  unfolding leads_to slot_count transfer_at some leads
  slotted ne none p = rw (none, ne_eqb (flow_at m q) 12 ne) (rw (ne_eqb (flow_at m q) 12 ne))

  flow_most : flow_at m q ≤ 12
  unfolding flow_at instruction_at
  flow_most = under_most _ _ (h.accepted.flows q)

  by_flow : is_given m q ≡ false → (p : ℕ) → eqb (instruction_at m q).end (address_at m p) ≡ false → leads_to m q (address_at m p) ≡ names_mark m (cases_before m q) (instruction_at m q) p
  unfolding names_mark flow_at case_mark some
  by_flow none p away =
      let named = first_named m (instruction_at m q) p away (flow_at m q) flow_most in
      elim (ℕ_discrete (flow_at m q) 12) [
        | yes e ↦ switches e none p ∙ rw (named, eq-eqb (flow_at m q) 12 e)
        | no ne ↦ slotted ne none p ∙ rw (named, second_away m (instruction_at m q) p away (flow_at m q) flow_most, ne_eqb (flow_at m q) 12 ne)
      ]

  lead_given : is_given m q ≡ true → (p : ℕ) → lead_mark m q p ≡ end_mark m q p
  unfolding lead_mark
  lead_given given p = rw (by_edges given p, given)

  lead_away : is_given m q ≡ false → (p : ℕ) → eqb (instruction_at m q).end (address_at m p) ≡ false → lead_mark m q p ≡ end_mark m q p
  unfolding lead_mark
  lead_away none p away = rw (by_flow none p away, none)

  -- the start at its end is the next one
  lead_on : (p : ℕ) → p ≡ suc q → lead_mark m q p ≡ end_mark m q p
  unfolding lead_mark
  lead_on p e = ap (λ (b : Bool). ends_at m q && b) (either (cond (is_given m q) (edge_mark m (edges_before m q) (length (given_at m q)) p) (names_mark m (cases_before m q) (instruction_at m q) p)) (leads_to m q (address_at m p)) (eqb p (suc q)) (eq-eqb p (suc q) e))
    where
      either : (a b x : Bool) → x ≡ true → (a || x) ≡ (b || x)
      either a b x e = rw e (or-true a ∙ sym (or-true b))

  gap_there : goes_on m q ≡ false → (p : ℕ) → eqb (instruction_at m q).end (address_at m p) ≡ true → gap_mark m q p ≡ true
  gap_there off p at-end = rw (off, eqb_comm (address_at m p) (instruction_at m q).end, at-end) (or-true (eqb p (suc q)))

  goes : goes_on m q ≡ true → (suc q < size m) × ((instruction_at m q).end ≡ address_at m (suc q))
  unfolding goes_on
  goes on = let parts = both_true _ _ on in (ltb-true _ _ parts.0, eqb-true _ _ parts.1)

  -- so the start at its end needs no mark of its own: it is the next one, or else a gap or overlap marks it
  lead_is : (p : ℕ) → p < size m → (gap_mark m q p || lead_mark m q p) ≡ (gap_mark m q p || end_mark m q p)
  lead_is p hp =
      ⊎_elim (λ given. ap (λ (b : Bool). gap_mark m q p || b) (lead_given given p))
      (λ none. ⊎_elim
      (λ at-end. ⊎_elim
      (λ on. ap (λ (b : Bool). gap_mark m q p || b) (lead_on p (same_place m h p (suc q) hp (goes on).0 (sym (eqb-true _ _ at-end) ∙ (goes on).1))))
      (λ off. rw (gap_there off p at-end))
      (decided (goes_on m q)))
      (λ away. ap (λ (b : Bool). gap_mark m q p || b) (lead_away none p away))
      (decided (eqb (instruction_at m q).end (address_at m p))))
      (decided (is_given m q))

-- ---- all instructions

pub lead_marks : {n : ℕ} {l r t : List Bool} (m : Image) (h : Sourced m) (q : ℕ) → q < size m → n ≡ size m → Marked n (gap_mark m q) l r → Marked n (lead_mark m q) r t → Marked n (λ p. gap_mark m q p || end_mark m q p) l t
lead_marks m h q hq all a b = mark_as (λ p. gap_mark m q p || end_mark m q p) (λ p hp. lead_is m h q hq p (rw (← all) hp)) (mark_then a b)

visits_are : (m : Image) (p : ℕ) → p < size m → some (λ q. visit_mark m q p) (size m) ≡ instruction_mark m p
unfolding sequence_mark flow_mark
visits_are m p hp =
    some_or (λ q. gap_mark m q p || end_mark m q p || (exceptional_mark m q && eqb p q)) (λ q. funclet_end m q && eqb p q) (size m)
    ∙ ap₂ ◌||◌
    (some_or (λ q. gap_mark m q p || end_mark m q p) (λ q. exceptional_mark m q && eqb p q) (size m)
    ∙ ap₂ ◌||◌ (some_or (λ q. gap_mark m q p) (λ q. end_mark m q p) (size m)) (some_own (exceptional_mark m) (size m) p hp))
    (some_own (funclet_end m) (size m) p hp)

pub visits_all : {n : ℕ} {l r : List Bool} (m : Image) (k : ℕ) → k ≡ size m → n ≡ size m → Marked n (λ p. some (λ q. visit_mark m q p) k) l r → Marked n (instruction_mark m) l r
visits_all m k all n a = mark_as (instruction_mark m) (λ p hp. rw all (visits_are m p (rw (← n) hp))) a

module _ (m : Image) (h : Sourced m) (c : Cursor) (here : c ≡ cursor_at m c.at) (within : c.at < size m) where
  pub given_inside : (k : ℕ) → given_for m c.at ≡ Some k → c.edge + k ≤ length m.edges
  given_inside k leads =
      let g = leads_edges m c.at k leads in
      omega (arith, g.1, all-given m h c here within g.0)

  pub flow_inside : (i : Instruction) → i ≡ instruction_at m c.at → c.case + i.cases ≤ length m.cases
  flow_inside i is = rw is (case_inside m h c here within)

  pub given_marks : {n : ℕ} {l r t : List Bool} (k : ℕ) → given_for m c.at ≡ Some k → Marked n (edge_mark m c.edge k) l r → Marked n (λ p. eqb p (c.at + 1)) r t → Marked n (lead_mark m c.at) l t
  unfolding ends_at lead_mark
  given_marks k leads a b =
      let g = leads_edges m c.at k leads in
      mark_as (lead_mark m c.at)
      (λ p _. sym (rw (g.0, g.1, ← add-one c.at, ← ap (λ (x : Cursor). x.edge) here)))
      (mark_then a b)

  module _ (leads : given_for m c.at ≡ None) (i : Instruction) (is : i ≡ instruction_at m c.at) where
    none : is_given m c.at ≡ false
    none = leads_flow m c.at leads

    ends : (b : Bool) → not (eqb (flow_under m.header.calls i.flow) Flow.next) ≡ b → ends_at m c.at ≡ b
    unfolding ends_at flow_at
    ends b e = rw (none, ← is) e

    pub flow_marks : {n : ℕ} {l r t : List Bool} → not (eqb (flow_under m.header.calls i.flow) Flow.next) ≡ true → Marked n (names_mark m c.case i) l r → Marked n (λ p. eqb p (c.at + 1)) r t → Marked n (lead_mark m c.at) l t
    unfolding lead_mark
    flow_marks e a b =
        mark_as (lead_mark m c.at)
        (λ p _. sym (rw (ends true e, none, ← is, ← add-one c.at, ← ap (λ (x : Cursor). x.case) here)))
        (mark_then a b)

    pub flow_none : {n : ℕ} {l : List Bool} → not (eqb (flow_under m.header.calls i.flow) Flow.next) ≡ false → Marked n (lead_mark m c.at) l l
    unfolding lead_mark
    flow_none e = mark_none (lead_mark m c.at) (λ p _. rw (ends false e))
