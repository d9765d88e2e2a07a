-- How many edges a build gives.
--     flat-length                            one list more
--     flat_most, flat_each                   lists of so many members at most, and of one or none
--     count_next, word_most                  one number more, which counts for one at most
--     transfer_one                           a transfer gives one edge where it is resolved
--     kept_next, kept_more, kept_between     the positions that keep their exception edge: one more, and those of a handler
--     handler_most, exceptions_most          a bound for the exception edges of a handler, and of all
--     none-given, switch_count, two_count    the edges of an instruction: none are given in mode 0; those of its slots
--     normal_most, normal_fits               a bound for the normal edges, and a number for those up to a position
--     normal_next                            one position more
--     other_modes_within                     outside of mode 0 there are never too many
--     count-within, count_beyond             the check of 19, by how many there are of both kinds
--     Bounds, bounds                         the bounds of mode 0
-- Assumes nothing.
use mathlib.Core.Bool.{Bool, true, false, cond, ◌||◌}
use mathlib.Core.Path.{◌≡◌, refl, sym, ap, ◌∙◌}
use mathlib.Core.Logic.{⊎_elim}
use mathlib.Core.List.{List, [], ◌∷◌}
use Prim.Native.Nat.{ℕ, zero, suc, ◌+◌, ◌*◌, ◌<◌, ◌≤◌}
use native.Mathlib.Decide.{ℕ_discrete}
use native.Mathlib.Nat.{mul-le-mul_right}
use native.Mathlib.Numerals.{add-one}
use native.Mathlib.Omega.{arith}
use borrow.Author.Tests.{le-leb, lt-leb}
use lib.Dec.{eqb, leb}
use lib.ListN.{length, get_or, set, length-append}
use lib.Seq.{get_or-set_same, get_or-set_other}
use Rattle.image.specs.Refusal.{Refusal, clear, refused, unless}
use Rattle.image.specs.Image.{Image}
use Rattle.image.specs.Deal.{total}
use Rattle.image.specs.Accepted.{Accepted}
use Rattle.image.specs.Record.{case_from}
use Rattle.image.specs.declared.record.Case.{Case}
use Rattle.image.specs.declared.record.Handler.{Handler}
use Rattle.image.specs.declared.record.Instruction.{Instruction}
use Rattle.graph.specs.declared.record.Edge.{Edge}
use Rattle.graph.specs.Fold.{flat, count, some}
use Rattle.graph.specs.Flow.{Flow}
use Rattle.graph.specs.Transfer.{word, table_of, size, instruction_at, flow_at, Transfer, case_transfer, transfer_at, slot_count, is_given, given_at, given}
use Rattle.graph.specs.Leaders.{handler_at}
use Rattle.graph.specs.Blocks.{is_terminator}
use Rattle.graph.specs.Edges.{resolved, transfer_edges, given_edge, edges_at, normal_edges, range_first, range_size, unwind_edges, exception_edges, edges_of}
use Rattle.graph.specs.Build.{handler_check}
use Rattle.graph.proofs.FoldLaws.{decided, flat-more, count_yes, count_no, count_add}
use Rattle.graph.proofs.TableLaws.{length-entries, below_most}
use Rattle.builder.specs.declared.cursor.Cursor.{Cursor}
use Rattle.builder.specs.Cursor.{Sourced, cases_before, sources_before, edges_before, cursor_at}
use Rattle.builder.specs.Ranges.{Ranges}
use Rattle.builder.specs.Marks.{Leading}
use Rattle.builder.specs.Emit.{slot_edges, case_at, handler_edges}
use Rattle.builder.specs.EdgeCount.{kept_before, Kept}
use Rattle.builder.proofs.CursorLaws.{edges_length, cases_length, edges_most}
use Rattle.builder.proofs.EdgeLaws.{given_edges, flow_edges, switch_edges, two_edges, case_next, terminator_is}
use Rattle.builder.proofs.ExceptionLaws.{entry_resolved, range_first_law, range_size_law, other_modes, handlers_edges}
use Rattle.builder.specs.declared.ranges.Positions.{Positions}
use Rattle.std.specs.Option.{is_some}
use Rattle.builder.specs.Emit.{Resolves}
use Rattle.std.proofs.Common.{Ok, Option, Some, None}
use mir.Val.{bool_byte}

pub bit_most : (b : Bool) → bool_byte b ≤ 1
bit_most true = omega arith
bit_most false = omega arith

counted : (b : Bool) (n : ℕ) → n + bool_byte b ≡ word b + n
counted true n = omega arith
counted false n = omega arith

-- ---- lists

module _ {A : Type 0} (f : ℕ → List A) where
  pub flat-length : (n : ℕ) → length (flat f (n + 1)) ≡ length (flat f n) + length (f n)
  flat-length n = ap length (flat-more f n) ∙ length-append (flat f n) (f n)

  pub flat_most : (k n : ℕ) → ((i : ℕ) → i < n → length (f i) ≤ k) → length (flat f n) ≤ n * k
  unfolding flat
  flat_most k zero each = omega arith
  flat_most k (suc n) each = rw length-append (omega (arith, flat_most k n (λ i h. each i (omega arith)), each n (omega arith)))

  flat_front : (p n : ℕ) → p ≤ n → length (flat f p) ≤ length (flat f n)
  unfolding flat
  flat_front p zero h = let e : p ≡ 0 = omega arith in rw e (omega arith)
  flat_front p (suc n) h =
      elim (ℕ_discrete p (suc n)) [
        | yes e ↦ rw e (omega arith)
        | no less ↦ rw (length-append (flat f n) (f n)) (omega (arith, flat_front p n (omega arith)))
      ]

  pub flat_each : (g : ℕ → Bool) (n : ℕ) → ((i : ℕ) → i < n → length (f i) ≡ word (g i)) → length (flat f n) ≡ count g n
  unfolding flat count
  flat_each g zero each = refl
  flat_each g (suc n) each =
      let rest = flat_each g n (λ i h. each i (omega arith)) in
      let here = each n (omega arith) in
      rw length-append
      (⊎_elim
      (λ e. omega (arith, here ∙ ap (λ (b : Bool). word b) e, count_yes g n e))
      (λ e. omega (arith, here ∙ ap (λ (b : Bool). word b) e, count_no g n e))
      (decided (g n)))

pub count_next : (f : ℕ → Bool) (n : ℕ) → count f (n + 1) ≡ word (f n) + count f n
count_next f n =
    rw (add-one n) (⊎_elim (λ e. rw e (omega (arith, count_yes f n e))) (λ e. rw e (omega (arith, count_no f n e))) (decided (f n)))

-- ---- transfers, and the positions that keep their exception edge

pub word_most : (b : Bool) → word b ≤ 1
word_most true = omega arith
word_most false = omega arith

module _ (m : Image) where
  pub transfer_one : (p : ℕ) (x : Transfer) → length (transfer_edges m p x) ≡ word (resolved m x)
  unfolding transfer_edges
  transfer_one p x = ⊎_elim (λ e. rw e) (λ e. rw e) (decided (resolved m x))

  transfer_most : (p : ℕ) (x : Transfer) → length (transfer_edges m p x) ≤ 1
  transfer_most p x = omega (arith, transfer_one p x, word_most (resolved m x))

  unwind_most : (h p : ℕ) → length (unwind_edges m h p) ≤ 1
  unfolding unwind_edges
  unwind_most h p = ⊎_elim (λ e. rw e (transfer_most p _)) (λ e. rw e (omega arith)) (decided (instruction_at m p).keeps)

  unwind_one : (h p : ℕ) → handler_check m h ≡ clear → length (unwind_edges m h p) ≡ word (instruction_at m p).keeps
  unfolding unwind_edges
  unwind_one h p passed =
      ⊎_elim
      (λ e. rw e (transfer_one p _ ∙ ap (λ (b : Bool). word b) (entry_resolved m h (handler_at m h) refl _ refl passed)))
      (λ e. rw e)
      (decided (instruction_at m p).keeps)

  pub kept_next : (p k : ℕ) (i : Instruction) → i ≡ instruction_at m p → k ≡ kept_before m p → k + bool_byte i.keeps ≡ kept_before m (p + 1)
  kept_next p k i i-is k_is = rw (i-is, k_is) (counted (instruction_at m p).keeps (kept_before m p) ∙ sym (count_next (λ q. (instruction_at m q).keeps) p))

  pub kept_more : (kept : List ℕ) (p v : ℕ) → p + 1 < length kept → v ≡ kept_before m (p + 1) → ((q : ℕ) → q ≤ p → get_or kept q 0 ≡ kept_before m q)
      → (q : ℕ) → q ≤ p + 1 → get_or (set kept (p + 1) v) q 0 ≡ kept_before m q
  kept_more kept p v fits v_is before q h =
      elim (ℕ_discrete q (p + 1)) [
        | yes same ↦ rw same (get_or-set_same kept (p + 1) v 0 fits ∙ v_is)
        | no other ↦ get_or-set_other kept (p + 1) q v 0 other ∙ before q (omega arith)
      ]

  pub kept_between : (kept : List ℕ) (h : ℕ) (p : Positions) (a : Handler) → Kept m kept → handler_check m h ≡ clear → a ≡ handler_at m h → Ranges (table_of m) a.start a.end (Ok p)
      → get_or kept p.past 0 ≡ get_or kept p.first 0 + length (handler_edges m h)
  kept_between kept h p a k passed is range =
      let size_is = length-entries m.instructions in
      let from = range_first_law m h a is p range in
      let many = range_size_law m h a is p range in
      let split : p.past ≡ range_first m h + range_size m h = omega arith in
      let edges = flat_each (λ i. unwind_edges m h (range_first m h + i)) (λ i. (instruction_at m (range_first m h + i)).keeps) (range_size m h) (λ i _. unwind_one h (range_first m h + i) passed) in
      rw (k.before p.past (omega arith), split, k.before p.first (omega arith), from, edges)
      (count_add (λ q. (instruction_at m q).keeps) (range_first m h) (range_size m h))

  pub handler_most : (h : ℕ) → length (handler_edges m h) ≤ size m
  unfolding range_size
  handler_most h =
      omega
      (arith, flat_most (λ i. unwind_edges m h (range_first m h + i)) 1 (range_size m h) (λ i _. unwind_most h (range_first m h + i)), below_most (table_of m) (handler_at m h).end, length-entries m.instructions)

  pub exceptions_most : m.header.mode ≡ 0 → length (exception_edges m) ≤ length m.handlers * size m
  exceptions_most e = rw (handlers_edges m e) (flat_most (λ h. handler_edges m h) (size m) (length m.handlers) (λ h _. handler_most h))

-- ---- normal edges

pub none-given : (m : Image) → Accepted m → m.header.mode ≡ 0 → (length m.edges ≡ 0) × ((p : ℕ) → is_given m p ≡ false)
unfolding is_given some total
none-given m h mode =
    let none : m.sources ≡ [] = h.not_given (omega arith) in
    (sym (rw none at h.edges_add), λ p. rw none)

module _ (m : Image) (h : Sourced m) (c : Cursor) (at : c ≡ cursor_at m c.at) (here : c.at < size m) (i : Instruction) (is : i ≡ instruction_at m c.at) where
  pub switch_count : flow_at m c.at ≡ Flow.switch
      → length (slot_edges m c.at (slot_count m c.at)) ≡ word (resolved m (transfer_at m c.at 0)) + count (λ k. resolved m (case_transfer (get_or m.cases (c.case + k) (case_from [] 0)) k)) i.cases
  switch_count e =
      let p = c.at in
      let cases = cases_length m h p here in
      rw (switch_edges m p e, length-append, transfer_one m p (transfer_at m p 0), cases, is)
      (ap (λ (n : ℕ). word (resolved m (transfer_at m p 0)) + n)
      (flat_each (λ k. transfer_edges m p (case_at m p k)) (λ k. resolved m (case_transfer (get_or m.cases (c.case + k) (case_from [] 0)) k)) (instruction_at m p).cases
      (λ k hk. transfer_one m p (case_at m p k) ∙ ap (λ (x : Case). word (resolved m (case_transfer x k))) (sym (case_next m h c at here k hk)))))

  pub two_count : (flow_at m c.at ≡ Flow.switch → ⊥)
      → length (slot_edges m c.at (slot_count m c.at)) ≡ word (resolved m (transfer_at m c.at 0)) + word (resolved m (transfer_at m c.at 1))
  two_count e =
      let p = c.at in
      rw (two_edges m p e, length-append, transfer_one m p (transfer_at m p 0), transfer_one m p (transfer_at m p 1))

module _ (m : Image) (h : Sourced m) where
  module _ (p : ℕ) (hp : p < size m) where
    edges_given : is_given m p ≡ true → edges_before m (suc p) ≡ edges_before m p + length (given_at m p)
    unfolding edges_before sources_before total
    edges_given e = rw (count_yes (λ q. is_given m q) p e, edges_length m h p hp e)

    edges_flow : is_given m p ≡ false → edges_before m (suc p) ≡ edges_before m p
    unfolding edges_before sources_before
    edges_flow e = rw (count_no (λ q. is_given m q) p e)

    slots_most : slot_count m p ≤ 2 + (instruction_at m p).cases
    unfolding slot_count
    slots_most =
        let cases = cases_length m h p hp in
        ⊎_elim (λ e. rw e (omega arith)) (λ e. rw e (omega arith)) (decided (eqb (flow_at m p) Flow.switch))

    here_most : length (edges_at m p) + edges_before m p ≤ 2 + (instruction_at m p).cases + edges_before m (suc p)
    here_most =
        ⊎_elim
        (λ e. rw (given_edges m p e)
        (omega (arith, edges_given e, flat_most (λ k. given_edge m p (given m p k) ∷ []) 1 (length (given_at m p)) (λ k _. omega arith))))
        (λ e. rw (flow_edges m p e)
        (omega (arith, edges_flow e, slots_most, flat_most (λ k. transfer_edges m p (transfer_at m p k)) 1 (slot_count m p) (λ k _. transfer_most m p _))))
        (decided (is_given m p))

    end_most : length (cond (is_terminator m p) (edges_at m p) []) + edges_before m p ≤ 2 + (instruction_at m p).cases + edges_before m (suc p)
    end_most =
        ⊎_elim
        (λ e. rw e here_most)
        (λ e. rw e (omega (arith, here_most)))
        (decided (is_terminator m p))

  normal_before : (p : ℕ) → p ≤ size m → length (flat (λ q. cond (is_terminator m q) (edges_at m q) []) p) ≤ 2 * p + cases_before m p + edges_before m p
  unfolding flat cases_before total
  normal_before zero hp = omega arith
  normal_before (suc p) hp = rw length-append (omega (arith, normal_before p (omega arith), end_most p (omega arith)))

  pub normal_most : length (normal_edges m) ≤ 2 * size m + length m.cases + length m.edges
  unfolding normal_edges cases_before instruction_at
  normal_most = omega (arith, normal_before (size m) (omega arith), h.accepted.cases_add, edges_most m h (size m) (omega arith))

  pub normal_fits : (p : ℕ) → p < size m → length (flat (λ q. cond (is_terminator m q) (edges_at m q) []) (p + 1)) ≤ 2048
  unfolding normal_edges
  normal_fits p hp =
      let x = h.accepted in
      omega
      (arith, flat_front (λ q. cond (is_terminator m q) (edges_at m q) []) (p + 1) (size m) (omega arith), normal_most, x.instructions_most, x.cases_most, x.edges_most)

-- one position more, by the leaders' marks
pub normal_next : (m : Image) (marks : List Bool) (p n at edges more : ℕ) (ends : Bool) → Leading m marks → p < n → n ≡ size m → at ≡ p → edges ≡ length (flat (λ q. cond (is_terminator m q) (edges_at m q) []) p)
    → ends ≡ (eqb (p + 1) n || get_or marks (p + 1) false) → more ≡ length (cond ends (edges_at m at) []) → edges + more ≡ length (flat (λ q. cond (is_terminator m q) (edges_at m q) []) (p + 1))
normal_next m marks p n at edges more ends leading here n_is at-is edges-is ends_is more-is =
    let f : ℕ → List Edge = λ q. cond (is_terminator m q) (edges_at m q) [] in
    let last : ends ≡ is_terminator m p = rw (ends_is, n_is) (terminator_is m p marks leading (omega arith)) in
    rw (edges-is, more-is, last, at-is) (sym (flat-length f p))

-- ---- the check of 19

module _ (m : Image) where
  both_lengths : length (edges_of m) ≡ length (normal_edges m) + length (exception_edges m)
  unfolding edges_of
  both_lengths = length-append (normal_edges m) (exception_edges m)

  module _ (r : Refusal) where
    pub count-within : length (normal_edges m) + length (exception_edges m) ≤ 4096 → unless (leb (length (edges_of m)) 4096) r ≡ clear
    count-within h = rw (le-leb (length (edges_of m)) 4096 (omega (arith, both_lengths)))

    pub counted_within : length (normal_edges m) + length (exception_edges m) ≤ 4096 → clear ≡ unless (leb (length (edges_of m)) 4096) r
    counted_within h = sym (count-within h)

    pub count_beyond : 4096 < length (normal_edges m) + length (exception_edges m) → unless (leb (length (edges_of m)) 4096) r ≡ refused r
    count_beyond h = rw (lt-leb (length (edges_of m)) 4096 (omega (arith, both_lengths)))

    pub other_modes_within : Sourced m → (m.header.mode ≡ 0 → ⊥) → unless (leb (length (edges_of m)) 4096) r ≡ clear
    other_modes_within h mode =
        let x = h.accepted in
        count-within (rw (other_modes m mode) (omega (arith, normal_most m h, x.instructions_most, x.cases_most, x.edges_most)))

-- the bounds as the code has them, of n instructions, c cases and h handlers, with a normal edges and b exceptional ones
pub record Bounds (n c h a b : ℕ) : Type 0 where
  pub instructions : n ≤ 512
  pub cases : c ≤ 512
  pub handlers : h ≤ 32
  pub pairs : h * n ≤ 16384
  pub normal : a ≤ 2 * n + c
  pub exceptional : b ≤ h * n

pub bounds : (m : Image) → Sourced m → m.header.mode ≡ 0 → {n c h : ℕ} → n ≡ size m → c ≡ length m.cases → h ≡ length m.handlers → Bounds n c h (length (normal_edges m)) (length (exception_edges m))
bounds m s mode n-is c-is h-is =
    let x = s.accepted in
    rw (n-is, c-is, h-is)
    (record {
      instructions = x.instructions_most;
      cases = x.cases_most;
      handlers = x.handlers_most;
      pairs = omega (arith, mul-le-mul_right (size m) x.handlers_most, x.instructions_most);
      normal = omega (arith, normal_most m s, (none-given m x mode).0);
      exceptional = exceptions_most m mode;
    })

pub resolved_told : (m : Image) (x : Transfer) (r : Option ℕ) → Resolves m x r → bool_byte (is_some r) ≡ word (resolved m x)
resolved_told m x (Some k) found = rw found.0
resolved_told m x None none = rw none
