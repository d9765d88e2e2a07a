-- How many records there are.
--     flat-length-below            lists one behind the other are as long as their bounds add up to
--     calls_few, unresolved_few    the calls and the unresolved records of an image fit
-- Assumes nothing.
use mathlib.Core.Bool.{Bool, true, false, cond, ◌||◌}
use mathlib.Core.Path.{◌≡◌, refl}
use mathlib.Core.List.{List, []}
use Prim.Native.Nat.{ℕ, zero, suc, ◌+◌, ◌≤◌, ◌<◌}
use native.Mathlib.Nat.{le_trans}
use native.Mathlib.Decide.{ℕ_discrete}
use native.Mathlib.Omega.{arith}
use borrow.Author.Tests.{ne_eqb}
use lib.Dec.{T, eqb}
use lib.ListN.{length, length-append}
use Rattle.image.specs.Image.{Image}
use Rattle.image.specs.Deal.{total}
use Rattle.graph.specs.Fold.{flat, all}
use Rattle.graph.specs.Flow.{Flow, From, slots, slots_of, falls_through, is_call}
use Rattle.graph.specs.Transfer.{size, instruction_at, flow_at, Transfer, slot_transfer, cases_at, transfer_at, slot_count, is_given}
use Rattle.graph.specs.Blocks.{is_terminator}
use Rattle.graph.specs.Edges.{resolved, transfer_unresolved, unresolved_at, unresolved_of, call_at, calls_of}
use Rattle.graph.proofs.FoldLaws.{all_at}
use Rattle.builder.specs.Cursor.{Sourced}
use Rattle.builder.specs.Emit.{slot_unresolved, case_at, case_unresolved}
use Rattle.builder.proofs.CursorLaws.{cases_length}
use Rattle.builder.proofs.EdgeLaws.{switch_unresolved, two_unresolved, flow_most}

pub flat-length-below : {A : Type 0} (f : ℕ → List A) (g : ℕ → ℕ) (n : ℕ) → ((i : ℕ) → i < n → length (f i) ≤ g i) → length (flat f n) ≤ total g n
unfolding flat total
flat-length-below f g zero each = omega arith
flat-length-below f g (suc n) each =
    omega (arith, length-append (flat f n) (f n), flat-length-below f g n (λ i h. each i (omega arith)), each n (omega arith))

-- one more for each number
total-suc : (g : ℕ → ℕ) (n : ℕ) → total (λ i. suc (g i)) n ≡ n + total g n
unfolding total
total-suc g zero = refl
total-suc g (suc n) = omega (arith, total-suc g n)

-- lists of one record at most
flat_few : {A : Type 0} (f : ℕ → List A) (n : ℕ) → ((i : ℕ) → length (f i) ≤ 1) → length (flat f n) ≤ n
unfolding flat
flat_few f zero each = omega arith
flat_few f (suc n) each = omega (arith, length-append (flat f n) (f n), flat_few f n each, each n)

-- a list under a test, or none
or_none : {A : Type 0} (b : Bool) (l : List A) (n : ℕ) → length l ≤ n → length (cond b l []) ≤ n
or_none true l n h = h
or_none false l n h = omega arith

none_or : {A : Type 0} (b : Bool) (l : List A) (n : ℕ) → length l ≤ n → length (cond b [] l) ≤ n
none_or true l n h = omega arith
none_or false l n h = h

call_one : (m : Image) (p : ℕ) → length (call_at m p) ≤ 1
unfolding call_at
call_one m p = or_none (is_call (instruction_at m p).flow) _ 1 (omega arith)

pub calls_few : (m : Image) → size m ≤ 512 → length (calls_of m) ≤ 512
unfolding calls_of
calls_few m most =
    or_none (eqb m.header.calls 1) (flat (call_at m) (size m)) 512
    (le_trans (flat_few (call_at m) (size m) (call_one m)) most)

-- ---- unresolved records

-- the second slot of each flow is empty or falls through
second_falls : (f : ℕ) → f ≤ 12 → (eqb (slots_of f).1.from From.nowhere || falls_through (slots_of f).1.role) ≡ true
unfolding all slots_of slots falls_through
second_falls f most = holds _ (all_at (λ k. eqb (slots_of k).1.from From.nowhere || falls_through (slots_of k).1.role) 13 f tt (omega arith))
  where
    holds : (b : Bool) → T b → b ≡ true
    holds true h = refl
    holds false h = elim h [ ]

module _ (m : Image) (h : Sourced m) (p : ℕ) (here : p < size m) where
  at_most_one : (x : Transfer) → length (transfer_unresolved m p x) ≤ 1
  unfolding transfer_unresolved
  at_most_one x = none_or (eqb x.from From.nowhere || falls_through x.role || resolved m x) _ 1 (omega arith)

  flow_within : flow_at m p ≤ 12
  unfolding flow_at
  flow_within = flow_most m p (instruction_at m p) refl (flow_at m p) refl h.accepted

  second_none : (flow_at m p ≡ Flow.switch → ⊥) → transfer_unresolved m p (transfer_at m p 1) ≡ []
  unfolding transfer_unresolved transfer_at slot_transfer
  second_none other = rw (ne_eqb (flow_at m p) Flow.switch other, second_falls (flow_at m p) flow_within)

  slots_few : length (slot_unresolved m p (slot_count m p)) ≤ suc (instruction_at m p).cases
  slots_few =
      elim (ℕ_discrete (flow_at m p) Flow.switch) [
        | yes e ↦
            rw (switch_unresolved m p e, length-append (transfer_unresolved m p (transfer_at m p 0)) (case_unresolved m p (length (cases_at m p))))
            (omega (arith, at_most_one (transfer_at m p 0), flat_few (λ i. transfer_unresolved m p (case_at m p i)) (length (cases_at m p)) (λ i. at_most_one (case_at m p i)), cases_length m h p here))
        | no ne ↦
            rw (two_unresolved m p ne, second_none ne, length-append (transfer_unresolved m p (transfer_at m p 0)) [])
            (omega (arith, at_most_one (transfer_at m p 0)))
      ]

  unresolved_below : length (cond (is_terminator m p) (unresolved_at m p) []) ≤ suc (instruction_at m p).cases
  unfolding unresolved_at
  unresolved_below = or_none (is_terminator m p) _ _ (none_or (is_given m p) _ _ slots_few)

pub unresolved_few : (m : Image) → Sourced m → length (unresolved_of m) ≤ 1024
unfolding unresolved_of instruction_at
unresolved_few m h =
    omega (
      arith,
      flat-length-below (λ p. cond (is_terminator m p) (unresolved_at m p) []) (λ p. suc (instruction_at m p).cases) (size m) (unresolved_below m h),
      total-suc (λ p. (instruction_at m p).cases) (size m),
      h.accepted.cases_add,
      h.accepted.cases_most,
      h.accepted.instructions_most,
    )
