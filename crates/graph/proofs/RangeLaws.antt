-- Ranges of a table that passed 3 to 5.
--     rising, ends_above              its addresses rise, and each end stands above its address
--     code_end_append, code_end_more  the greatest end of two lists, and one entry more
--     below_code_end                  no start stands at or behind the greatest end
--     below_less                      a range that starts at an instruction has one
-- Assumes nothing.
use mathlib.Core.Bool.{true, cond, false≢true}
use mathlib.Core.Path.{◌≡◌, refl, ap}
use mathlib.Core.Logic.{⊎_elim}
use mathlib.Core.List.{List, [], ◌∷◌, ◌++◌}
use Prim.Native.Nat.{ℕ, zero, suc, ◌+◌, ◌<◌, ◌≤◌, max}
use native.Mathlib.Numerals.{add-one}
use native.Mathlib.Decide.{dec_lt, ℕ_discrete}
use native.Mathlib.Omega.{arith}
use borrow.Author.Tests.{ltb-true, ne_eqb, lt-ltb, le-ltb}
use lib.Dec.{eqb, ltb}
use lib.ListN.{length, get_or, take}
use lib.Seq.{take-suc}
use Rattle.image.specs.Refusal.{Check, clear, refusal, ◌then◌, unless}
use Rattle.image.proofs.Checks.{then_left, then_right, unless_clear}
use Rattle.graph.specs.declared.record.TableEntry.{TableEntry}
use Rattle.graph.specs.Table.{entry_at, is_start, below, code_end_of}
use Rattle.graph.specs.Lookup.{Rising}
use Rattle.graph.specs.Build.{order_check, instruction_check, table_check}
use Rattle.graph.proofs.FoldLaws.{decided}
use Rattle.graph.proofs.TableLaws.{rises}
use Rattle.graph.proofs.CheckLaws.{checks_at}

module _ (t : List TableEntry) (passed : table_check t ≡ clear) where
  sized : (p : ℕ) → Check
  sized p = unless (ltb (entry_at t p).address (entry_at t p).end) (refusal 4 (entry_at t p).address 0)

  ended : (p : ℕ) → Check
  ended p = unless (eqb (entry_at t p).has_end 1) (refusal 3 (entry_at t p).address 0)

  at : (p : ℕ) → p < length t → instruction_check t p ≡ clear
  unfolding table_check
  at p h = checks_at (instruction_check t) (length t) p passed h

  pub ends_above : (p : ℕ) → p < length t → (entry_at t p).address < (entry_at t p).end
  unfolding instruction_check sized ended
  ends_above p h =
      ltb-true _ _ (unless_clear _ _ (then_right (ended p) (sized p) (then_left (ended p then sized p) (order_check t p) (at p h))))

  next_above : (p : ℕ) → suc p < length t → (entry_at t p).address < (entry_at t (suc p)).address
  unfolding instruction_check sized ended order_check
  next_above p h =
      ltb-true _ _ (unless_clear _ _ (then_right (ended (suc p) then sized (suc p)) (order_check t (suc p)) (at (suc p) h)))

  pub rising : Rising t
  rising = rises (λ p. (entry_at t p).address) (length t) next_above

pub code_end_append : (t u : List TableEntry) → code_end_of (t ++ u) ≡ max (code_end_of t) (code_end_of u)
unfolding code_end_of
code_end_append [] u = omega arith
code_end_append (e ∷ t) u = omega (arith, code_end_append t u)

pub code_end_more : (t : List TableEntry) (i : ℕ) → i < length t → code_end_of (take (i + 1) t) ≡ max (code_end_of (take i t)) (entry_at t i).end
unfolding entry_at code_end_of
code_end_more t i h =
    let d : TableEntry = record { address = 0; end = 0; has_end = 0; keeps = 0; flow = 0 } in
    rw (add-one i, take-suc t i d h) (omega (arith, code_end_append (take i t) (get_or t i d ∷ [])))

end_within : (t : List TableEntry) (p : ℕ) → p < length t → (entry_at t p).end ≤ code_end_of t
unfolding code_end_of entry_at
end_within [] p h = absurd (omega arith)
end_within (e ∷ t) zero h = omega arith
end_within (e ∷ t) (suc p) h = omega (arith, end_within t p (omega arith))

below_all : (t : List TableEntry) (a : ℕ) → ((p : ℕ) → p < length t → (entry_at t p).address < a) → below t a ≡ length t
unfolding below entry_at
below_all [] a h = refl
below_all (e ∷ t) a h = rw (lt-ltb e.address a (h zero (omega arith))) (ap suc (below_all t a (λ p lt. h (suc p) (omega arith))))

pub below_code_end : (t : List TableEntry) → table_check t ≡ clear → below t (code_end_of t) ≡ length t
below_code_end t passed = below_all t (code_end_of t) (λ p h. omega (arith, ends_above t passed p h, end_within t p h))

-- one entry more in front
grows : (e a b x y k : ℕ) → a ≤ b → x + k ≤ y → cond (ltb e a) (suc x) x + k ≤ cond (ltb e b) (suc y) y
grows e a b x y k h le =
    elim (dec_lt e a) [
      | yes l ↦ rw (lt-ltb e a l, lt-ltb e b (omega arith)) (omega arith)
      | no g ↦ rw (le-ltb e a (omega arith)) (⊎_elim (λ l. rw l (omega arith)) (λ l. rw l (omega arith)) (decided (ltb e b)))
    ]

below_rises : (t : List TableEntry) (a b : ℕ) → a ≤ b → below t a + 0 ≤ below t b
unfolding below
below_rises [] a b h = omega arith
below_rises (e ∷ t) a b h = grows e.address a b (below t a) (below t b) 0 h (below_rises t a b h)

pub below_less : (t : List TableEntry) (a b : ℕ) → is_start t a ≡ true → a < b → below t a + 1 ≤ below t b
unfolding below is_start
below_less [] a b s h = absurd (false≢true s)
below_less (e ∷ t) a b s h =
    elim (ℕ_discrete e.address a) [
      | yes same ↦ rw (le-ltb e.address a (omega arith), lt-ltb e.address b (omega arith)) (omega (arith, below_rises t a b (omega arith)))
      | no other ↦ grows e.address a b (below t a) (below t b) 1 (omega arith) (below_less t a b (rw (ne_eqb e.address a other) at s) h)
    ]
