-- The table and its blocks, as they are stored and numbered.
--     table_next                             which entry comes next
--     same_first, next_first                 where its block begins
--     block_ends, block_on                   the block that ends at a position, and none
--     number_is, numbers_more, stepped, one_more      the number of a block, from that of the position before
-- Assumes nothing.
use mathlib.Core.Bool.{Bool, true, false, cond}
use mathlib.Core.Path.{◌≡◌, refl, sym, ap, ap₂, ◌∙◌}
use mathlib.Core.Logic.{⊎_elim}
use mathlib.Core.List.{List, [], ◌∷◌, ◌++◌}
use Prim.Native.Nat.{ℕ, zero, suc, ◌+◌, ◌-◌, ◌≤◌, ◌<◌}
use mir.Val.{bool_byte}
use native.Mathlib.Numerals.{add-one}
use native.Mathlib.Decide.{ℕ_discrete}
use native.Mathlib.Omega.{arith}
use lib.ListN.{length, get_or, set, take}
use lib.Seq.{take-suc, get_or-set_same, get_or-set_other}
use Rattle.graph.specs.declared.store.Graph.{Graph as Lent}
use Rattle.image.specs.Record.{instruction_from}
use Rattle.image.specs.Image.{Image}
use Rattle.image.specs.declared.record.Instruction.{Instruction}
use Rattle.graph.specs.declared.record.TableEntry.{TableEntry}
use Rattle.graph.specs.Lent.{held_of}
use Rattle.graph.specs.Stored.{with_block, Stored}
use Rattle.graph.specs.Adding.{with_blocks}
use Rattle.graph.specs.Table.{entry_at}
use Rattle.graph.specs.Transfer.{table_entry, entries_of, size}
use Rattle.graph.specs.Leaders.{is_leader}
use Rattle.graph.specs.Blocks.{is_terminator, first_of, block_of, block_end}
use Rattle.graph.proofs.FoldLaws.{decided, count_yes, count_no}
use Rattle.graph.proofs.TableLaws.{length-entries, entry_is}
use Rattle.graph.proofs.AddingLaws.{blocks_none, block_one}
use Rattle.graph.proofs.BuiltBlocks.{leads_next}
use Rattle.builder.specs.Marks.{Leading}

pub table_next : (is : List Instruction) (p : ℕ) → p < length is → take (p + 1) (entries_of is) ≡ take p (entries_of is) ++ (table_entry (get_or is p (instruction_from [] 0)) ∷ [])
unfolding entry_at
table_next is p h =
    ap (λ (k : ℕ). take k (entries_of is)) (add-one p)
    ∙ take-suc (entries_of is) p _ (rw (length-entries is) h)
    ∙ ap (λ (e : TableEntry). take p (entries_of is) ++ (e ∷ [])) (entry_is is p)

module _ (m : Image) where
  module _ (p : ℕ) where
    pub same_first : is_terminator m p ≡ false → suc p < size m → first_of m (suc p) ≡ first_of m p
    unfolding first_of
    same_first e h = rw (sym (leads_next m p h) ∙ e)

    pub next_first : is_terminator m p ≡ true → suc p < size m → first_of m (suc p) ≡ suc p
    unfolding first_of
    next_first e h = rw (sym (leads_next m p h) ∙ e)

    pub block_on : (l : Lent) → is_terminator m p ≡ false → Stored l l (with_blocks (held_of l) (block_end m p))
    block_on l e = rw e (blocks_none l)

    pub block_ends : {l l' : Lent} (first : ℕ) → is_terminator m p ≡ true → first ≡ first_of m p → Stored l l' (with_block (held_of l) (record { first = first; count = p + 1 - first })) → Stored l l' (with_blocks (held_of l) (block_end m p))
    block_ends {l} {l'} first e here stored = rw (e, ← here, ← add-one p) (block_one _ stored)

  number_next : (p : ℕ) → 1 ≤ p → block_of m p ≡ cond (is_leader m p) (block_of m (p - 1) + 1) (block_of m (p - 1))
  unfolding block_of
  number_next zero h = absurd (omega arith)
  number_next (suc p) h =
      rw (back p)
      (⊎_elim
      (λ e. count_yes (λ q. is_leader m (suc q)) p e ∙ sym (add-one (block_of m p)) ∙ sym (ap (λ (b : Bool). cond b (block_of m p + 1) (block_of m p)) e))
      (λ e. count_no (λ q. is_leader m (suc q)) p e ∙ sym (ap (λ (b : Bool). cond b (block_of m p + 1) (block_of m p)) e))
      (decided (is_leader m (suc p))))
    where
      back : (p : ℕ) → suc p - 1 ≡ p
      back p = omega arith

  pub number_is : (marks : List Bool) → Leading m marks → (p block r : ℕ) → 1 ≤ p → p < size m → block ≡ block_of m (p - 1) → r ≡ cond (get_or marks p false) (block + 1) block → r ≡ block_of m p
  number_is marks leading p block r h within before now =
      now
      ∙ ap₂ (λ (b : Bool) (k : ℕ). cond b (k + 1) k) (leading p within) before
      ∙ sym (number_next p h)

  pub numbers_more : (numbers : List ℕ) (p r : ℕ) → p < length numbers → r ≡ block_of m p → ((q : ℕ) → q < p → get_or numbers q 0 ≡ block_of m q) → (q : ℕ) → q < p + 1 → get_or (set numbers p r) q 0 ≡ block_of m q
  numbers_more numbers p r h now before q lt =
      elim (ℕ_discrete q p) [
        | yes e ↦ rw e (get_or-set_same numbers p r 0 h ∙ now)
        | no ne ↦ get_or-set_other numbers p q r 0 ne ∙ before q (omega arith)
      ]

pub one_more : (b : Bool) (n : ℕ) → cond b (n + 1) n ≤ n + 1
one_more true n = omega arith
one_more false n = omega arith

pub stepped : (b : Bool) (n : ℕ) → n + bool_byte b ≡ cond b (n + 1) n
stepped true n = refl
stepped false n = omega arith
