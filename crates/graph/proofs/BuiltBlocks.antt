-- The blocks of a build: how many they are, and which one each instruction is in.
--     no_blocks, all_blocks          the blocks of an image without instructions, and with some
--     leads_next, last_ends          whether a block ends at an instruction, by the next one
--     ended_one, ended_none          the blocks that end up to an instruction, where it ends one and where not
--     block_exists, start_exists     the block of an instruction, and of a start
--     blocks_some, blocks_most       there is one, and no more than instructions, but for the empty one
--     entry_is, entry_none, entry_exists     the block at which the sequence is entered
-- Assumes nothing.
use mathlib.Core.Bool.{true, false}
use mathlib.Core.Path.{◌≡◌, refl, sym, ap, ◌∙◌}
use mathlib.Core.Logic.{⊎_elim}
use mathlib.Core.List.{[], ◌∷◌, ◌++◌, append-nil}
use Prim.Native.Nat.{ℕ, zero, suc, ◌+◌, ◌-◌, ◌≤◌, ◌<◌}
use native.Mathlib.Decide.{ℕ_discrete}
use native.Mathlib.Omega.{arith}
use borrow.Author.Tests.{eq-eqb, ne_eqb, lt-ltb}
use lib.ListN.{length, length-append}
use Rattle.image.specs.Refusal.{clear}
use Rattle.image.specs.Image.{Image}
use Rattle.graph.specs.Fold.{flat, count}
use Rattle.graph.specs.Table.{is_start, below}
use Rattle.graph.specs.Transfer.{table_of, size}
use Rattle.graph.specs.Leaders.{is_leader}
use Rattle.graph.specs.Blocks.{is_terminator, first_of, block_of, block_at, block_end, blocks_of, entry_of}
use Rattle.graph.specs.Build.{build_check, graph_from}
use Rattle.graph.specs.WellFormed.{is_block}
use Rattle.graph.proofs.FoldLaws.{decided, count_yes, count_no, count_add, count_le}
use Rattle.graph.proofs.TableLaws.{length-entries, below_most}
use Rattle.graph.proofs.RangeLaws.{below_less}
use Rattle.graph.proofs.BuiltChecks.{parts, input_clear, entry_starts}

module _ (m : Image) where
  pub no_blocks : size m ≡ 0 → blocks_of m ≡ record { first = 0; count = 0 } ∷ []
  unfolding blocks_of
  no_blocks e = rw (eq-eqb (size m) 0 e)

  pub all_blocks : (size m ≡ 0 → ⊥) → blocks_of m ≡ flat (λ p. block_end m p) (size m)
  unfolding blocks_of
  all_blocks ne = rw (ne_eqb (size m) 0 ne)

  -- ---- the blocks that end up to an instruction

  module _ (p : ℕ) where
    pub leads_next : suc p < size m → is_terminator m p ≡ is_leader m (suc p)
    unfolding is_terminator
    leads_next h = rw (ne_eqb (suc p) (size m) (λ same. omega arith))

    pub last_ends : suc p ≡ size m → is_terminator m p ≡ true
    unfolding is_terminator
    last_ends e = rw (eq-eqb (suc p) (size m) e)

    pub ended_one : is_terminator m p ≡ true → flat (λ q. block_end m q) (suc p) ≡ flat (λ q. block_end m q) p ++ (record { first = first_of m p; count = suc p - first_of m p } ∷ [])
    unfolding flat
    ended_one e = rw e

    pub ended_none : is_terminator m p ≡ false → flat (λ q. block_end m q) (suc p) ≡ flat (λ q. block_end m q) p
    unfolding flat
    ended_none e = rw e (append-nil (flat (λ q. block_end m q) p))

    longer : is_terminator m p ≡ true → length (flat (λ q. block_end m q) (suc p)) ≡ suc (length (flat (λ q. block_end m q) p))
    longer e = rw (ended_one e, length-append) (omega arith)

  -- those that end before p stand before the one that p is in
  ended : (p : ℕ) → p < size m → length (flat (λ q. block_end m q) p) ≡ block_of m p
  unfolding flat block_of count
  ended zero h = refl
  ended (suc p) h =
      ⊎_elim
      (λ e. longer p (leads_next p h ∙ e) ∙ ap suc (ended p (omega arith)) ∙ sym (count_yes (λ q. is_leader m (suc q)) p e))
      (λ e. ap length (ended_none p (leads_next p h ∙ e)) ∙ ended p (omega arith) ∙ sym (count_no (λ q. is_leader m (suc q)) p e))
      (decided (is_leader m (suc p)))

  -- ---- how many

  number_le : (p q : ℕ) → p ≤ q → block_of m p ≤ block_of m q
  unfolding block_of
  number_le p q h =
      let more : p + (q - p) ≡ q = omega arith in
      omega (arith, rw more at (count_add (λ k. is_leader m (suc k)) p (q - p)))

  how_many : (q : ℕ) → suc q ≡ size m → length (blocks_of m) ≡ suc (block_of m q)
  how_many q e =
      ap length (all_blocks (λ none. omega arith))
      ∙ ap (λ (n : ℕ). length (flat (λ p. block_end m p) n)) (sym e)
      ∙ longer q (last_ends q e)
      ∙ ap suc (ended q (omega arith))

  pub block_exists : (p : ℕ) → p < size m → block_of m p < length (blocks_of m)
  block_exists p h =
      let last : suc (size m - 1) ≡ size m = omega arith in
      omega (arith, how_many (size m - 1) last, number_le p (size m - 1) (omega arith))

  pub start_exists : (a : ℕ) → is_start (table_of m) a ≡ true → block_at m a < length (blocks_of m)
  unfolding block_at
  start_exists a s =
      block_exists (below (table_of m) a)
      (omega (arith, below_less (table_of m) a (suc a) s (omega arith), below_most (table_of m) (suc a), length-entries m.instructions))

  pub blocks_some : 1 ≤ length (blocks_of m)
  blocks_some =
      elim (ℕ_discrete (size m) 0) [ yes none ↦ rw (no_blocks none) (omega arith) | no ne ↦ omega (arith, block_exists 0 (omega arith)) ]

  pub blocks_most : size m ≤ 512 → length (blocks_of m) ≤ 512
  unfolding block_of
  blocks_most h =
      elim (ℕ_discrete (size m) 0) [
        | yes none ↦ rw (no_blocks none) (omega arith)
        | no ne ↦
            let last : suc (size m - 1) ≡ size m = omega arith in
            omega (arith, how_many (size m - 1) last, count_le (λ k. is_leader m (suc k)) (size m - 1))
      ]

  -- ---- the entry

  pub entry_is : m.header.has_entry ≡ true → block_at m m.header.entry ≡ entry_of m
  unfolding entry_of
  entry_is e = rw e

  pub entry_none : m.header.has_entry ≡ false → 0 ≡ entry_of m
  unfolding entry_of
  entry_none e = rw e

  pub entry_exists : build_check m ≡ clear → is_block (graph_from m) (graph_from m).entry ≡ true
  unfolding is_block graph_from
  entry_exists passed =
      lt-ltb (entry_of m) (length (blocks_of m))
      (⊎_elim
      (λ e. rw (← (entry_is e)) (start_exists m.header.entry (entry_starts m e (parts m (input_clear m passed)).entry)))
      (λ e. rw (← (entry_none e)) blocks_some)
      (decided m.header.has_entry))
