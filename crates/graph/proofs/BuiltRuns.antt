-- The blocks of a build cover the table in order, and none is empty but an empty table's.
--     covers_built     'built blocks cover the table in order'
--     copies_built     all are built, so that none has to repeat another
--     none-empty       'only an empty table's block is empty'
-- Assumes nothing.
use mathlib.Core.Bool.{true, not, or-true}
use mathlib.Core.Path.{◌≡◌, refl, sym, ap, ◌∙◌}
use mathlib.Core.Logic.{⊎_elim, inl, inr}
use mathlib.Core.List.{List, [], ◌∷◌, ◌++◌}
use Prim.Native.Nat.{ℕ, zero, suc, ◌+◌, ◌-◌, ◌≤◌, ◌<◌}
use native.Mathlib.Decide.{ℕ_discrete}
use native.Mathlib.Omega.{arith}
use borrow.Author.Tests.{eq-eqb, ne_eqb, lt-ltb, le-leb}
use lib.Dec.{ltb}
use lib.ListN.{length, get_or}
use Rattle.image.specs.Image.{Image}
use Rattle.graph.specs.declared.record.Block.{Block}
use Rattle.graph.specs.Graph.{Graph, block}
use Rattle.graph.specs.Fold.{flat, all, sum}
use Rattle.graph.specs.Transfer.{size}
use Rattle.graph.specs.Leaders.{is_leader}
use Rattle.graph.specs.Blocks.{is_terminator, first_of, block_end, blocks_of}
use Rattle.graph.specs.Build.{graph_from}
use Rattle.graph.specs.WellFormed.{filled, is_built, covers_table, copies_repeat, none_empty}
use Rattle.graph.proofs.FoldLaws.{decided}
use Rattle.graph.proofs.TableLaws.{length-entries}
use Rattle.graph.proofs.RuleLaws.{all_from, filled_le, built_all, in_place, covers_end, runs_built}
use Rattle.graph.proofs.EachLaws.{Each, each_append, each_in, each_all}
use Rattle.graph.proofs.BuiltBlocks.{no_blocks, all_blocks, leads_next, last_ends, ended_one, ended_none}

-- ---- blocks that cover the positions from a up to z, one behind the other

abbrev Runs : ℕ → List Block → ℕ → Type 0
Runs a [] z = a ≡ z
Runs a (b ∷ l) z = (b.first ≡ a) × Runs (a + b.count) l z

runs_append : (l k : List Block) (a y z : ℕ) → Runs a l y → Runs y k z → Runs a (l ++ k) z
runs_append [] k a y z hl hk = rw hl hk
runs_append (b ∷ l) k a y z hl hk = (hl.0, runs_append l k (a + b.count) y z hl.1 hk)

abbrev Filled : Block → Type 0
Filled b = 0 < b.count

sum_front : (f : ℕ → ℕ) (n : ℕ) → sum f (suc n) ≡ f 0 + sum (λ (i : ℕ). f (suc i)) n
unfolding sum
sum_front f zero = omega arith
sum_front f (suc n) = omega (arith, sum_front f n)

module _ (d : Block) where
  starts : (l : List Block) (a z b : ℕ) → Runs a l z → b < length l → (get_or l b d).first ≡ a + sum (λ (i : ℕ). (get_or l i d).count) b
  unfolding sum
  starts [] a z b runs h = absurd (omega arith)
  starts (x ∷ l) a z zero runs h = omega (arith, runs.0)
  starts (x ∷ l) a z (suc b) runs h =
      omega (arith, starts l (a + x.count) z b runs.1 (omega arith), sum_front (λ (i : ℕ). (get_or (x ∷ l) i d).count) b)

  ends : (l : List Block) (a z : ℕ) → Runs a l z → a + sum (λ (i : ℕ). (get_or l i d).count) (length l) ≡ z
  unfolding sum
  ends [] a z runs = omega arith
  ends (x ∷ l) a z runs =
      omega (arith, ends l (a + x.count) z runs.1, sum_front (λ (i : ℕ). (get_or (x ∷ l) i d).count) (length l))

-- ---- of a graph

module _ (g : Graph) (runs : Runs 0 g.blocks (length g.table)) where
  full : filled g (length g.blocks) ≡ length g.table
  unfolding filled
  full = omega (arith, ends (record { first = 0; count = 0 }) g.blocks 0 (length g.table) runs)

  first_is : (b : ℕ) → b < length g.blocks → (block g b).first ≡ filled g b
  unfolding filled
  first_is b h = omega (arith, starts (record { first = 0; count = 0 }) g.blocks 0 (length g.table) b runs h)

  in_table : (b : ℕ) → b < length g.blocks → filled g (suc b) ≤ length g.table
  in_table b h = omega (arith, filled_le g (suc b) (length g.blocks) h, full)

  in_place_law : (b : ℕ) → b < length g.blocks → in_place g b ≡ true
  in_place_law b h =
      rw (eq-eqb (block g b).first (filled g b) (first_is b h), le-leb (filled g (suc b)) (length g.table) (in_table b h)) (or-true (not (is_built g b)))

  covers : covers_table g ≡ true
  unfolding all
  covers =
      sym (covers_end g (all_from (in_place g) 0 (length g.blocks) (omega arith) refl (λ b le h. in_place_law b h)) (omega (arith, full)))
      ∙ eq-eqb (filled g (length g.blocks)) (length g.table) full

  -- where no block is empty all are built
  is-built : Each Filled g.blocks → (b : ℕ) → b < length g.blocks → is_built g b ≡ true
  unfolding filled sum
  is-built each b h =
      built_all g b (inr (omega (arith, in_table b h, each_in Filled (record { first = 0; count = 0 }) g.blocks b each h))) b (omega arith)

copies : (g : Graph) → ((b : ℕ) → b < length g.blocks → is_built g b ≡ true) → copies_repeat g ≡ true
unfolding copies_repeat
copies g built =
    runs_built g (length g.blocks) (omega arith, λ b h. built b h ∙ sym (lt-ltb b (length g.blocks) h))

-- ---- of a build

module _ (m : Image) where
  first_le : (p : ℕ) → first_of m p ≤ p
  unfolding first_of
  first_le zero = omega arith
  first_le (suc p) = ⊎_elim (λ e. rw e (omega arith)) (λ e. rw e (omega (arith, first_le p))) (decided (is_leader m (suc p)))

  module _ (p : ℕ) where
    -- the block that ends at p goes on to p
    runs_one : is_terminator m p ≡ true → Runs 0 (flat (λ q. block_end m q) p) (first_of m p) → Runs 0 (flat (λ q. block_end m q) (suc p)) (suc p)
    runs_one e runs =
        rw (ended_one m p e) (runs_append (flat (λ q. block_end m q) p) _ 0 (first_of m p) (suc p) runs (refl, omega (arith, first_le p)))

    filled_one : is_terminator m p ≡ true → Each Filled (flat (λ q. block_end m q) p) → Each Filled (flat (λ q. block_end m q) (suc p))
    filled_one e each =
        rw (ended_one m p e) (each_append Filled (flat (λ q. block_end m q) p) _ each (omega (arith, first_le p), tt))

  runs_ended : (p : ℕ) → p < size m → Runs 0 (flat (λ q. block_end m q) p) (first_of m p) × Each Filled (flat (λ q. block_end m q) p)
  unfolding flat first_of
  runs_ended zero h = (refl, tt)
  runs_ended (suc p) h =
      let before = runs_ended p (omega arith) in
      ⊎_elim
      (λ e. let ends = leads_next m p h ∙ e in (rw e (runs_one p ends before.0), filled_one p ends before.1))
      (λ e. rw (ended_none m p (leads_next m p h ∙ e), e) before)
      (decided (is_leader m (suc p)))

  runs_some : (q : ℕ) → suc q ≡ size m → Runs 0 (blocks_of m) (size m) × Each Filled (blocks_of m)
  runs_some q e =
      let before = runs_ended q (omega arith) in
      rw (all_blocks m (λ none. omega arith), ← e) (runs_one q (last_ends m q e) before.0, filled_one q (last_ends m q e) before.1)

  runs_all : Runs 0 (blocks_of m) (size m)
  runs_all =
      elim (ℕ_discrete (size m) 0) [
        | yes none ↦ rw (no_blocks m none, none) (refl, omega arith)
        | no ne ↦ (runs_some (size m - 1) (omega arith)).0
      ]

  runs_graph : Runs 0 (graph_from m).blocks (length (graph_from m).table)
  unfolding graph_from
  runs_graph = rw (length-entries m.instructions) runs_all

  pub covers_built : covers_table (graph_from m) ≡ true
  covers_built = covers (graph_from m) runs_graph

  pub copies_built : copies_repeat (graph_from m) ≡ true
  unfolding graph_from
  copies_built =
      copies (graph_from m)
      (elim (ℕ_discrete (size m) 0) [
        | yes none ↦ λ b h. built_all (graph_from m) 0 (inl refl) b (omega (arith, ap length (no_blocks m none)))
        | no ne ↦ is-built (graph_from m) runs_graph (runs_some (size m - 1) (omega arith)).1
      ])

  pub none-empty : none_empty (graph_from m) ≡ true
  unfolding none_empty graph_from
  none-empty =
      rw (length-entries m.instructions)
      (elim (ℕ_discrete (size m) 0) [
        | yes none ↦ rw (eq-eqb (size m) 0 none) (eq-eqb (length (blocks_of m)) 1 (ap length (no_blocks m none)))
        | no ne ↦ rw (ne_eqb (size m) 0 ne)
            (each_all Filled (record { first = 0; count = 0 }) (λ x. ltb 0 x.count) (λ x h. lt-ltb 0 x.count h) (blocks_of m) (runs_some (size m - 1) (omega arith)).1)
      ])
