-- Rule 21 on a graph with more blocks, each of which repeats the run of one that stood: what it asks of the blocks.
--     within_more, block_up        a set of blocks is below more of them, and a block is one of them
--     regions_after                the blocks of regions exist
--     run_of                       each block has the run of one that stood
--     covers_after                 built blocks cover the table
--     copies_after                 copies repeat a built run
--     runs_after                   none is empty, where none is added to an empty table
use mathlib.Core.Path.{◌≡◌, refl, sym, ◌∙◌, ap}
use mathlib.Core.Logic.{◌⊎◌, inl, inr}
use mathlib.Core.Bool.{Bool, true, false, not, ◌&&◌, ◌||◌}
use mathlib.Core.List.Memᴰ
use mathlib.Core.List.{List, ◌++◌}
use Prim.Native.Nat.{ℕ, suc, ◌-◌, ◌*◌, ◌^◌, ◌≤◌, ◌<◌}
use native.Mathlib.Decide.{ℕ_discrete}
use native.Mathlib.Omega.{arith}
use borrow.Author.Tests.{eq-eqb, ne_eqb, eqb-true, lt-ltb, ltb-true, le-leb}
use lib.Dec.{eqb, ltb, leb}
use lib.ListN.{length, get_or, length-append}
use lib.Pow.{pow_mono}
use Rattle.graph.specs.declared.record.Block.{Block}
use Rattle.graph.specs.declared.record.Edge.{Edge}
use Rattle.graph.specs.Graph.{Graph, block as block_at, region, handler}
use Rattle.graph.specs.Fold.{some, all}
use Rattle.graph.specs.WellFormed.{is_block, within, region_blocks_exist, filled, is_built, covers_table, repeats, copies_repeat, none_empty}
use Rattle.graph.proofs.FoldLaws.{some_at, some_where}
use Rattle.graph.proofs.RuleLaws.{filled_le, covers_place, is_run}
use Rattle.addition.specs.Add.{extended}
use Rattle.addition.specs.Walk.{◌∈◌, Built}
use Rattle.addition.proofs.Lists.{and_both, and_true, or_either, or_right, mem_at, at_lt, at_get_or, mem_get_or}
use Rattle.addition.proofs.Sound.{all_at, all_so, Sound}
use Rattle.addition.proofs.After.{filled-after, built_up, built_down, old_block}

within_more : (m n : ℕ) (s : List ℕ) → m ≤ n → within m s ≡ true → within n s ≡ true
unfolding within
within_more m n s h e =
    all_so (λ (w : ℕ). ltb (get_or s w 0) (2 ^ (n - 64 * w))) 16
    (λ w k.
    lt-ltb (get_or s w 0) (2 ^ (n - 64 * w))
    (omega (arith, ltb-true (get_or s w 0) (2 ^ (m - 64 * w)) (all_at (λ (w : ℕ). ltb (get_or s w 0) (2 ^ (m - 64 * w))) 16 w e k), pow_mono {i = m - 64 * w} {j = n - 64 * w} (omega arith))))

-- a block of the graph
abbrev pub Old : Graph → Block → Type 0
Old g x = (c : ℕ) × (c < length g.blocks) × (x ≡ block_at g c)

module _ (g : Graph) (bs : List Block) (es : List Edge) where
  abbrev g' : Graph
  g' = extended g bs es

  more_blocks : length g.blocks ≤ length g'.blocks
  unfolding extended
  more_blocks = omega (arith, length-append g.blocks bs)

  pub block_up : (b : ℕ) → is_block g b ≡ true → is_block g' b ≡ true
  unfolding is_block
  block_up b e = lt-ltb b (length g'.blocks) (omega (arith, ltb-true b (length g.blocks) e, more_blocks))

  pub regions_after : region_blocks_exist g ≡ true → region_blocks_exist g' ≡ true
  unfolding region_blocks_exist extended
  regions_after e =
      let p = and_both (all protected (length g.regions)) (all entered (length g.handlers)) e in
      and_true
      (all_so _ (length g.regions) (λ r k. within_more (length g.blocks) (length g'.blocks) (region g r).protected more_blocks (all_at protected (length g.regions) r p.0 k)))
      (all_so _ (length g.handlers) (λ h k. block_up (handler g h).entry (all_at entered (length g.handlers) h p.1 k)))
    where
      protected : ℕ → Bool
      protected r = within (length g.blocks) (region g r).protected

      entered : ℕ → Bool
      entered h = is_block g (handler g h).entry

  pub covers_after : Sound g → covers_table g ≡ true → covers_table g' ≡ true
  unfolding covers_table extended
  covers_after sound e =
      and_true
      (all_so _ (length g'.blocks) (λ b h. in_place b h (is_built g' b) refl))
      (le-leb (length g'.table) (filled g' (length g'.blocks)) full)
    where
      full : length g'.table ≤ filled g' (length g'.blocks)
      full = omega (arith, sound.covered, filled-after g bs es (length g.blocks) (omega arith), filled_le g' (length g.blocks) (length g'.blocks) more_blocks)

      in_place : (b : ℕ) → b < length g'.blocks → (t : Bool) → is_built g' b ≡ t
          → (not t || (eqb (block_at g' b).first (filled g' b) && leb (filled g' (suc b)) (length g'.table))) ≡ true
      in_place b h false is = refl
      in_place b h true is =
          let x : Built g b = built_down g bs es sound b (record { exists = h; original = is }) in
          let old_run : block_at g' b ≡ block_at g b = old_block g bs es b x.exists in
          let p = and_both (eqb (block_at g b).first (filled g b)) (leb (filled g (suc b)) (length g.table)) (rw x.original at (covers_place g e b x.exists)) in
          let k : b < length g.blocks = x.exists in
          and_true
          (eq-eqb _ _ (ap (λ (y : Block). y.first) old_run ∙ eqb-true _ _ p.0 ∙ sym (filled-after g bs es b (omega arith))))
          (ap (λ (n : ℕ). leb n (length g.table)) (filled-after g bs es (suc b) (omega arith)) ∙ p.1)

  module _ (old : (x : Block) → x ∈ bs → Old g x) where
    run_of : (b : ℕ) → b < length g'.blocks → Old g (block_at g' b)
    unfolding extended
    run_of b h = go (Memᴰ.append_cases g.blocks (mem_get_or (g.blocks ++ bs) b _ h))
      where
        go : (block_at g' b ∈ g.blocks) ⊎ (block_at g' b ∈ bs) → Old g (block_at g' b)
        go (inl m) = let i = mem_at m in (i.0, at_lt g.blocks i.0 i.1, sym (at_get_or g.blocks i.0 _ i.1))
        go (inr m) = old (block_at g' b) m

    pub copies_after : copies_repeat g ≡ true → copies_repeat g' ≡ true
    unfolding copies_repeat repeats
    copies_after e = all_so _ (length g'.blocks) (λ b h. or_right (is_built g' b) (repeat b (run_of b h)))
      where
        -- a built block with the run
        here : (b c a : ℕ) → block_at g' b ≡ block_at g c → a < length g.blocks → is_built g a ≡ true → (block_at g a).first ≡ (block_at g c).first → (block_at g a).count ≡ (block_at g c).count
            → some (repeats g' b) (length g'.blocks) ≡ true
        here b c a e h is f n =
            let o : block_at g' a ≡ block_at g a = old_block g bs es a h in
            some_at (repeats g' b) (length g'.blocks) a (omega (arith, more_blocks))
            (and_true
            (and_true (built_up g bs es a (record { exists = h; original = is })).original (eq-eqb _ _ (ap (λ (x : Block). x.first) o ∙ f ∙ sym (ap (λ (x : Block). x.first) e))))
            (eq-eqb _ _ (ap (λ (x : Block). x.count) o ∙ n ∙ sym (ap (λ (x : Block). x.count) e))))

        repeat : (b : ℕ) → Old g (block_at g' b) → some (repeats g' b) (length g'.blocks) ≡ true
        repeat b o = go (or_either (is_built g o.0) (some (repeats g o.0) (length g.blocks)) (all_at (is_run g) (length g.blocks) o.0 e o.1))
          where
            go : (is_built g o.0 ≡ true) ⊎ (some (repeats g o.0) (length g.blocks) ≡ true) → some (repeats g' b) (length g'.blocks) ≡ true
            go (inl is) = here b o.0 o.0 o.2 o.1 is refl refl
            go (inr s) =
                let a = some_where (repeats g o.0) (length g.blocks) s in
                let p = and_both (is_built g a.0 && eqb (block_at g a.0).first (block_at g o.0).first) (eqb (block_at g a.0).count (block_at g o.0).count) a.2 in
                let q = and_both (is_built g a.0) (eqb (block_at g a.0).first (block_at g o.0).first) p.0 in
                here b o.0 a.0 o.2 a.1 q.0 (eqb-true _ _ q.1) (eqb-true _ _ p.1)

    pub runs_after : (length g.table ≡ 0 → length bs ≡ 0) → none_empty g ≡ true → none_empty g' ≡ true
    unfolding none_empty extended
    runs_after none e =
        elim (ℕ_discrete (length g.table) 0) [
          | yes z ↦
              rw (eq-eqb (length g.table) 0 z)
              (eq-eqb (length (g.blocks ++ bs)) 1 (omega (arith, length-append g.blocks bs, none z, eqb-true (length g.blocks) 1 (rw (eq-eqb (length g.table) 0 z) at e))))
          | no ne ↦
              rw (ne_eqb (length g.table) 0 ne)
              (all_so (λ (b : ℕ). ltb 0 (block_at g' b).count) (length (g.blocks ++ bs))
              (λ b h.
              let o = run_of b h in
              ap (λ (x : Block). ltb 0 x.count) o.2 ∙ all_at (λ (b : ℕ). ltb 0 (block_at g b).count) (length g.blocks) o.0 (rw (ne_eqb (length g.table) 0 ne) at e) o.1))
        ]
