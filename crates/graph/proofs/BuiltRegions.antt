-- The regions and handlers of a graph that a build makes.
--     region-count, handler-count     how many there are
--     regions_most                    no more regions than handlers
--     region_is, handler_is           region r and handler h
--     parents_exist_law                   a parent of a region is a region
--     set-within                      a set of blocks below n is within n
--     entry_clear                     a handler that passed has an entry
--     region_blocks_exist_law             a region's blocks, and a handler's entry, are blocks
-- Assumes nothing.
use mathlib.Core.Path.{◌≡◌, refl, ap, ap₂}
use mathlib.Core.Bool.{Bool, true, false, cond, ◌&&◌, ◌||◌}
use mathlib.Core.Logic.{◌⊎◌, inl, inr}
use mathlib.Core.List.{List, [], ◌∷◌}
use Prim.Native.Nat.{ℕ, zero, suc, ◌+◌, ◌-◌, ◌*◌, ◌/◌, ◌%◌, ◌^◌, ◌≤◌, ◌<◌}
use native.Mathlib.Decide.{ℕ_discrete, dec_lt}
use native.Mathlib.Omega.{arith}
use borrow.Author.Tests.{lt-ltb}
use lib.Bits.{bit_or, or_lt}
use lib.Dec.{eqb, ltb, leb}
use lib.Pow.{pow_pos, pow-lt}
use lib.ListN.{length, get_or, get_or-replicate}
use lib.Seq.{get_or-set_same, get_or-set_other, set_out}
use Rattle.image.specs.Refusal.{clear, refusal, unless, checks}
use Rattle.image.specs.Image.{Image}
use Rattle.image.proofs.Checks.{then_right, unless_clear}
use Rattle.graph.specs.Fold.{all}
use Rattle.graph.specs.Table.{is_start, range_check}
use Rattle.graph.specs.Transfer.{table_of, size}
use Rattle.graph.specs.Leaders.{handler_at}
use Rattle.graph.specs.BlockSet.{including}
use Rattle.graph.specs.Blocks.{block_of, block_at, blocks_of}
use Rattle.graph.specs.Edges.{range_first, range_size}
use Rattle.graph.specs.Graph.{region, handler}
use Rattle.graph.specs.Regions.{is_draft, span, place, drafts_below, drafts, draft, contains, smaller, parent_below, set_below, region_at, regions_of, handler_record, handlers_of}
use Rattle.graph.specs.Build.{handler_check, graph_from}
use Rattle.graph.specs.WellFormed.{is_block, within, region_blocks_exist, parents_exist}
use Rattle.graph.proofs.FoldLaws.{length-table, get_or_table}
use Rattle.graph.proofs.TableLaws.{length-entries, below_most}
use Rattle.graph.proofs.CheckLaws.{checks_at}
use Rattle.graph.proofs.RuleLaws.{all_from}

module _ (m : Image) where
  pub region-count : length (regions_of m) ≡ length (drafts m)
  unfolding regions_of
  region-count = length-table (region_at m) (length (drafts m))

  pub handler-count : length (handlers_of m) ≡ length m.handlers
  unfolding handlers_of
  handler-count = length-table (handler_record m) (length m.handlers)

  pub region_is : (r : ℕ) → r < length (drafts m) → region (graph_from m) r ≡ region_at m r
  unfolding graph_from regions_of
  region_is r h = get_or_table (region_at m) (length (drafts m)) r _ h

  pub handler_is : (h : ℕ) → h < length m.handlers → handler (graph_from m) h ≡ handler_record m h
  unfolding graph_from handlers_of
  handler_is h lt = get_or_table (handler_record m) (length m.handlers) h _ lt

  -- ---- drafts are handlers

  length-place : (h : ℕ) (gs : List ℕ) → length (place m h gs) ≡ suc (length gs)
  unfolding place
  length-place h [] = refl
  length-place h (g ∷ gs) = go (leb (span m h) (span m g)) (length-place h gs)
    where
      go : (b : Bool) → length (place m h gs) ≡ suc (length gs) → length (cond b (g ∷ place m h gs) (h ∷ g ∷ gs)) ≡ suc (suc (length gs))
      go true e = ap suc e
      go false e = refl

  drafts_most : (n : ℕ) → length (drafts_below m n) ≤ n
  unfolding drafts_below
  drafts_most zero = omega arith
  drafts_most (suc n) = go (is_draft m n) (drafts_most n)
    where
      go : (b : Bool) → length (drafts_below m n) ≤ n → length (cond b (place m n (drafts_below m n)) (drafts_below m n)) ≤ suc n
      go true h = omega (arith, length-place n (drafts_below m n))
      go false h = omega arith

  pub regions_most : length m.handlers ≤ 32 → length (regions_of m) ≤ 32
  unfolding drafts
  regions_most h = omega (arith, region-count, drafts_most (length m.handlers))

  -- ---- parents

  -- none, or one region below n
  parent_is : (r n : ℕ) → (parent_below m r n ≡ []) ⊎ ((j : ℕ) × (j < n) × (parent_below m r n ≡ j ∷ []))
  unfolding parent_below
  parent_is r zero = inl refl
  parent_is r (suc n) = go (contains m (draft m n) (draft m r) && smaller m (parent_below m r n) n) (parent_is r n)
    where
      go : (b : Bool) → (parent_below m r n ≡ []) ⊎ ((j : ℕ) × (j < n) × (parent_below m r n ≡ j ∷ []))
          → (cond b (n ∷ []) (parent_below m r n) ≡ []) ⊎ ((j : ℕ) × (j < suc n) × (cond b (n ∷ []) (parent_below m r n) ≡ j ∷ []))
      go true before = inr (n, omega arith, refl)
      go false (inl e) = inl e
      go false (inr (j, h, e)) = inr (j, omega arith, e)

  parent_exists : (r n : ℕ) → (eqb (length (parent_below m r n)) 0 || ltb (get_or (parent_below m r n) 0 0) n) ≡ true
  parent_exists r n = go (parent_is r n)
    where
      go : (parent_below m r n ≡ []) ⊎ ((j : ℕ) × (j < n) × (parent_below m r n ≡ j ∷ [])) → (eqb (length (parent_below m r n)) 0 || ltb (get_or (parent_below m r n) 0 0) n) ≡ true
      go (inl e) = rw e
      go (inr p) = rw p.2 (lt-ltb p.0 n p.1)

  pub parents_exist_law : parents_exist (graph_from m) ≡ true
  unfolding parents_exist all graph_from region_at
  parents_exist_law =
      all_from _ 0 (length (regions_of m)) (omega arith) refl
      (λ r le h. rw (region_is r (rw region-count at h), region-count) (parent_exists r (length (drafts m))))

-- ---- blocks

-- word by word
Within : ℕ → List ℕ → Type 0
Within n s = (w : ℕ) → w < 16 → get_or s w 0 < 2 ^ (n - 64 * w)

within-including : (n b : ℕ) (s : List ℕ) → b < n → Within n s → Within n (including s b)
unfolding Within including
within-including n b s lt each w h =
    let v = bit_or (get_or s (b / 64) 0) (2 ^ (b % 64)) in
    elim (ℕ_discrete w (b / 64)) [
      | yes e ↦
          let word = rw e at (each w h) in
          rw e
          (elim (dec_lt (b / 64) (length s)) [
            | yes l ↦ rw (get_or-set_same s (b / 64) v 0 l) (or_lt (n - 64 * (b / 64)) (get_or s (b / 64) 0) (2 ^ (b % 64)) word (pow-lt (omega arith)))
            | no g ↦ rw (set_out s (b / 64) v (omega arith)) word
          ])
      | no ne ↦ rw (get_or-set_other s (b / 64) w v 0 ne) (each w h)
    ]

within-set : (f : ℕ → ℕ) (n k : ℕ) → ((i : ℕ) → i < k → f i < n) → Within n (set_below f k)
unfolding Within set_below
within-set f n zero below = λ w h. rw (get_or-replicate {A = ℕ} 16 w 0 0 h) (pow_pos (n - 64 * w))
within-set f n (suc k) below = within-including n (f k) (set_below f k) (below k (omega arith)) (within-set f n k (λ i h. below i (omega arith)))

pub set-within : (f : ℕ → ℕ) (n k : ℕ) → ((i : ℕ) → i < k → f i < n) → within n (set_below f k) ≡ true
unfolding Within within all
set-within f n k below = all_from _ 0 16 (omega arith) refl (λ w le h. lt-ltb _ _ (within-set f n k below w h))

module _ (m : Image) where
  pub entry_clear : (h : ℕ) → handler_check m h ≡ clear → is_start (table_of m) (handler_at m h).entry ≡ true
  unfolding handler_check
  entry_clear h passed = unless_clear _ (refusal 13 (handler_at m h).entry 0) (then_right (range_check (table_of m) (handler_at m h).start (handler_at m h).end) (unless (is_start (table_of m) (handler_at m h).entry) (refusal 13 (handler_at m h).entry 0)) passed)

  -- the positions of a range are in the table
  range_within : (h i : ℕ) → i < range_size m h → range_first m h + i < size m
  unfolding range_size
  range_within h i lt = omega (arith, below_most (table_of m) (handler_at m h).end, length-entries m.instructions)

  module _ (position : (p : ℕ) → p < size m → block_of m p < length (blocks_of m))
      (start : (a : ℕ) → is_start (table_of m) a ≡ true → block_at m a < length (blocks_of m))
      (passed : checks (handler_check m) (length m.handlers) ≡ clear) where
    protected : (r : ℕ) → r < length (drafts m) → within (length (blocks_of m)) (region (graph_from m) r).protected ≡ true
    unfolding region_at
    protected r h =
        rw (region_is m r h)
        (set-within (λ i. block_of m (range_first m (draft m r) + i)) (length (blocks_of m)) (range_size m (draft m r))
        (λ i lt. position (range_first m (draft m r) + i) (range_within (draft m r) i lt)))

    entry : (h : ℕ) → h < length m.handlers → is_block (graph_from m) (handler (graph_from m) h).entry ≡ true
    unfolding is_block graph_from handler_record
    entry h lt = rw (handler_is m h lt) (lt-ltb _ _ (start (handler_at m h).entry (entry_clear h (checks_at (handler_check m) (length m.handlers) h passed lt))))

    pub region_blocks_exist_law : region_blocks_exist (graph_from m) ≡ true
    unfolding region_blocks_exist graph_from all
    region_blocks_exist_law =
        rw (region-count m, handler-count m)
        (ap₂ ◌&&◌
        (all_from _ 0 (length (drafts m)) (omega arith) refl (λ r le h. protected r h))
        (all_from _ 0 (length m.handlers) (omega arith) refl (λ h le lt. entry h lt)))
