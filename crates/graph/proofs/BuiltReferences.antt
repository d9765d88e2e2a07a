-- Each handler of a build names one place of one region.
--     sum_counts                      a sum of counts, where each number is counted once
--     count_front, count-below        the first number apart; a count grows
--     same_self, same_with            a range is its own, and what has it has no other
--     same_count                      the handlers of a range, counted the other way round
--     hits_drafts, one_draft          one draft has the range of a handler
--     region_found                    the region of a handler is that draft's
--     place-below, place_differs      its place there is one of the region's, and no other handler's
--     references_match_law                rule 21
-- Assumes nothing.
use mathlib.Core.Path.{◌≡◌, refl, sym, ap, ap₂, ◌∙◌}
use mathlib.Core.Bool.{Bool, true, false, cond, not, ◌&&◌, ◌||◌, or-false}
use mathlib.Core.Logic.{⊎_elim}
use mathlib.Core.List.{List, [], ◌∷◌}
use Prim.Native.Nat.{ℕ, zero, suc, ◌+◌, ◌-◌, ◌<◌}
use native.Mathlib.Decide.{ℕ_discrete}
use native.Mathlib.Omega.{arith}
use borrow.Author.Tests.{eqb-true, eq-eqb, ne_eqb, lt-ltb}
use lib.Dec.{eqb, leb}
use lib.ListN.{length, get_or}
use Rattle.image.specs.Image.{Image}
use Rattle.graph.specs.declared.record.Region.{Region}
use Rattle.graph.specs.Fold.{some, all, count, sum}
use Rattle.graph.specs.Transfer.{word}
use Rattle.graph.specs.Leaders.{handler_at}
use Rattle.graph.specs.Graph.{region}
use Rattle.graph.specs.Regions.{same_range, is_draft, span, place, drafts_below, drafts, draft, region_at, regions_of, region_in, handler_record}
use Rattle.graph.specs.Build.{graph_from}
use Rattle.graph.specs.WellFormed.{names_handler, same_reference, references_match}
use Rattle.graph.proofs.FoldLaws.{decided, some_same, some_at, count_yes, count_no, count_same, count_add}
use Rattle.graph.proofs.RuleLaws.{some_from, all_from, both_true}
use Rattle.graph.proofs.BuiltRegions.{region-count, handler-count, region_is, handler_is}

-- ---- sums of counts

sum_same : (f g : ℕ → ℕ) (n : ℕ) → ((i : ℕ) → i < n → f i ≡ g i) → sum f n ≡ sum g n
unfolding sum
sum_same f g zero same = refl
sum_same f g (suc n) same = ap₂ ◌+◌ (sum_same f g n (λ i h. same i (omega arith))) (same n (omega arith))

module _ (p : ℕ → ℕ → Bool) where
  sum-none : (k : ℕ) → sum (λ r. count (p r) 0) k ≡ 0
  unfolding sum count
  sum-none zero = refl
  sum-none (suc k) = omega (arith, sum-none k)

  sum_more : (n k : ℕ) → sum (λ r. count (p r) (suc n)) k ≡ sum (λ r. count (p r) n) k + count (λ r. p r n) k
  unfolding sum count
  sum_more n zero = refl
  sum_more n (suc k) =
      ⊎_elim
      (λ e. omega (arith, sum_more n k, count_yes (p k) n e, count_yes (λ r. p r n) k e))
      (λ e. omega (arith, sum_more n k, count_no (p k) n e, count_no (λ r. p r n) k e))
      (decided (p k n))

  -- each of n is counted by one of k
  sum_counts : (n k : ℕ) → ((h : ℕ) → h < n → count (λ r. p r h) k ≡ 1) → sum (λ r. count (p r) n) k ≡ n
  sum_counts zero k one = sum-none k
  sum_counts (suc n) k one = omega (arith, sum_more n k, sum_counts n k (λ h lt. one h (omega arith)), one n (omega arith))

-- ---- counts

count_front : (f : ℕ → Bool) (n : ℕ) → count f (suc n) ≡ word (f 0) + count (λ k. f (suc k)) n
unfolding count
count_front f zero = ⊎_elim (λ e. rw e) (λ e. rw e) (decided (f 0))
count_front f (suc n) = omega (arith, count_front f n)

count-below : (f : ℕ → Bool) (h n : ℕ) → h < n → f h ≡ true → count f h < count f n
count-below f h n lt e =
    let rest : n ≡ suc h + (n - suc h) = omega arith in
    omega (arith, ap (count f) rest, count_add f (suc h) (n - suc h), count_yes f h e)

-- ---- ranges

eqb_sym : (a b : ℕ) → eqb a b ≡ eqb b a
eqb_sym a b =
    elim (ℕ_discrete a b) [ yes e ↦ eq-eqb a b e ∙ sym (eq-eqb b a (sym e)) | no n ↦ ne_eqb a b n ∙ sym (ne_eqb b a (λ e. n (sym e))) ]

module _ (m : Image) where
  pub same_count : (h n : ℕ) → count (same_range m h) n ≡ count (λ g. same_range m g h) n
  unfolding same_range
  same_count h n =
      count_same (same_range m h) (λ g. same_range m g h) n
      (λ g _. ap₂ ◌&&◌ (eqb_sym (handler_at m h).start (handler_at m g).start) (eqb_sym (handler_at m h).end (handler_at m g).end))

  same_self : (a : ℕ) → same_range m a a ≡ true
  unfolding same_range
  same_self a = ap₂ ◌&&◌ (eq-eqb (handler_at m a).start (handler_at m a).start refl) (eq-eqb (handler_at m a).end (handler_at m a).end refl)

  same_with : (a b : ℕ) → same_range m a b ≡ true → (c : ℕ) → same_range m c a ≡ same_range m c b
  unfolding same_range
  same_with a b e c =
      let parts = both_true _ _ e in
      ap₂ (λ (x y : ℕ). eqb (handler_at m c).start x && eqb (handler_at m c).end y) (eqb-true _ _ parts.0) (eqb-true _ _ parts.1)

  -- ---- the drafts of a range

  -- how many of a list have the range of h
  abbrev hits : ℕ → List ℕ → ℕ
  hits h gs = count (λ r. same_range m (get_or gs r 0) h) (length gs)

  hits_cons : (h g : ℕ) (gs : List ℕ) → hits h (g ∷ gs) ≡ word (same_range m g h) + hits h gs
  hits_cons h g gs = count_front (λ r. same_range m (get_or (g ∷ gs) r 0) h) (length gs)

  hits_place : (h d : ℕ) (gs : List ℕ) → hits h (place m d gs) ≡ word (same_range m d h) + hits h gs
  unfolding place
  hits_place h d [] = hits_cons h d []
  hits_place h d (g ∷ gs) = go (leb (span m d) (span m g)) (hits_place h d gs)
    where
      go : (b : Bool) → hits h (place m d gs) ≡ word (same_range m d h) + hits h gs → hits h (cond b (g ∷ place m d gs) (d ∷ g ∷ gs)) ≡ word (same_range m d h) + hits h (g ∷ gs)
      go true e = omega (arith, e, hits_cons h g (place m d gs), hits_cons h g gs)
      go false e = hits_cons h d (g ∷ gs)

  hits_drafts : (h k : ℕ) → hits h (drafts_below m k) ≡ word (some (λ g. same_range m g h) k)
  unfolding drafts_below is_draft some count
  hits_drafts h zero = refl
  hits_drafts h (suc k) = go (same_range m k h) (some (λ g. same_range m g k) k) refl refl (hits_drafts h k)
    where
      agree : same_range m k h ≡ true → some (λ g. same_range m g h) k ≡ some (λ g. same_range m g k) k
      agree e = some_same (λ g. same_range m g h) (λ g. same_range m g k) k (λ g lt. sym (same_with k h e g))

      go : (s d : Bool) → same_range m k h ≡ s → some (λ g. same_range m g k) k ≡ d → hits h (drafts_below m k) ≡ word (some (λ g. same_range m g h) k)
          → hits h (cond (not d) (place m k (drafts_below m k)) (drafts_below m k)) ≡ word (some (λ g. same_range m g h) k || s)
      go true true e d ih = ih ∙ rw (agree e ∙ d)
      go true false e d ih = hits_place h k (drafts_below m k) ∙ rw (ih, e, agree e ∙ d)
      go false true e d ih = ih ∙ rw or-false
      go false false e d ih = hits_place h k (drafts_below m k) ∙ rw (ih, e, or-false) (omega arith)

  -- the first draft of a range
  region_found : (h : ℕ) (gs : List ℕ) → 0 < hits h gs → (region_in m gs h < length gs) × (same_range m (get_or gs (region_in m gs h) 0) h ≡ true)
  unfolding region_in count
  region_found h [] some = absurd (omega arith)
  region_found h (g ∷ gs) some = go (same_range m g h) refl (region_found h gs)
    where
      go : (b : Bool) → same_range m g h ≡ b → (0 < hits h gs → (region_in m gs h < length gs) × (same_range m (get_or gs (region_in m gs h) 0) h ≡ true))
          → (cond b 0 (suc (region_in m gs h)) < suc (length gs)) × (same_range m (get_or (g ∷ gs) (cond b 0 (suc (region_in m gs h))) 0) h ≡ true)
      go true e rest = (omega arith, e)
      go false e rest = let r = rest (omega (arith, rw e at (hits_cons h g gs))) in (omega arith, r.1)

  module _ (h : ℕ) (lt : h < length m.handlers) where
    one_draft : hits h (drafts m) ≡ 1
    unfolding drafts
    one_draft = hits_drafts h (length m.handlers) ∙ rw (some_at (λ g. same_range m g h) (length m.handlers) h lt (same_self h))

    region-below : region_in m (drafts m) h < length (drafts m)
    region-below = (region_found h (drafts m) (omega (arith, one_draft))).0

    region-same : same_range m (draft m (region_in m (drafts m) h)) h ≡ true
    region-same = (region_found h (drafts m) (omega (arith, one_draft))).1

  -- ---- places

  place-below : (h d : ℕ) → h < length m.handlers → same_range m d h ≡ true → count (λ g. same_range m g h) h < count (same_range m d) (length m.handlers)
  place-below h d lt e =
      let n = length m.handlers in
      let turned = same_count d n ∙ count_same (λ g. same_range m g d) (λ g. same_range m g h) n (λ g l. same_with d h e g) in
      omega (arith, turned, count-below (λ g. same_range m g h) h n lt (same_self h))

  place_differs : (i h : ℕ) → i < h → same_range m i h ≡ true → count (λ g. same_range m g i) i < count (λ g. same_range m g h) h
  place_differs i h lt e =
      omega (arith, count_same (λ g. same_range m g i) (λ g. same_range m g h) i (λ g l. same_with i h e g), count-below (λ g. same_range m g h) i h lt e)

  -- ---- rule 21

  names : (h : ℕ) → h < length m.handlers → names_handler (graph_from m) h ≡ true
  unfolding names_handler handler_record region_at graph_from
  names h lt =
      let below = region-below h lt in
      rw (handler_is m h lt, region_is m (region_in m (drafts m) h) below, region-count m)
      (ap₂ ◌&&◌ (lt-ltb _ _ below) (lt-ltb _ _ (place-below h _ lt (region-same h lt))))

  differs : (i h : ℕ) → i < h → h < length m.handlers → same_reference (graph_from m) i h ≡ false
  unfolding same_reference handler_record
  differs i h lt in-h =
      rw (handler_is m i (omega arith), handler_is m h in-h)
      (elim (ℕ_discrete (region_in m (drafts m) i) (region_in m (drafts m) h)) [
        | yes e ↦
            let d = draft m (region_in m (drafts m) h) in
            let of_i : same_range m d i ≡ true = rw e at (region-same i (omega arith)) in
            let same : same_range m i h ≡ true = sym (same_with d h (region-same h in-h) i) ∙ same_with d i of_i i ∙ same_self i in
            rw (eq-eqb _ _ e, ne_eqb (count (λ g. same_range m g i) i) (count (λ g. same_range m g h) h) (omega (arith, place_differs i h lt same)))
        | no ne ↦ rw (ne_eqb _ _ ne)
      ])

  counts : sum (λ r. (region (graph_from m) r).handlers) (length (regions_of m)) ≡ length m.handlers
  unfolding region_at
  counts =
      rw (region-count m)
      (sum_same (λ r. (region (graph_from m) r).handlers) (λ r. count (same_range m (draft m r)) (length m.handlers)) (length (drafts m)) (λ r h. ap (λ (x : Region). x.handlers) (region_is m r h))
      ∙ sum_counts (λ r. same_range m (draft m r)) (length m.handlers) (length (drafts m)) one_draft)

  pub references_match_law : references_match (graph_from m) ≡ true
  unfolding references_match graph_from all some
  references_match_law =
      rw (handler-count m)
      (ap₂ ◌&&◌
      (ap₂ ◌&&◌
      (all_from _ 0 (length m.handlers) (omega arith) refl (λ h le lt. names h lt))
      (all_from _ 0 (length m.handlers) (omega arith) refl (λ h le lt. ap not (some_from _ 0 h (omega arith) refl (λ i l less. differs i h less lt)))))
      (eq-eqb _ _ counts))
