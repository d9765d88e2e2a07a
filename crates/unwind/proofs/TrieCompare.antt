-- Comparisons of what stands in a route image.
--     tags_next, tags_end          the tags of a run from place i on: the first apart, and none
--     number_cmp, then_cmp         what `cmp` answers of numbers, and `then_with` behind it
--     first_decides, second_decides     one comparison behind another
--     compared_from, calls_start, calls_apart, calls_next, calls_done     two runs compared from place i on
--     ends_handlers, ends_apart    ends compared by their numbers
--     tagged_first, tagged_second, branches_first     the tags decide, or what comes after them
-- Assumes nothing.
use mathlib.Core.Path.{◌≡◌, refl, sym, ap, ◌∙◌}
use mathlib.Core.Bool.{Bool, true, false, cond, false≢true}
use mathlib.Core.List.{[], ◌∷◌}
use Prim.Native.Nat.{ℕ, suc, ◌+◌, ◌-◌, ◌≤◌, ◌<◌, min, compare, Ordering}
use native.Mathlib.Nat.{add-zero, sub-zero}
use native.Mathlib.Decide.{ℕ_discrete}
use native.Mathlib.Omega.{arith}
use borrow.Author.Tests.{eq-eqb, ne_eqb}
use lib.Dec.{eqb}
use Rattle.std.specs.declared.cmp.Ordering.{Ordering as StdOrdering}
use Rattle.std.specs.declared.cmp.Ordering.TheVariants.{Less, Equal, Greater}
use Rattle.std.specs.Ordering.{MatchOrdering, nat_cmp, is_ne}
use Rattle.std.specs.Cmp.{ranked}
use Rattle.image.specs.Image.{RouteImage}
use Rattle.image.specs.Deal.{handler, propagate, resume, end_of}
use Rattle.image.specs.declared.record.Path.{Path}
use Rattle.addition.specs.Order.{Tagged, ◌and_then◌, compare_tags, compare_ends, compare_tagged}
use Rattle.unwind.specs.declared.tries.store.Branch.{Branch}
use Rattle.unwind.specs.declared.tries.compare.Kind.{Kind}
use Rattle.unwind.specs.declared.tries.compare.Kind.TheVariants.{Edges, Ends}
use Rattle.unwind.specs.Nodes.{step_in, tags_in, edge_of, end_at}
use Rattle.unwind.specs.Interning.{ordering_of, ordered, meaning}
use Rattle.unwind.proofs.TrieOrder.{number_lt, number_gt, number_eq}

pub number_cmp : (a b : ℕ) (o : StdOrdering) → o ≡ nat_cmp a b → ordering_of o ≡ compare a b
number_cmp a b o e = go o (ranked a b o e)
  where
    go : (o : StdOrdering) → MatchOrdering o (a < b) (a ≡ b) (b < a) → ordering_of o ≡ compare a b
    go Less h = sym (number_lt a b h)
    go Equal h = sym (number_eq a b h)
    go Greater h = sym (number_gt a b h)

-- one comparison behind another: the first decides, unless it finds its two equal
module _ (o : StdOrdering) (p q : Ordering) (e : ordering_of o ≡ p) where
  pub first_decides : is_ne o ≡ true → ordering_of o ≡ p and_then q
  unfolding ◌and_then◌
  first_decides h = go o h ∙ ap (λ (p : Ordering). p and_then q) e
    where
      go : (o : StdOrdering) → is_ne o ≡ true → ordering_of o ≡ ordering_of o and_then q
      go Less h = refl
      go Equal h = absurd (false≢true h)
      go Greater h = refl

  pub second_decides : is_ne o ≡ false → q ≡ p and_then q
  unfolding ◌and_then◌
  second_decides h = go o h ∙ ap (λ (p : Ordering). p and_then q) e
    where
      go : (o : StdOrdering) → is_ne o ≡ false → q ≡ ordering_of o and_then q
      go Less h = absurd (false≢true (sym h))
      go Equal h = refl
      go Greater h = absurd (false≢true (sym h))

pub then_cmp : {P : Type 0} (o r : StdOrdering) (p q : Ordering) → ordering_of o ≡ p → (P → ordering_of r ≡ q) → MatchOrdering o (r ≡ Less) P (r ≡ Greater) → ordering_of r ≡ p and_then q
unfolding ◌and_then◌
then_cmp Less r p q e f h = ap ordering_of h ∙ ap (λ (p : Ordering). p and_then q) e
then_cmp Equal r p q e f h = f h ∙ ap (λ (p : Ordering). p and_then q) e
then_cmp Greater r p q e f h = ap ordering_of h ∙ ap (λ (p : Ordering). p and_then q) e

module _ (m : RouteImage) where
  module _ (a n i : ℕ) where
    pub tags_next : i < n → tags_in m (a + i) (n - i) ≡ (step_in m (a + i)).value ∷ tags_in m (a + (i + 1)) (n - (i + 1))
    unfolding tags_in
    tags_next h =
        let size : n - i ≡ suc (n - (i + 1)) = omega arith in
        let next : a + (i + 1) ≡ suc (a + i) = omega arith in
        rw (size, next)

    pub tags_end : n ≤ i → tags_in m (a + i) (n - i) ≡ []
    unfolding tags_in
    tags_end h = let none : n - i ≡ 0 = omega arith in rw none

  module _ (a n b k i : ℕ) where
    abbrev pub compared_from : Ordering
    compared_from = compare_tags (tags_in m (a + i) (n - i)) (tags_in m (b + i) (k - i))

    calls_on : i < n → i < k → compared_from ≡ compare (step_in m (a + i)).value (step_in m (b + i)).value and_then compare_tags (tags_in m (a + (i + 1)) (n - (i + 1))) (tags_in m (b + (i + 1)) (k - (i + 1)))
    unfolding compare_tags
    calls_on h j = rw (tags_next a n i h, tags_next b k i j)

    module _ (h : i < n) (j : i < k) (o : StdOrdering) (e : o ≡ nat_cmp (step_in m (a + i)).value (step_in m (b + i)).value) where
      told : ordering_of o ≡ compare (step_in m (a + i)).value (step_in m (b + i)).value
      told = number_cmp (step_in m (a + i)).value (step_in m (b + i)).value o e

      pub calls_apart : is_ne o ≡ true → ordering_of o ≡ compared_from
      calls_apart p = first_decides o _ _ told p ∙ sym (calls_on h j)

      pub calls_next : is_ne o ≡ false → compared_from ≡ compare_tags (tags_in m (a + (i + 1)) (n - (i + 1))) (tags_in m (b + (i + 1)) (k - (i + 1)))
      calls_next p = calls_on h j ∙ sym (second_decides o _ _ told p)

    pub calls_longer : i < n → k ≤ i → compared_from ≡ Ordering.gt
    unfolding compare_tags
    calls_longer h j = rw (tags_next a n i h, tags_end b k i j)

    pub calls_shorter : n ≤ i → i < k → compared_from ≡ Ordering.lt
    unfolding compare_tags
    calls_shorter h j = rw (tags_end a n i h, tags_next b k i j)

    pub calls_equal : n ≤ i → k ≤ i → compared_from ≡ Ordering.eq
    unfolding compare_tags
    calls_equal h j = rw (tags_end a n i h, tags_end b k i j)

    -- one of the runs is over
    pub calls_done : i ≤ n → i ≤ k → min n k ≤ i → (o : StdOrdering) → o ≡ nat_cmp n k → ordering_of o ≡ compared_from
    calls_done h j past o e = go o (ranked n k o e)
      where
        go : (o : StdOrdering) → MatchOrdering o (n < k) (n ≡ k) (k < n) → ordering_of o ≡ compared_from
        go Less l = sym (calls_shorter (omega arith) (omega arith))
        go Equal l = sym (calls_equal (omega arith) (omega arith))
        go Greater l = sym (calls_longer (omega arith) (omega arith))

  pub calls_start : (a n b k : ℕ) → compared_from a n b k 0 ≡ compare_tags (tags_in m a n) (tags_in m b k)
  calls_start a n b k = simp (add-zero, sub-zero)

module _ (p q : Path) where
  pub ends_handlers : p.end ≡ 0 → q.end ≡ 0 → compare_ends (end_of p) (end_of q) ≡ compare p.handler q.handler
  unfolding compare_ends end_of
  ends_handlers e f = rw (eq-eqb p.end 0 e, eq-eqb q.end 0 f)

  pub ends_first : p.end ≡ 0 → (q.end ≡ 0 → ⊥) → compare_ends (end_of p) (end_of q) ≡ Ordering.lt
  unfolding compare_ends end_of
  ends_first e f = rw (eq-eqb p.end 0 e, ne_eqb q.end 0 f) (go (eqb q.end 1))
    where
      go : (b : Bool) → compare_ends (handler p.handler) (cond b propagate resume) ≡ Ordering.lt
      go true = refl
      go false = refl

  pub ends_others : p.end ≤ 2 → q.end ≤ 2 → (p.end ≡ 0 → ⊥) → compare_ends (end_of p) (end_of q) ≡ compare p.end q.end
  unfolding compare_ends end_of
  ends_others h j e = go (ℕ_discrete p.end 1) (ℕ_discrete q.end 0) (ℕ_discrete q.end 1)
    where
      go : Dec (p.end ≡ 1) → Dec (q.end ≡ 0) → Dec (q.end ≡ 1) → compare_ends (end_of p) (end_of q) ≡ compare p.end q.end
      go (yes a) (yes b) d = rw (a, b)
      go (yes a) (no b) (yes d) = rw (a, d)
      go (yes a) (no b) (no d) = let two : q.end ≡ 2 = omega arith in rw (a, two)
      go (no a) (yes b) d = let two : p.end ≡ 2 = omega arith in rw (two, b)
      go (no a) (no b) (yes d) = let two : p.end ≡ 2 = omega arith in rw (two, d)
      go (no a) (no b) (no d) =
          let two : p.end ≡ 2 = omega arith in
          let too : q.end ≡ 2 = omega arith in
          rw (two, too)

  pub ends_apart : p.end ≤ 2 → q.end ≤ 2 → (p.end ≡ 0 → q.end ≡ 0 → ⊥) → compare_ends (end_of p) (end_of q) ≡ compare p.end q.end
  ends_apart h j ne = go (ℕ_discrete p.end 0)
    where
      go : Dec (p.end ≡ 0) → compare_ends (end_of p) (end_of q) ≡ compare p.end q.end
      go (yes e) = ends_first e (ne e) ∙ sym (number_lt p.end q.end (let apart : q.end ≡ 0 → ⊥ = ne e in omega arith))
      go (no e) = ends_others h j e

module _ {A : Type 0} (c : A → A → Ordering) (x y : Tagged A) (o : StdOrdering) (e : ordering_of o ≡ compare_tags x.calls y.calls) where
  pub tagged_first : is_ne o ≡ true → ordering_of o ≡ compare_tagged c x y
  unfolding compare_tagged
  tagged_first h = first_decides o _ _ e h

  pub tagged_second : is_ne o ≡ false → c x.what y.what ≡ compare_tagged c x y
  unfolding compare_tagged
  tagged_second h = second_decides o _ _ e h

pub branches_first : (m : RouteImage) (a b : Branch) (o : StdOrdering) → ordering_of o ≡ compare_tags (tags_in m a.step a.calls) (tags_in m b.step b.calls) → is_ne o ≡ true → (k : Kind) → ordering_of o ≡ ordered k (meaning m k a) (meaning m k b)
unfolding edge_of end_at
branches_first m a b o e h Edges = tagged_first compare (edge_of m a) (edge_of m b) o e h
branches_first m a b o e h Ends = tagged_first compare_ends (end_at m a) (end_at m b) o e h
