-- The hop of a leap among hops that rise.
--     less_apart, less_equal       a hop compared with a pair, by their sources
--     hop_is                       a hop that makes the leap of a pair
--     one_hop                      two hops of one leap are one
--     Between, between_all, between_right, between_left, between_end     a search by halving
-- Assumes nothing.
use mathlib.Core.Path.{◌≡◌, refl, sym, ap, ◌∙◌, subst}
use mathlib.Core.Bool.{Bool, true, false, cond, not, ◌&&◌, false≢true}
use mathlib.Core.List.{List}
use Prim.Native.Nat.{ℕ, ◌+◌, ◌≤◌, ◌<◌, compare, Ordering}
use native.Mathlib.Decide.{dec_lt}
use native.Mathlib.Omega.{arith}
use borrow.Author.Tests.{ne_eqb}
use lib.Dec.{eqb, ltb, compare_is_eq}
use lib.ListN.{length}
use Rattle.unwind.specs.declared.hops.HopRow.{HopRow}
use Rattle.addition.specs.Order.{◌and_then◌}
use Rattle.unwind.specs.Interning.{is_lt}
use Rattle.addition.specs.Ways.{block, leave, Leap, compare_hop_ends, compare_leaps}
use Rattle.unwind.specs.HopWords.{rows_in, end_from}
use Rattle.unwind.specs.Flags.{pair, row_leap, leap_at, HopsRise, HopIs}
use Rattle.unwind.proofs.TrieOrder.{turned, number_eq, is_eq}
use Rattle.unwind.proofs.TrieKeys.{less_number}
use Rattle.unwind.proofs.Rising.{total_leaps}

-- ---- a comparison

apart : (o p : Ordering) → compare_is_eq o ≡ false → is_lt (o and_then p) ≡ is_lt o
unfolding ◌and_then◌
apart Ordering.lt p e = refl
apart Ordering.eq p e = absurd (false≢true (sym e))
apart Ordering.gt p e = refl

ends_less : (x : HopRow) (t : ℕ) → is_lt (compare_hop_ends (end_from x) (block t)) ≡ not (eqb x.has_end 0) && ltb x.end t
unfolding compare_hop_ends end_from
ends_less x t = go (eqb x.has_end 0)
  where
    go : (q : Bool) → is_lt (compare_hop_ends (cond q leave (block x.end)) (block t)) ≡ not q && ltb x.end t
    go true = refl
    go false = less_number x.end t

module _ (x : HopRow) (b t : ℕ) where
  pub less_apart : (x.source ≡ b → ⊥) → ltb x.source b ≡ is_lt (compare_leaps (row_leap x) (pair b t))
  unfolding compare_leaps
  less_apart ne = sym (apart (compare x.source b) (compare_hop_ends (end_from x) (block t)) (ne_eqb x.source b ne) ∙ less_number x.source b)

  pub less_equal : x.source ≡ b → (not (eqb x.has_end 0) && ltb x.end t) ≡ is_lt (compare_leaps (row_leap x) (pair b t))
  unfolding compare_leaps ◌and_then◌
  less_equal e = sym (ap (λ (o : Ordering). is_lt (o and_then compare_hop_ends (end_from x) (block t))) (number_eq x.source b e) ∙ ends_less x t)

  pub hop_is : x.source ≡ b → (x.has_end ≡ 0 → ⊥) → x.end ≡ t → row_leap x ≡ pair b t
  unfolding end_from
  hop_is s ne e = rw (s, ne_eqb x.has_end 0 ne, e)

-- ---- hops that rise

-- the hop of leap x, if any, is one of lo .. hi
pub record Between (l : List ℕ) (x : Leap) (lo hi : ℕ) : Type 0 where
  pub most : hi ≤ length (rows_in l).hops
  pub within : (k : ℕ) → HopIs l x k → (lo ≤ k) × (k ≤ hi)

module _ (l : List ℕ) (r : HopsRise l) where
  self : (x : Leap) → compare_leaps x x ≡ Ordering.eq
  self x = is_eq (compare_leaps x x) (total_leaps.exact.self x)

  -- a hop before another does not make its leap
  before_not : (i j : ℕ) → i < j → j < length (rows_in l).hops → leap_at l i ≡ leap_at l j → ⊥
  before_not i j h k e =
      false≢true (ap compare_is_eq (sym (r.rise i j h k) ∙ ap (λ (x : Leap). compare_leaps x (leap_at l j)) e ∙ self (leap_at l j)))

  pub one_hop : (x : Leap) (i j : ℕ) → HopIs l x i → HopIs l x j → i ≡ j
  one_hop x i j p q = go (dec_lt i j) (dec_lt j i)
    where
      go : Dec (i < j) → Dec (j < i) → i ≡ j
      go (yes h) k = absurd (before_not i j h q.stands (p.is ∙ sym q.is))
      go (no h) (yes k) = absurd (before_not j i k p.stands (q.is ∙ sym p.is))
      go (no h) (no k) = omega arith

  pub between_all : (x : Leap) (n : ℕ) → n ≡ length (rows_in l).hops → Between l x 0 n
  between_all x n e = record { most = omega arith; within = λ k p. (omega arith, omega (arith, p.stands)) }

  module _ (x : Leap) (lo hi mid : ℕ) (p : Between l x lo hi) (inside : mid < hi) where
    pub between_right : is_lt (compare_leaps (leap_at l mid) x) ≡ true → Between l x (mid + 1) hi
    between_right less = record { most = p.most; within = λ k q. (behind k q, (p.within k q).1) }
      where
        behind : (k : ℕ) → HopIs l x k → mid + 1 ≤ k
        behind k q = go (dec_lt mid k) (dec_lt k mid)
          where
            go : Dec (mid < k) → Dec (k < mid) → mid + 1 ≤ k
            go (yes h) j = omega arith
            go (no h) (yes j) =
                let up : compare_leaps x (leap_at l mid) ≡ Ordering.lt = ap (λ (y : Leap). compare_leaps y (leap_at l mid)) (sym q.is) ∙ r.rise k mid j (omega (arith, p.most)) in
                absurd (false≢true (sym (ap is_lt (total_leaps.turns x (leap_at l mid) ∙ ap turned up)) ∙ less))
            go (no h) (no j) =
                let same : mid ≡ k = omega arith in
                let here : leap_at l mid ≡ x = ap (leap_at l) same ∙ q.is in
                absurd (false≢true (sym (ap is_lt (ap (λ (y : Leap). compare_leaps y x) here ∙ self x)) ∙ less))

    pub between_left : is_lt (compare_leaps (leap_at l mid) x) ≡ false → Between l x lo mid
    between_left more = record { most = omega (arith, p.most); within = λ k q. ((p.within k q).0, front k q) }
      where
        front : (k : ℕ) → HopIs l x k → k ≤ mid
        front k q = go (dec_lt mid k)
          where
            go : Dec (mid < k) → k ≤ mid
            go (yes h) = absurd (false≢true (sym more ∙ ap is_lt (ap (compare_leaps (leap_at l mid)) (sym q.is) ∙ r.rise mid k h q.stands)))
            go (no h) = omega arith

  pub between_end : (x : Leap) (lo hi : ℕ) → Between l x lo hi → hi ≤ lo → (k : ℕ) → HopIs l x k → HopIs l x lo
  between_end x lo hi p met k q =
      let inside = p.within k q in
      let same : k ≡ lo = omega arith in
      subst (HopIs l x) same q
