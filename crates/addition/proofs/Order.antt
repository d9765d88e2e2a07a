-- Comparisons that find equal only what is equal, and the members of sorted lists.
--     Exact                        a comparison tells equal things apart from others
--     exact_number, exact_tags, exact_ends, exact_tagged, exact_hop_ends, exact_leaps
--     mem_sorted, sorted_mem       the members of a sorted list are those of the list
--     same_eq                      lists that are found equal are equal
use mathlib.Core.Path.{◌≡◌, refl, ◌∙◌, ap}
use mathlib.Core.Logic.{◌⊎◌, inl, inr}
use mathlib.Core.Bool.{true, false≢true}
use mathlib.Core.List.Memᴰ
use mathlib.Core.List.{List, [], ◌∷◌}
use Prim.Native.Nat.{ℕ, compare, Ordering}
use borrow.Author.Tests.{eq-eqb, eqb-true}
use lib.Dec.{compare_is_eq}
use Rattle.image.specs.Deal.{UnwindEnd, handler, propagate, resume}
use Rattle.addition.specs.Order.{placed, put, sorted, ◌and_then◌, compare_tags, compare_ends, compare_tagged, same}
use Rattle.addition.specs.Ways.{HopEnd, block, leave, compare_hop_ends, compare_leaps}
use Rattle.addition.specs.Walk.{◌∈◌}
use Rattle.addition.proofs.Lists.{and_both, none_in}

pub record Exact {A : Type 0} (c : A → A → Ordering) : Type 0 where
  pub tells : (x y : A) → compare_is_eq (c x y) ≡ true → x ≡ y
  pub self : (x : A) → compare_is_eq (c x x) ≡ true

pub both : (o p : Ordering) → compare_is_eq (o and_then p) ≡ true → (compare_is_eq o ≡ true) × (compare_is_eq p ≡ true)
unfolding ◌and_then◌
both Ordering.lt p e = absurd (false≢true e)
both Ordering.eq p e = (refl, e)
both Ordering.gt p e = absurd (false≢true e)

pub join : (o p : Ordering) → compare_is_eq o ≡ true → compare_is_eq p ≡ true → compare_is_eq (o and_then p) ≡ true
unfolding ◌and_then◌
join Ordering.lt p e k = absurd (false≢true e)
join Ordering.eq p e k = k
join Ordering.gt p e k = absurd (false≢true e)

pub exact_number : Exact compare
exact_number = record { tells = λ x y e. eqb-true x y e; self = λ x. eq-eqb x x refl }

pub exact_tags : Exact compare_tags
unfolding compare_tags
exact_tags = record { tells = tells; self = self }
  where
    tells : (x y : List ℕ) → compare_is_eq (compare_tags x y) ≡ true → x ≡ y
    tells [] [] e = refl
    tells [] (b ∷ y) e = absurd (false≢true e)
    tells (a ∷ x) [] e = absurd (false≢true e)
    tells (a ∷ x) (b ∷ y) e =
        let k = both (compare a b) (compare_tags x y) e in
        let p : a ≡ b = eqb-true a b k.0 in
        let q : x ≡ y = tells x y k.1 in
        cc

    self : (x : List ℕ) → compare_is_eq (compare_tags x x) ≡ true
    self [] = refl
    self (a ∷ x) = join (compare a a) (compare_tags x x) (eq-eqb a a refl) (self x)

pub exact_ends : Exact compare_ends
unfolding compare_ends
exact_ends = record { tells = tells; self = self }
  where
    tells : (x y : UnwindEnd) → compare_is_eq (compare_ends x y) ≡ true → x ≡ y
    tells (handler a) (handler b) e = ap handler (eqb-true a b e)
    tells (handler a) propagate e = absurd (false≢true e)
    tells (handler a) resume e = absurd (false≢true e)
    tells propagate (handler b) e = absurd (false≢true e)
    tells propagate propagate e = refl
    tells propagate resume e = absurd (false≢true e)
    tells resume (handler b) e = absurd (false≢true e)
    tells resume propagate e = absurd (false≢true e)
    tells resume resume e = refl

    self : (x : UnwindEnd) → compare_is_eq (compare_ends x x) ≡ true
    self (handler a) = eq-eqb a a refl
    self propagate = refl
    self resume = refl

pub exact_hop_ends : Exact compare_hop_ends
unfolding compare_hop_ends
exact_hop_ends = record { tells = tells; self = self }
  where
    tells : (x y : HopEnd) → compare_is_eq (compare_hop_ends x y) ≡ true → x ≡ y
    tells (block a) (block b) e = ap block (eqb-true a b e)
    tells (block a) leave e = absurd (false≢true e)
    tells leave (block b) e = absurd (false≢true e)
    tells leave leave e = refl

    self : (x : HopEnd) → compare_is_eq (compare_hop_ends x x) ≡ true
    self (block a) = eq-eqb a a refl
    self leave = refl

pub exact_tagged : {A : Type 0} (c : A → A → Ordering) → Exact c → Exact (compare_tagged c)
unfolding compare_tagged
exact_tagged {A} c exact =
    record {
      tells = λ x y e.
          let k = both (compare_tags x.calls y.calls) (c x.what y.what) e in
          λ i. record { calls = exact_tags.tells x.calls y.calls k.0 i; what = exact.tells x.what y.what k.1 i };
      self = λ x. join (compare_tags x.calls x.calls) (c x.what x.what) (exact_tags.self x.calls) (exact.self x.what);
    }

pub exact_leaps : Exact compare_leaps
unfolding compare_leaps
exact_leaps =
    record {
      tells = λ x y e.
          let k = both (compare x.source y.source) (compare_hop_ends x.end y.end) e in
          λ i. record { source = exact_number.tells x.source y.source k.0 i; end = exact_hop_ends.tells x.end y.end k.1 i };
      self = λ x. join (compare x.source x.source) (compare_hop_ends x.end x.end) (exact_number.self x.source) (exact_hop_ends.self x.end);
    }

module _ {A : Type 0} (c : A → A → Ordering) where
  pub put_mem : {z : A} (x : A) (l : List A) → z ∈ put c x l → (z ≡ x) ⊎ (z ∈ l)
  unfolding put placed
  put_mem x [] (Memᴰ.head e) = inl e
  put_mem x [] (Memᴰ.tail m) = absurd (none_in m)
  put_mem {z} x (y ∷ l) m = go (c x y) (λ (k : z ∈ put c x l). put_mem x l k) m
    where
      up : (z ≡ x) ⊎ (z ∈ l) → (z ≡ x) ⊎ (z ∈ y ∷ l)
      up (inl e) = inl e
      up (inr k) = inr (Memᴰ.tail k)

      go : (o : Ordering) → (z ∈ put c x l → (z ≡ x) ⊎ (z ∈ l)) → z ∈ placed o x y l (put c x l) → (z ≡ x) ⊎ (z ∈ y ∷ l)
      go Ordering.lt below (Memᴰ.head e) = inl e
      go Ordering.lt below (Memᴰ.tail k) = inr k
      go Ordering.eq below k = inr k
      go Ordering.gt below (Memᴰ.head e) = inr (Memᴰ.head e)
      go Ordering.gt below (Memᴰ.tail k) = up (below k)

  pub mem_put_old : {z : A} (x : A) {l : List A} → z ∈ l → z ∈ put c x l
  unfolding put placed
  mem_put_old {z} x (Memᴰ.head {x = y} {xs = l} e) = go (c x y)
    where
      go : (o : Ordering) → z ∈ placed o x y l (put c x l)
      go Ordering.lt = Memᴰ.tail (Memᴰ.head e)
      go Ordering.eq = Memᴰ.head e
      go Ordering.gt = Memᴰ.head e
  mem_put_old {z} x (Memᴰ.tail {x = y} {xs = l} m) = go (c x y) (mem_put_old x m)
    where
      go : (o : Ordering) → z ∈ put c x l → z ∈ placed o x y l (put c x l)
      go Ordering.lt k = Memᴰ.tail (Memᴰ.tail m)
      go Ordering.eq k = Memᴰ.tail m
      go Ordering.gt k = Memᴰ.tail k

  pub sorted_mem : {z : A} (l : List A) → z ∈ sorted c l → z ∈ l
  unfolding sorted
  sorted_mem [] m = absurd (none_in m)
  sorted_mem {z} (x ∷ l) m = go (put_mem x (sorted c l) m) (λ (k : z ∈ sorted c l). sorted_mem l k)
    where
      go : (z ≡ x) ⊎ (z ∈ sorted c l) → (z ∈ sorted c l → z ∈ l) → z ∈ x ∷ l
      go (inl e) below = Memᴰ.head e
      go (inr k) below = Memᴰ.tail (below k)

  module _ (exact : Exact c) where
    pub mem_put_new : {z : A} (x : A) (l : List A) → z ≡ x → z ∈ put c x l
    unfolding put placed
    mem_put_new x [] e = Memᴰ.head e
    mem_put_new {z} x (y ∷ l) e = go (c x y) refl (mem_put_new x l e)
      where
        go : (o : Ordering) → c x y ≡ o → z ∈ put c x l → z ∈ placed o x y l (put c x l)
        go Ordering.lt p below = Memᴰ.head e
        go Ordering.eq p below = Memᴰ.head (e ∙ exact.tells x y (ap compare_is_eq p))
        go Ordering.gt p below = Memᴰ.tail below

    pub mem_sorted : {z : A} {l : List A} → z ∈ l → z ∈ sorted c l
    unfolding sorted
    mem_sorted (Memᴰ.head {x = x} {xs = l} e) = mem_put_new x (sorted c l) e
    mem_sorted (Memᴰ.tail {x = x} m) = mem_put_old x (mem_sorted m)

    pub same_eq : (l m : List A) → same c l m ≡ true → l ≡ m
    unfolding same
    same_eq [] [] e = refl
    same_eq [] (y ∷ m) e = absurd (false≢true e)
    same_eq (x ∷ l) [] e = absurd (false≢true e)
    same_eq (x ∷ l) (y ∷ m) e =
        let k = and_both (compare_is_eq (c x y)) (same c l m) e in
        let p : x ≡ y = exact.tells x y k.0 in
        let q : l ≡ m = same_eq l m k.1 in
        cc
