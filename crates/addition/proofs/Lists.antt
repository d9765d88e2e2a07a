-- Laws of lists and tests.
--     and_both, and_l, and_r, and_true, or_either, or_left, or_right, not_so, so_not, both-ways     Bool tests and the facts that they tell
--     mem_keep, keep_mem           x ∈ keep f l: x ∈ l and f holds of it
--     mem_joined, joined_mem       y ∈ joined f l: y ∈ f x for some x ∈ l
--     mem_map, map_mem             y ∈ map f l: y is f x for some x ∈ l
--     mem_flat, flat_mem           y ∈ flat f n: y ∈ f i for some i < n
--     mem_upto, upto_mem           i ∈ upto n: i < n
--     mem_among, among_mem         the test for numbers
--     at, at_append, at_behind, at_last, at_lt, lt_at, at_get_or, at_mem, mem_at, mem_get_or, at_map     the element at a place
--     at_rank                      x stands at its rank
--     flat-suc, flat_le, at_flat   the places of the pieces of a flat list
use mathlib.Core.Path.{◌≡◌, refl, sym, ◌∙◌, ap, subst}
use mathlib.Core.Logic.{◌⊎◌, inl, inr}
use mathlib.Core.Bool.{Bool, true, false, cond, not, ◌&&◌, ◌||◌, false≢true}
use mathlib.Core.List.Memᴰ
use mathlib.Core.List.{List, [], ◌∷◌, ◌++◌, map}
use mathlib.Core.Option.{Option, none, some, none-ne-some}
use Prim.Native.Nat.{ℕ, zero, suc, ◌+◌, ◌≤◌, ◌<◌}
use native.Mathlib.Nat.{not-suc-le-zero, le_of_suc-le-suc}
use native.Mathlib.Decide.{dec_lt, ℕ_discrete}
use native.Mathlib.Omega.{arith}
use borrow.Author.Tests.{eq-eqb, eqb-true, ne_eqb}
use lib.Dec.{eqb}
use lib.ListN.{length, get_or, length-append}
use Rattle.graph.specs.Fold.{flat, among}
use Rattle.addition.specs.Lists.{keep, joined, upto, rank}
use Rattle.addition.specs.Walk.{◌∈◌}

-- ---- tests

pub and_both : (a b : Bool) → a && b ≡ true → (a ≡ true) × (b ≡ true)
and_both true b e = (refl, e)
and_both false b e = absurd (false≢true e)

pub and_l : (a b : Bool) → a && b ≡ true → a ≡ true
and_l a b e = (and_both a b e).0

pub and_r : (a b : Bool) → a && b ≡ true → b ≡ true
and_r a b e = (and_both a b e).1

pub and_true : {a b : Bool} → a ≡ true → b ≡ true → a && b ≡ true
and_true {a} {b} p q = rw p q

pub or_either : (a b : Bool) → a || b ≡ true → (a ≡ true) ⊎ (b ≡ true)
or_either true b e = inl refl
or_either false b e = inr e

pub or_left : {a : Bool} (b : Bool) → a ≡ true → a || b ≡ true
or_left b p = rw p

pub or_right : (a : Bool) {b : Bool} → b ≡ true → a || b ≡ true
or_right true p = refl
or_right false p = p

pub not_so : (a : Bool) → not a ≡ true → a ≡ true → ⊥
not_so true e p = false≢true e
not_so false e p = false≢true p

pub so_not : (a : Bool) → (a ≡ true → ⊥) → not a ≡ true
so_not true n = absurd (n refl)
so_not false n = refl

pub both_ways : (a b : Bool) → (a ≡ true → b ≡ true) → (b ≡ true → a ≡ true) → a ≡ b
both_ways true b on back = sym (on refl)
both_ways false true on back = back refl
both_ways false false on back = refl

-- ---- membership

abbrev pub none_in : {A : Type 0} {x : A} → x ∈ [] → ⊥
none_in = Memᴰ.not-nil

pub mem_cond : {A : Type 0} {x : A} (b : Bool) (y : A) (l : List A) → x ∈ l → x ∈ cond b (y ∷ l) l
mem_cond true y l m = Memᴰ.tail m
mem_cond false y l m = m

module _ {A : Type 0} (f : A → Bool) where
  pub mem_keep : {x : A} {l : List A} → x ∈ l → f x ≡ true → x ∈ keep f l
  unfolding keep
  mem_keep (Memᴰ.head e) t = rw (sym (ap f e) ∙ t) (Memᴰ.head e)
  mem_keep (Memᴰ.tail {x = y} {xs = l} m) t = mem_cond (f y) y (keep f l) (mem_keep m t)

  pub keep_mem : {x : A} (l : List A) → x ∈ keep f l → (x ∈ l) × (f x ≡ true)
  unfolding keep
  keep_mem [] m = absurd (none_in m)
  keep_mem {x} (y ∷ l) m = go (f y) refl (λ (k : x ∈ keep f l). keep_mem l k) m
    where
      go : (b : Bool) → f y ≡ b → (x ∈ keep f l → (x ∈ l) × (f x ≡ true)) → x ∈ cond b (y ∷ keep f l) (keep f l) → (x ∈ y ∷ l) × (f x ≡ true)
      go true e below (Memᴰ.head p) = (Memᴰ.head p, ap f p ∙ e)
      go true e below (Memᴰ.tail k) = (Memᴰ.tail (below k).0, (below k).1)
      go false e below k = (Memᴰ.tail (below k).0, (below k).1)

module _ {A B : Type 0} (f : A → List B) where
  pub mem_joined : {x : A} {y : B} {l : List A} → x ∈ l → y ∈ f x → y ∈ joined f l
  unfolding joined
  mem_joined {y = y} (Memᴰ.head {x = z} {xs = l} e) m = Memᴰ.append_left (joined f l) (rw e at m)
  mem_joined (Memᴰ.tail {x = z} k) m = Memᴰ.append_right (f z) (mem_joined k m)

  pub joined_mem : {y : B} (l : List A) → y ∈ joined f l → (x : A) × (x ∈ l) × (y ∈ f x)
  unfolding joined
  joined_mem [] m = absurd (none_in m)
  joined_mem {y} (z ∷ l) m = go (Memᴰ.append_cases (f z) m) (λ (k : y ∈ joined f l). joined_mem l k)
    where
      go : (y ∈ f z) ⊎ (y ∈ joined f l) → (y ∈ joined f l → (x : A) × (x ∈ l) × (y ∈ f x)) → (x : A) × (x ∈ z ∷ l) × (y ∈ f x)
      go (inl k) below = (z, Memᴰ.head refl, k)
      go (inr k) below = let b = below k in (b.0, Memᴰ.tail b.1, b.2)

module _ {A B : Type 0} (f : A → B) where
  pub mem_map : {x : A} {l : List A} → x ∈ l → f x ∈ map f l
  mem_map (Memᴰ.head e) = Memᴰ.head (ap f e)
  mem_map (Memᴰ.tail m) = Memᴰ.tail (mem_map m)

  pub map_mem : {y : B} (l : List A) → y ∈ map f l → (x : A) × (x ∈ l) × (y ≡ f x)
  map_mem [] m = absurd (none_in m)
  map_mem (z ∷ l) (Memᴰ.head e) = (z, Memᴰ.head refl, e)
  map_mem (z ∷ l) (Memᴰ.tail m) = let b = map_mem l m in (b.0, Memᴰ.tail b.1, b.2)

module _ {B : Type 0} (f : ℕ → List B) where
  pub mem_flat : {y : B} (n i : ℕ) → i < n → y ∈ f i → y ∈ flat f n
  unfolding flat
  mem_flat zero i h m = absurd (not-suc-le-zero h)
  mem_flat {y} (suc n) i h m = go (dec_lt i n) (λ (k : i < n). mem_flat n i k m)
    where
      go : Dec (i < n) → (i < n → y ∈ flat f n) → y ∈ flat f n ++ f n
      go (yes k) below = Memᴰ.append_left (f n) (below k)
      go (no k) below = let e : i ≡ n = omega arith in Memᴰ.append_right (flat f n) (rw e at m)

  pub flat_mem : {y : B} (n : ℕ) → y ∈ flat f n → (i : ℕ) × (i < n) × (y ∈ f i)
  unfolding flat
  flat_mem zero m = absurd (none_in m)
  flat_mem {y} (suc n) m = go (Memᴰ.append_cases (flat f n) m) (λ (k : y ∈ flat f n). flat_mem n k)
    where
      go : (y ∈ flat f n) ⊎ (y ∈ f n) → (y ∈ flat f n → (i : ℕ) × (i < n) × (y ∈ f i)) → (i : ℕ) × (i < suc n) × (y ∈ f i)
      go (inl k) below = let b = below k in let lt : b.0 < n = b.1 in (b.0, omega arith, b.2)
      go (inr k) below = (n, omega arith, k)

pub mem_upto : (n i : ℕ) → i < n → i ∈ upto n
unfolding upto
mem_upto zero i h = absurd (not-suc-le-zero h)
mem_upto (suc n) i h = go (dec_lt i n) (mem_upto n i)
  where
    go : Dec (i < n) → (i < n → i ∈ upto n) → i ∈ upto n ++ (n ∷ [])
    go (yes k) below = Memᴰ.append_left (n ∷ []) (below k)
    go (no k) below = Memᴰ.append_right (upto n) (Memᴰ.head (omega arith))

pub upto_mem : {i : ℕ} (n : ℕ) → i ∈ upto n → i < n
unfolding upto
upto_mem zero m = absurd (none_in m)
upto_mem {i} (suc n) m = go (Memᴰ.append_cases (upto n) m) (λ (k : i ∈ upto n). upto_mem n k)
  where
    go : (i ∈ upto n) ⊎ (i ∈ n ∷ []) → (i ∈ upto n → i < n) → i < suc n
    go (inl k) below = let lt = below k in omega arith
    go (inr k) below = let e = Memᴰ.eq_of_singleton k in omega arith

pub mem_among : {x : ℕ} {l : List ℕ} → x ∈ l → among l x ≡ true
unfolding among
mem_among {x} (Memᴰ.head {x = y} {xs = l} e) = or_left (among l x) (eq-eqb y x (sym e))
mem_among {x} (Memᴰ.tail {x = y} m) = or_right (eqb y x) (mem_among m)

pub among_mem : (l : List ℕ) (x : ℕ) → among l x ≡ true → x ∈ l
unfolding among
among_mem [] x e = absurd (false≢true e)
among_mem (y ∷ l) x e = go (or_either (eqb y x) (among l x) e) (among_mem l x)
  where
    go : (eqb y x ≡ true) ⊎ (among l x ≡ true) → (among l x ≡ true → x ∈ l) → x ∈ y ∷ l
    go (inl p) below = Memᴰ.head (sym (eqb-true y x p))
    go (inr p) below = Memᴰ.tail (below p)

-- ---- places

unfoldable pub at : {A : Type 0} → List A → ℕ → Option A
at [] i = none
at (x ∷ l) zero = some x
at (x ∷ l) (suc i) = at l i

module _ {A : Type 0} where
  pub at_lt : (l : List A) (i : ℕ) {x : A} → at l i ≡ some x → i < length l
  unfolding at
  at_lt [] i {x} e = absurd (none-ne-some x e)
  at_lt (y ∷ l) zero e = omega arith
  at_lt (y ∷ l) (suc i) e = let h = at_lt l i e in omega arith

  pub lt_at : (l : List A) (i : ℕ) → i < length l → (x : A) × (at l i ≡ some x)
  unfolding at
  lt_at [] i h = absurd (not-suc-le-zero h)
  lt_at (y ∷ l) zero h = (y, refl)
  lt_at (y ∷ l) (suc i) h = lt_at l i (le_of_suc-le-suc h)

  pub at_append : (l m : List A) (i : ℕ) {x : A} → at l i ≡ some x → at (l ++ m) i ≡ some x
  unfolding at
  at_append [] m i {x} e = absurd (none-ne-some x e)
  at_append (y ∷ l) m zero e = e
  at_append (y ∷ l) m (suc i) e = at_append l m i e

  -- the places behind l are those of m
  pub at_behind : (l m : List A) (i : ℕ) → at (l ++ m) (length l + i) ≡ at m i
  unfolding at
  at_behind [] m i = ap (at m) (omega arith)
  at_behind (y ∷ l) m i = let e : suc (length l) + i ≡ suc (length l + i) = omega arith in rw e (at_behind l m i)

  pub at_last : (l : List A) (x : A) → at (l ++ (x ∷ [])) (length l) ≡ some x
  unfolding at
  at_last l x = let e : length l ≡ length l + 0 = omega arith in ap (at (l ++ (x ∷ []))) e ∙ at_behind l (x ∷ []) 0

  pub at_get_or : (l : List A) (i : ℕ) (d : A) {x : A} → at l i ≡ some x → get_or l i d ≡ x
  unfolding at
  at_get_or [] i d {x} e = absurd (none-ne-some x e)
  at_get_or (y ∷ l) zero d e = cc
  at_get_or (y ∷ l) (suc i) d e = at_get_or l i d e

  pub at_mem : (l : List A) (i : ℕ) {x : A} → at l i ≡ some x → x ∈ l
  unfolding at
  at_mem [] i {x} e = absurd (none-ne-some x e)
  at_mem (y ∷ l) zero {x} e = let p : x ≡ y = cc in Memᴰ.head p
  at_mem (y ∷ l) (suc i) e = Memᴰ.tail (at_mem l i e)

  pub mem_at : {x : A} {l : List A} → x ∈ l → (i : ℕ) × (at l i ≡ some x)
  unfolding at
  mem_at (Memᴰ.head e) = (zero, ap some (sym e))
  mem_at (Memᴰ.tail m) = (suc (mem_at m).0, (mem_at m).1)

pub mem_get_or : {A : Type 0} (l : List A) (i : ℕ) (d : A) → i < length l → get_or l i d ∈ l
mem_get_or [] i d h = absurd (not-suc-le-zero h)
mem_get_or (x ∷ l) zero d h = Memᴰ.head refl
mem_get_or (x ∷ l) (suc i) d h = Memᴰ.tail (mem_get_or l i d (le_of_suc-le-suc h))

pub at_map : {A B : Type 0} (f : A → B) (l : List A) (i : ℕ) {x : A} → at l i ≡ some x → at (map f l) i ≡ some (f x)
unfolding at
at_map f [] i {x} e = absurd (none-ne-some x e)
at_map f (y ∷ l) zero e = cc
at_map f (y ∷ l) (suc i) e = at_map f l i e

pub at_rank : {x : ℕ} {l : List ℕ} → x ∈ l → at l (rank x l) ≡ some x
unfolding at rank
at_rank {x} (Memᴰ.head {x = y} {xs = l} e) = rw (eq-eqb x y e) (ap some (sym e))
at_rank {x} (Memᴰ.tail {x = y} {xs = l} m) = go (ℕ_discrete x y) (at_rank m)
  where
    go : Dec (x ≡ y) → at l (rank x l) ≡ some x → at (y ∷ l) (cond (eqb x y) 0 (suc (rank x l))) ≡ some x
    go (yes e) below = rw (eq-eqb x y e) (ap some (sym e))
    go (no n) below = rw (ne_eqb x y n) below

-- ---- the pieces of a flat list

module _ {B : Type 0} (f : ℕ → List B) where
  pub flat-suc : (i : ℕ) → length (flat f (suc i)) ≡ length (flat f i) + length (f i)
  unfolding flat
  flat-suc i = length-append (flat f i) (f i)

  pub flat_le : (i j : ℕ) → i ≤ j → length (flat f i) ≤ length (flat f j)
  flat_le i zero h = let e : i ≡ 0 = omega arith in rw e (omega arith)
  flat_le i (suc j) h = go (dec_lt j i) (λ (k : i ≤ j). flat_le i j k)
    where
      go : Dec (j < i) → (i ≤ j → length (flat f i) ≤ length (flat f j)) → length (flat f i) ≤ length (flat f (suc j))
      go (yes k) below = let e : i ≡ suc j = omega arith in rw e (omega arith)
      go (no k) below = omega (arith, below (omega arith), flat-suc j)

  pub at_flat : (n i r : ℕ) {x : B} → i < n → at (f i) r ≡ some x → at (flat f n) (length (flat f i) + r) ≡ some x
  unfolding flat
  at_flat zero i r h e = absurd (not-suc-le-zero h)
  at_flat (suc n) i r {x} h e = go (dec_lt i n) (λ (k : i < n). at_flat n i r k e)
    where
      go : Dec (i < n) → (i < n → at (flat f n) (length (flat f i) + r) ≡ some x) → at (flat f n ++ f n) (length (flat f i) + r) ≡ some x
      go (yes k) below = at_append (flat f n) (f n) (length (flat f i) + r) (below k)
      go (no k) below = let p : i ≡ n = omega arith in
          subst (λ (j : ℕ). at (flat f n ++ f n) (length (flat f j) + r) ≡ some x) (sym p)
          (at_behind (flat f n) (f n) r ∙ subst (λ (j : ℕ). at (f j) r ≡ some x) p e)
