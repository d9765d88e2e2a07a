-- Comparisons that order all things: lists sorted by putting, in any order, and by taking the least over and over.
--     turned, Total                the other way round; a comparison that orders all things
--     not_gt_eq, not_gt_lt, is_eq, is_lt_law     what a comparison says
--     number_lt, number_gt, number_eq, lt_number     of numbers
--     turn_then, then_lt, lt_then, eq_then, then_trans     one comparison behind another
--     self_eq, eq_same             it finds equal what is the same, and nothing else
--     total_number, total_tags, total_ends, total-tagged, total_key, total_end
--     put_comm, put_again          two are put in either order, and one a second time
--     sorted-behind                one more behind the list
--     put-member                   a member is put again
--     put_least                    one that comes before all others
--     next_none, next_in, next_some     the next in order behind `last`: there is none, or it is the least of what is left
--     next_new                     one that comes before it stands not in the list
--     not_beyond                   one that does not come after `last` does not come after one that does
--     next_final                   there is none behind `last`, and so none behind one that comes after it
use mathlib.Core.Path.{◌≡◌, refl, sym, ◌∙◌, ap}
use mathlib.Core.Bool.{Bool, true, false, cond, ◌&&◌, false≢true}
use mathlib.Core.Option.{Option, none, some, none-ne-some}
use mathlib.Core.Logic.{◌⊎◌, inl, inr}
use mathlib.Core.List.Memᴰ
use mathlib.Core.List.{List, [], ◌∷◌, ◌++◌}
use Prim.Native.Nat.{ℕ, ◌<◌, compare, Ordering}
use native.Mathlib.Decide.{dec_lt}
use native.Mathlib.Omega.{arith}
use borrow.Author.Tests.{eq-eqb, eqb-true, leb-true, leb-false}
use lib.Dec.{compare_is_eq, is_le}
use Rattle.image.specs.Deal.{UnwindEnd, handler, propagate, resume}
use Rattle.addition.specs.Lists.{keep}
use Rattle.addition.specs.Order.{placed, put, sorted, ◌and_then◌, compare_tags, compare_ends, compare_tagged}
use Rattle.unwind.specs.Interning.{is_lt, after, before, nearer, nearest}
use Rattle.addition.specs.Walk.{◌∈◌}
use Rattle.addition.proofs.Lists.{mem_keep, keep_mem}
use Rattle.addition.proofs.Order.{Exact, exact_number, exact_tags, exact_ends, exact_tagged}

abbrev pub turned : Ordering → Ordering
turned Ordering.lt = Ordering.gt
turned Ordering.eq = Ordering.eq
turned Ordering.gt = Ordering.lt

pub record Total {A : Type 0} (c : A → A → Ordering) : Type 0 where
  pub exact : Exact c
  pub turns : (x y : A) → c y x ≡ turned (c x y)
  pub trans : (x y z : A) → c x y ≡ Ordering.lt → c y z ≡ Ordering.lt → c x z ≡ Ordering.lt

-- ---- what an ordering is

not_lt_eq : Ordering.lt ≡ Ordering.eq → ⊥
not_lt_eq e = false≢true (ap compare_is_eq e)

pub not_gt_eq : Ordering.gt ≡ Ordering.eq → ⊥
not_gt_eq e = false≢true (ap compare_is_eq e)

pub not_gt_lt : Ordering.gt ≡ Ordering.lt → ⊥
not_gt_lt e = false≢true (ap is_le e)

pub is_eq : (o : Ordering) → compare_is_eq o ≡ true → o ≡ Ordering.eq
is_eq Ordering.lt e = absurd (false≢true e)
is_eq Ordering.eq e = refl
is_eq Ordering.gt e = absurd (false≢true e)

pub is_lt_law : (o : Ordering) → is_lt o ≡ true → o ≡ Ordering.lt
is_lt_law Ordering.lt e = refl
is_lt_law Ordering.eq e = absurd (false≢true e)
is_lt_law Ordering.gt e = absurd (false≢true e)

pub number_lt : (a b : ℕ) → a < b → compare a b ≡ Ordering.lt
number_lt a b h = go (compare a b) refl
  where
    go : (o : Ordering) → compare a b ≡ o → o ≡ Ordering.lt
    go Ordering.lt e = refl
    go Ordering.eq e = let p = eqb-true a b (ap compare_is_eq e) in absurd (omega arith)
    go Ordering.gt e = let p = leb-false a b (ap is_le e) in absurd (omega arith)

pub number_gt : (a b : ℕ) → b < a → compare a b ≡ Ordering.gt
number_gt a b h = go (compare a b) refl
  where
    go : (o : Ordering) → compare a b ≡ o → o ≡ Ordering.gt
    go Ordering.lt e = let p = leb-true a b (ap is_le e) in absurd (omega arith)
    go Ordering.eq e = let p = eqb-true a b (ap compare_is_eq e) in absurd (omega arith)
    go Ordering.gt e = refl

pub number_eq : (a b : ℕ) → a ≡ b → compare a b ≡ Ordering.eq
number_eq a b h = is_eq (compare a b) (eq-eqb a b h)

pub lt_number : (a b : ℕ) → compare a b ≡ Ordering.lt → a < b
lt_number a b e = go (dec_lt a b) (dec_lt b a)
  where
    go : Dec (a < b) → Dec (b < a) → a < b
    go (yes h) k = h
    go (no h) (yes k) = absurd (not_gt_lt (sym (number_gt a b k) ∙ e))
    go (no h) (no k) = absurd (not_lt_eq (sym e ∙ number_eq a b (omega arith)))

pub total_number : Total compare
total_number =
    record {
      exact = exact_number;
      turns = λ x y. go x y (dec_lt x y) (dec_lt y x);
      trans = λ x y z p q. let h = lt_number x y p in let k = lt_number y z q in number_lt x z (omega arith);
    }
  where
    go : (x y : ℕ) → Dec (x < y) → Dec (y < x) → compare y x ≡ turned (compare x y)
    go x y (yes h) k = rw (number_lt x y h, number_gt y x h)
    go x y (no h) (yes k) = rw (number_lt y x k, number_gt x y k)
    go x y (no h) (no k) = rw (number_eq x y (omega arith), number_eq y x (omega arith))

-- ---- one comparison behind another

pub turn_then : (o p : Ordering) → turned (o and_then p) ≡ turned o and_then turned p
unfolding ◌and_then◌
turn_then Ordering.lt p = refl
turn_then Ordering.eq p = refl
turn_then Ordering.gt p = refl

-- the first is less, or finds its two equal and the second is less
pub then_lt : (o p : Ordering) → o and_then p ≡ Ordering.lt → (o ≡ Ordering.lt) ⊎ ((o ≡ Ordering.eq) × (p ≡ Ordering.lt))
unfolding ◌and_then◌
then_lt Ordering.lt p e = inl refl
then_lt Ordering.eq p e = inr (refl, e)
then_lt Ordering.gt p e = absurd (not_gt_lt e)

pub lt_then : (o p : Ordering) → o ≡ Ordering.lt → o and_then p ≡ Ordering.lt
unfolding ◌and_then◌
lt_then o p e = rw e

pub eq_then : (o p : Ordering) → o ≡ Ordering.eq → p ≡ Ordering.lt → o and_then p ≡ Ordering.lt
unfolding ◌and_then◌
eq_then o p e k = rw (e, k)

module _ {A : Type 0} (c : A → A → Ordering) (total : Total c) where
  pub self_eq : (x : A) → c x x ≡ Ordering.eq
  self_eq x = is_eq (c x x) (total.exact.self x)

  pub eq_same : (x y : A) → c x y ≡ Ordering.eq → x ≡ y
  eq_same x y e = total.exact.tells x y (ap compare_is_eq e)

  -- two comparisons of which the first decides, or both
  pub then_trans : {B : Type 0} (d : B → B → Ordering) → Total d → (x y z : A) (u v w : B) → c x y and_then d u v ≡ Ordering.lt → c y z and_then d v w ≡ Ordering.lt → c x z and_then d u w ≡ Ordering.lt
  then_trans d td x y z u v w p q = go (then_lt (c x y) (d u v) p) (then_lt (c y z) (d v w) q)
    where
      go : (c x y ≡ Ordering.lt) ⊎ ((c x y ≡ Ordering.eq) × (d u v ≡ Ordering.lt)) → (c y z ≡ Ordering.lt) ⊎ ((c y z ≡ Ordering.eq) × (d v w ≡ Ordering.lt)) → c x z and_then d u w ≡ Ordering.lt
      go (inl a) (inl b) = lt_then (c x z) (d u w) (total.trans x y z a b)
      go (inl a) (inr b) = lt_then (c x z) (d u w) (rw (eq_same y z b.0) at a)
      go (inr a) (inl b) = lt_then (c x z) (d u w) (rw (eq_same x y a.0) b)
      go (inr a) (inr b) = eq_then (c x z) (d u w) (rw (eq_same x y a.0) b.0) (td.trans u v w a.1 b.1)

pub total_tags : Total compare_tags
unfolding compare_tags
total_tags = record { exact = exact_tags; turns = turns; trans = trans }
  where
    turns : (x y : List ℕ) → compare_tags y x ≡ turned (compare_tags x y)
    turns [] [] = refl
    turns [] (b ∷ y) = refl
    turns (a ∷ x) [] = refl
    turns (a ∷ x) (b ∷ y) = rw (total_number.turns a b, turns x y) (sym (turn_then (compare a b) (compare_tags x y)))

    trans : (x y z : List ℕ) → compare_tags x y ≡ Ordering.lt → compare_tags y z ≡ Ordering.lt → compare_tags x z ≡ Ordering.lt
    trans [] [] z p q = q
    trans [] (b ∷ y) [] p q = absurd (not_gt_lt q)
    trans [] (b ∷ y) (d ∷ z) p q = refl
    trans (a ∷ x) [] z p q = absurd (not_gt_lt p)
    trans (a ∷ x) (b ∷ y) [] p q = absurd (not_gt_lt q)
    trans (a ∷ x) (b ∷ y) (d ∷ z) p q = go (then_lt (compare a b) (compare_tags x y) p) (then_lt (compare b d) (compare_tags y z) q) (trans x y z)
      where
        go : (compare a b ≡ Ordering.lt) ⊎ ((compare a b ≡ Ordering.eq) × (compare_tags x y ≡ Ordering.lt)) → (compare b d ≡ Ordering.lt) ⊎ ((compare b d ≡ Ordering.eq) × (compare_tags y z ≡ Ordering.lt)) → (compare_tags x y ≡ Ordering.lt → compare_tags y z ≡ Ordering.lt → compare_tags x z ≡ Ordering.lt) → compare a d and_then compare_tags x z ≡ Ordering.lt
        go (inl p) (inl q) below = lt_then (compare a d) (compare_tags x z) (total_number.trans a b d p q)
        go (inl p) (inr q) below = lt_then (compare a d) (compare_tags x z) (rw (eq_same compare total_number b d q.0) at p)
        go (inr p) (inl q) below = lt_then (compare a d) (compare_tags x z) (rw (eq_same compare total_number a b p.0) q)
        go (inr p) (inr q) below = eq_then (compare a d) (compare_tags x z) (rw (eq_same compare total_number a b p.0) q.0) (below p.1 q.1)

pub total_ends : Total compare_ends
unfolding compare_ends
total_ends = record { exact = exact_ends; turns = turns; trans = trans }
  where
    turns : (x y : UnwindEnd) → compare_ends y x ≡ turned (compare_ends x y)
    turns (handler a) (handler b) = total_number.turns a b
    turns (handler a) propagate = refl
    turns (handler a) resume = refl
    turns propagate (handler b) = refl
    turns propagate propagate = refl
    turns propagate resume = refl
    turns resume (handler b) = refl
    turns resume propagate = refl
    turns resume resume = refl

    trans : (x y z : UnwindEnd) → compare_ends x y ≡ Ordering.lt → compare_ends y z ≡ Ordering.lt → compare_ends x z ≡ Ordering.lt
    trans (handler a) (handler b) (handler d) p q = total_number.trans a b d p q
    trans (handler a) (handler b) propagate p q = refl
    trans (handler a) (handler b) resume p q = refl
    trans (handler a) propagate (handler d) p q = absurd (not_gt_lt q)
    trans (handler a) propagate propagate p q = refl
    trans (handler a) propagate resume p q = refl
    trans (handler a) resume (handler d) p q = absurd (not_gt_lt q)
    trans (handler a) resume propagate p q = refl
    trans (handler a) resume resume p q = refl
    trans propagate (handler b) z p q = absurd (not_gt_lt p)
    trans propagate propagate z p q = q
    trans propagate resume (handler d) p q = absurd (not_gt_lt q)
    trans propagate resume propagate p q = absurd (not_gt_lt q)
    trans propagate resume resume p q = refl
    trans resume (handler b) z p q = absurd (not_gt_lt p)
    trans resume propagate z p q = absurd (not_gt_lt p)
    trans resume resume z p q = q

pub total-tagged : {A : Type 0} (c : A → A → Ordering) → Total c → Total (compare_tagged c)
unfolding compare_tagged
total-tagged c total =
    record {
      exact = exact_tagged c total.exact;
      turns = λ x y.
          rw (total_tags.turns x.calls y.calls, total.turns x.what y.what)
          (sym (turn_then (compare_tags x.calls y.calls) (c x.what y.what)));
      trans = λ x y z p q. then_trans compare_tags total_tags c total x.calls y.calls z.calls x.what y.what z.what p q;
    }

pub total_key : Total (compare_tagged compare)
total_key = total-tagged compare total_number

pub total_end : Total (compare_tagged compare_ends)
total_end = total-tagged compare_ends total_ends

-- ---- putting

module _ {A : Type 0} (c : A → A → Ordering) (total : Total c) where
  pub put_comm : (x y : A) (l : List A) → put c x (put c y l) ≡ put c y (put c x l)
  unfolding put placed
  put_comm x y [] = go (c x y) refl
    where
      go : (o : Ordering) → c x y ≡ o → placed (c x y) x y [] (x ∷ []) ≡ placed (c y x) y x [] (y ∷ [])
      go Ordering.lt e = rw (total.turns x y, e)
      go Ordering.eq e = rw (total.turns x y, e) (ap (λ (z : A). z ∷ []) (sym (eq_same c total x y e)))
      go Ordering.gt e = rw (total.turns x y, e)
  put_comm x y (z ∷ l) = go (c x z) (c y z) (c x y) refl refl refl (put_comm x y l)
    where
      go : (a b o : Ordering) → c x z ≡ a → c y z ≡ b → c x y ≡ o → put c x (put c y l) ≡ put c y (put c x l) → put c x (put c y (z ∷ l)) ≡ put c y (put c x (z ∷ l))
      go Ordering.lt Ordering.lt Ordering.lt p q r below = simp (total.turns x y, p, q, r)
      go Ordering.lt Ordering.lt Ordering.eq p q r below = simp (total.turns x y, p, q, r) (ap (λ (w : A). w ∷ z ∷ l) (sym (eq_same c total x y r)))
      go Ordering.lt Ordering.lt Ordering.gt p q r below = simp (total.turns x y, p, q, r)
      go Ordering.eq Ordering.lt o p q r below =
          let more : c x y ≡ Ordering.gt = rw (eq_same c total x z p) (total.turns y z ∙ ap turned q) in
          simp (p, q, more)
      go Ordering.gt Ordering.lt o p q r below =
          let less : c y x ≡ Ordering.lt = total.trans y z x q (total.turns x z ∙ ap turned p) in
          let more : c x y ≡ Ordering.gt = total.turns y x ∙ ap turned less in
          simp (p, q, more)
      go Ordering.lt Ordering.eq o p q r below =
          let more : c y x ≡ Ordering.gt = rw (eq_same c total y z q) (total.turns x z ∙ ap turned p) in
          simp (p, q, more)
      go Ordering.eq Ordering.eq o p q r below = simp (p, q)
      go Ordering.gt Ordering.eq o p q r below = simp (p, q)
      go Ordering.lt Ordering.gt o p q r below =
          let less : c x y ≡ Ordering.lt = total.trans x z y p (total.turns y z ∙ ap turned q) in
          let more : c y x ≡ Ordering.gt = total.turns x y ∙ ap turned less in
          simp (p, q, more)
      go Ordering.eq Ordering.gt o p q r below = simp (p, q)
      go Ordering.gt Ordering.gt o p q r below = simp (p, q) (ap (λ (t : List A). z ∷ t) below)

  pub put_again : (x : A) (l : List A) → put c x (put c x l) ≡ put c x l
  unfolding put placed
  put_again x [] = rw (self_eq c total x)
  put_again x (z ∷ l) = go (c x z) refl (put_again x l)
    where
      go : (o : Ordering) → c x z ≡ o → put c x (put c x l) ≡ put c x l → put c x (put c x (z ∷ l)) ≡ put c x (z ∷ l)
      go Ordering.lt e below = simp (e, self_eq c total x)
      go Ordering.eq e below = simp e
      go Ordering.gt e below = simp e (ap (λ (t : List A). z ∷ t) below)

  pub sorted-behind : (l : List A) (x : A) → sorted c (l ++ (x ∷ [])) ≡ put c x (sorted c l)
  unfolding sorted
  sorted-behind [] x = refl
  sorted-behind (y ∷ l) x = ap (put c y) (sorted-behind l x) ∙ put_comm y x (sorted c l)

  pub put-member : {x : A} {l : List A} → x ∈ l → put c x (sorted c l) ≡ sorted c l
  unfolding sorted
  put-member {x} (Memᴰ.head {x = y} {xs = l} e) = rw e (put_again y (sorted c l))
  put-member {x} (Memᴰ.tail {x = y} {xs = l} m) = put_comm x y (sorted c l) ∙ ap (put c y) (put-member m)

  -- one that comes before all others, which are left
  pub put_least : (x : A) (l : List A) → ((y : A) → y ∈ l → is_le (c x y) ≡ true) → put c x (sorted c l) ≡ x ∷ sorted c (keep (λ (y : A). is_lt (c x y)) l)
  unfolding sorted keep put placed
  put_least x [] least = refl
  put_least x (y ∷ l) least =
      put_comm x y (sorted c l)
      ∙ ap (put c y) (put_least x l (λ z m. least z (Memᴰ.tail m)))
      ∙ go (c x y) refl (least y (Memᴰ.head refl))
    where
      r : List A
      r = keep (λ (z : A). is_lt (c x z)) l

      go : (o : Ordering) → c x y ≡ o → is_le (c x y) ≡ true → put c y (x ∷ sorted c r) ≡ x ∷ sorted c (cond (is_lt (c x y)) (y ∷ r) r)
      go Ordering.lt e le = simp (total.turns x y, e)
      go Ordering.eq e le = simp (total.turns x y, e)
      go Ordering.gt e le = absurd (false≢true (sym (ap is_le e) ∙ le))

-- ---- the next in order

keep-keep : {A : Type 0} (f g : A → Bool) (l : List A) → ((x : A) → g x ≡ true → f x ≡ true) → keep g (keep f l) ≡ keep g l
unfolding keep
keep-keep f g [] h = refl
keep-keep {A} f g (x ∷ l) h = go (f x) (g x) refl refl (keep-keep f g l h)
  where
    go : (a b : Bool) → f x ≡ a → g x ≡ b → keep g (keep f l) ≡ keep g l → keep g (cond (f x) (x ∷ keep f l) (keep f l)) ≡ cond (g x) (x ∷ keep g l) (keep g l)
    go true true p q below = rw (p, q) (ap (λ (m : List A). x ∷ m) below)
    go true false p q below = rw (p, q) below
    go false true p q below = absurd (false≢true (sym p ∙ h x q))
    go false false p q below = rw (p, q) below

module _ {A : Type 0} (c : A → A → Ordering) (total : Total c) where
  lt_le : (x y : A) → is_lt (c x y) ≡ true → is_le (c x y) ≡ true
  lt_le x y = go (c x y)
    where
      go : (o : Ordering) → is_lt o ≡ true → is_le o ≡ true
      go Ordering.lt e = refl
      go Ordering.eq e = refl
      go Ordering.gt e = e

  not_lt : (x y : A) → is_lt (c y x) ≡ false → is_le (c x y) ≡ true
  not_lt x y e = go (c x y) refl
    where
      go : (o : Ordering) → c x y ≡ o → is_le o ≡ true
      go Ordering.lt p = refl
      go Ordering.eq p = refl
      go Ordering.gt p = absurd (false≢true (sym e ∙ ap is_lt (total.turns x y ∙ ap turned p)))

  le_trans : (x y z : A) → is_le (c x y) ≡ true → is_le (c y z) ≡ true → is_le (c x z) ≡ true
  le_trans x y z p q = go (c x y) (c y z) refl refl
    where
      go : (a b : Ordering) → c x y ≡ a → c y z ≡ b → is_le (c x z) ≡ true
      go Ordering.lt Ordering.lt e k = rw (total.trans x y z e k)
      go Ordering.lt Ordering.eq e k = rw (← eq_same c total y z k) p
      go Ordering.lt Ordering.gt e k = absurd (false≢true (sym (ap is_le k) ∙ q))
      go Ordering.eq b e k = rw (eq_same c total x y e) q
      go Ordering.gt b e k = absurd (false≢true (sym (ap is_le e) ∙ p))

  module _ (last : Option A) where
    -- what comes after one that comes after `last`
    beyond : (x y : A) → after c last x ≡ true → after c (some x) y ≡ true → after c last y ≡ true
    beyond x y = go last
      where
        go : (o : Option A) → after c o x ≡ true → is_lt (c x y) ≡ true → after c o y ≡ true
        go none p q = refl
        go (some k) p q = ap is_lt (total.trans k x y (is_lt_law (c k x) p) (is_lt_law (c x y) q))

    pub not_beyond : (x y : A) → after c last x ≡ true → after c last y ≡ false → after c (some x) y ≡ false
    not_beyond x y p q = go (after c (some x) y) refl
      where
        go : (b : Bool) → after c (some x) y ≡ b → b ≡ false
        go true e = absurd (false≢true (sym q ∙ beyond x y p e))
        go false e = refl

    -- what is found among those of a list, where `best` was found before
    record Near (best : Option A) (l : List A) (x : A) : Type 0 where
      from : (best ≡ some x) ⊎ ((x ∈ l) × (after c last x ≡ true))
      most : (b : A) → best ≡ some b → is_le (c x b) ≡ true
      least : (y : A) → y ∈ l → after c last y ≡ true → is_le (c x y) ≡ true

    near : (best : Option A) (l : List A) (x : A) → nearest c last best l ≡ some x → Near best l x
    unfolding nearest nearer
    near best [] x e =
        record {
          from = inl e;
          most = λ b p. let q : x ≡ b = cc in rw q (total_le b);
          least = λ y m. absurd (Memᴰ.not-nil m);
        }
      where
        total_le : (b : A) → is_le (c b b) ≡ true
        total_le b = rw (self_eq c total b)
    near best (y ∷ l) x e = go (after c last y) (before c y best) refl refl (near (nearer c last best y) l x e)
      where
        -- y is nearer than what was found
        taken : after c last y ≡ true → before c y best ≡ true → Near (some y) l x → Near best (y ∷ l) x
        taken p q n = record { from = from n.from; most = most; least = least }
          where
            from : (some y ≡ some x) ⊎ ((x ∈ l) × (after c last x ≡ true)) → (best ≡ some x) ⊎ ((x ∈ y ∷ l) × (after c last x ≡ true))
            from (inl k) = let same : x ≡ y = cc in inr (Memᴰ.head same, rw same p)
            from (inr k) = inr (Memᴰ.tail k.0, k.1)

            most : (b : A) → best ≡ some b → is_le (c x b) ≡ true
            most b k = le_trans x y b (n.most y refl) (lt_le y b (rw k at q))

            least : (z : A) → z ∈ y ∷ l → after c last z ≡ true → is_le (c x z) ≡ true
            least z (Memᴰ.head k) a = rw k (n.most y refl)
            least z (Memᴰ.tail k) a = n.least z k a

        -- it is not: it comes no later than `last`, or what was found comes no later than it
        left : (y' : after c last y ≡ true → before c y best ≡ false) → Near best l x → Near best (y ∷ l) x
        left far n = record { from = from n.from; most = n.most; least = least }
          where
            from : (best ≡ some x) ⊎ ((x ∈ l) × (after c last x ≡ true)) → (best ≡ some x) ⊎ ((x ∈ y ∷ l) × (after c last x ≡ true))
            from (inl k) = inl k
            from (inr k) = inr (Memᴰ.tail k.0, k.1)

            beyond : (o : Option A) → best ≡ o → before c y o ≡ false → is_le (c x y) ≡ true
            beyond none k f = absurd (false≢true (sym f))
            beyond (some b) k f = le_trans x b y (n.most b k) (not_lt b y f)

            least : (z : A) → z ∈ y ∷ l → after c last z ≡ true → is_le (c x z) ≡ true
            least z (Memᴰ.head k) a = rw k (beyond best refl (far (rw k at a)))
            least z (Memᴰ.tail k) a = n.least z k a

        go : (t u : Bool) → after c last y ≡ t → before c y best ≡ u → Near (cond (after c last y && before c y best) (some y) best) l x → Near best (y ∷ l) x
        go true true p q n = taken p q (rw (p, q) at n)
        go true false p q n = left (λ k. q) (rw (p, q) at n)
        go false u p q n = left (λ k. absurd (false≢true (sym p ∙ k))) (rw p at n)

    none_near : (best : Option A) (l : List A) → nearest c last best l ≡ none → (best ≡ none) × (keep (after c last) l ≡ [])
    unfolding nearest nearer keep
    none_near best [] e = (e, refl)
    none_near best (y ∷ l) e = go (after c last y) (before c y best) refl refl (none_near (nearer c last best y) l e)
      where
        go : (t u : Bool) → after c last y ≡ t → before c y best ≡ u → (cond (after c last y && before c y best) (some y) best ≡ none) × (keep (after c last) l ≡ []) → (best ≡ none) × (cond (after c last y) (y ∷ keep (after c last) l) (keep (after c last) l) ≡ [])
        go true true p q n = absurd (none-ne-some y (sym (rw (p, q) at n.0)))
        go true false p q n = absurd (none-ne-some y (absent best (rw (p, q) at n.0) q))
          where
            absent : (o : Option A) → o ≡ none → before c y o ≡ false → none ≡ some y
            absent none k f = absurd (false≢true (sym f))
            absent (some b) k f = absurd (none-ne-some b (sym k))
        go false u p q n = (rw p at n.0, rw p n.1)

    pub next_none : (l : List A) → nearest c last none l ≡ none → keep (after c last) l ≡ []
    next_none l e = (none_near none l e).1

    found : (l : List A) (x : A) → (none ≡ some x) ⊎ ((x ∈ l) × (after c last x ≡ true)) → (x ∈ l) × (after c last x ≡ true)
    found l x (inl e) = absurd (none-ne-some x e)
    found l x (inr h) = h

    pub next_in : (l : List A) (x : A) → nearest c last none l ≡ some x → (x ∈ l) × (after c last x ≡ true)
    next_in l x e = found l x (near none l x e).from

    pub next_new : (l : List A) (x : A) → x ∈ l → after c last x ≡ true → before c x (nearest c last none l) ≡ true → ⊥
    next_new l x m a = go (nearest c last none l) refl
      where
        go : (o : Option A) → nearest c last none l ≡ o → before c x o ≡ true → ⊥
        go none e b = Memᴰ.not-nil (rw (next_none l e) at (mem_keep (after c last) m a))
        go (some k) e b = false≢true (sym (ap is_le (total.turns x k ∙ ap turned (is_lt_law (c x k) b))) ∙ (near none l k e).least x m a)

    pub next_some : (l : List A) (x : A) → nearest c last none l ≡ some x → sorted c (keep (after c last) l) ≡ x ∷ sorted c (keep (after c (some x)) l)
    next_some l x e =
        let n = near none l x e in
        let here = next_in l x e in
        let k = keep (after c last) l in
        sym (put-member c total (mem_keep (after c last) here.0 here.1))
        ∙ put_least c total x k (λ y m. let z = keep_mem (after c last) l m in n.least y z.0 z.1)
        ∙ ap (λ (m : List A). x ∷ sorted c m) (keep-keep (after c last) (after c (some x)) l (λ y. beyond x y here.1))

  pub next_final : (last : Option A) (l : List A) → nearest c last none l ≡ none → (x : A) → after c last x ≡ true → nearest c (some x) none l ≡ none
  next_final last l e x p = go (nearest c (some x) none l) refl
    where
      go : (o : Option A) → nearest c (some x) none l ≡ o → o ≡ none
      go none k = refl
      go (some y) k =
          let here = next_in (some x) l y k in
          absurd (next_new last l y here.0 (beyond last x y p here.1) (rw e))
