-- Lists that rise, which are those that sorting gives: a sorted list hangs on the members alone.
--     Rising                       each element comes before all behind it
--     rising_put, rising_sorted    what is put and sorted rises
--     sorted_rising                a list that rises is sorted
--     sorted_middle, sorted-swap, sorted-within, sorted-same     sorting hangs on the members alone
--     rising_is                    a list that rises and has the members of another is that one, sorted
--     put-length, length-put       putting adds one at most
--     sorted-length                sorting drops repeats
--     rising_length                a list that rises is no longer than one that has its members
--     rising_join, rising_front, rising_less     two lists, one behind the other
--     rising_keep                  some of a list that rises
--     total_then                   one comparison behind another, of parts that tell all
--     total_hop_ends, total_leaps, total_exits
use mathlib.Core.Path.{◌≡◌, refl, sym, ◌∙◌, ap}
use mathlib.Core.Logic.{◌⊎◌, inl, inr}
use mathlib.Core.Bool.{Bool, true, false, cond}
use mathlib.Core.List.Memᴰ
use mathlib.Core.List.{List, [], ◌∷◌, ◌++◌, append-nil}
use Prim.Native.Nat.{suc, ◌≤◌, compare, Ordering}
use native.Mathlib.Omega.{arith}
use lib.ListN.{length}
use Rattle.addition.specs.Lists.{keep}
use Rattle.addition.specs.Order.{placed, put, sorted, ◌and_then◌, compare_tags}
use Rattle.addition.specs.Ways.{HopEnd, block, leave, Leap, compare_hop_ends, compare_leaps}
use Rattle.unwind.specs.Sources.{Exit, compare_exits}
use Rattle.addition.specs.Walk.{◌∈◌}
use Rattle.addition.proofs.Lists.{none_in, keep_mem}
use Rattle.addition.proofs.Order.{both, join, exact_hop_ends, put_mem}
use Rattle.unwind.proofs.TrieOrder.{turned, Total, turn_then, then_trans, total_number, total_tags, put_comm, put-member, not_gt_lt}

module _ {A : Type 0} (c : A → A → Ordering) where
  unfoldable pub Rising : List A → Type 0
  Rising [] = Unit {0}
  Rising (x ∷ l) = ((y : A) → y ∈ l → c x y ≡ Ordering.lt) × Rising l

  pub put-length : (x : A) (l : List A) → length l ≤ length (put c x l)
  unfolding put placed
  put-length x [] = omega arith
  put-length x (y ∷ l) = go (c x y) (put-length x l)
    where
      go : (o : Ordering) → length l ≤ length (put c x l) → suc (length l) ≤ length (placed o x y l (put c x l))
      go Ordering.lt h = omega arith
      go Ordering.eq h = omega arith
      go Ordering.gt h = omega arith

  pub length-put : (x : A) (l : List A) → length (put c x l) ≤ suc (length l)
  unfolding put placed
  length-put x [] = omega arith
  length-put x (y ∷ l) = go (c x y) (length-put x l)
    where
      go : (o : Ordering) → length (put c x l) ≤ suc (length l) → length (placed o x y l (put c x l)) ≤ suc (suc (length l))
      go Ordering.lt h = omega arith
      go Ordering.eq h = omega arith
      go Ordering.gt h = omega arith

  pub sorted-length : (l : List A) → length (sorted c l) ≤ length l
  unfolding sorted
  sorted-length [] = omega arith
  sorted-length (x ∷ l) = let h = sorted-length l in let k = length-put x (sorted c l) in omega arith

  back_length : (l m : List A) → length (sorted c m) ≤ length (sorted c (l ++ m))
  unfolding sorted
  back_length [] m = omega arith
  back_length (x ∷ l) m = let h = back_length l m in let k = put-length x (sorted c (l ++ m)) in omega arith

  -- ---- one behind the other

  pub rising_join : (l m : List A) → Rising l → Rising m → ((x y : A) → x ∈ l → y ∈ m → c x y ≡ Ordering.lt) → Rising (l ++ m)
  unfolding Rising
  rising_join [] m a b h = b
  rising_join (x ∷ l) m a b h = (λ y k. go y (Memᴰ.append_cases l k), rising_join l m a.1 b (λ z y i j. h z y (Memᴰ.tail i) j))
    where
      go : (y : A) → (y ∈ l) ⊎ (y ∈ m) → c x y ≡ Ordering.lt
      go y (inl i) = a.0 y i
      go y (inr j) = h x y (Memᴰ.head refl) j

  pub rising_front : (l m : List A) → Rising (l ++ m) → Rising l
  unfolding Rising
  rising_front [] m a = tt
  rising_front (x ∷ l) m a = (λ y k. a.0 y (Memᴰ.append_left m k), rising_front l m a.1)

  pub rising_less : {x y : A} {l : List A} (m : List A) → Rising (l ++ m) → x ∈ l → y ∈ m → c x y ≡ Ordering.lt
  unfolding Rising
  rising_less {y = y} m a (Memᴰ.head {xs = l} e) k = rw e (a.0 y (Memᴰ.append_right l k))
  rising_less m a (Memᴰ.tail i) k = rising_less m a.1 i k

  pub rising_keep : (f : A → Bool) (l : List A) → Rising l → Rising (keep f l)
  unfolding Rising keep
  rising_keep f [] a = tt
  rising_keep f (x ∷ l) a = go (f x) (rising_keep f l a.1)
    where
      go : (b : Bool) → Rising (keep f l) → Rising (cond b (x ∷ keep f l) (keep f l))
      go true below = (λ y k. a.0 y (keep_mem f l k).0, below)
      go false below = below

  module _ (total : Total c) where
    pub rising_put : (x : A) (l : List A) → Rising l → Rising (put c x l)
    unfolding Rising put placed
    rising_put x [] a = (λ y k. absurd (none_in k), tt)
    rising_put x (y ∷ l) a = go (c x y) refl (rising_put x l a.1) (λ z k. below z k)
      where
        below : (z : A) → z ∈ y ∷ l → c x y ≡ Ordering.lt → c x z ≡ Ordering.lt
        below z (Memᴰ.head e) h = rw e h
        below z (Memᴰ.tail k) h = total.trans x y z h (a.0 z k)

        above : (z : A) → c x y ≡ Ordering.gt → z ∈ put c x l → (z ≡ x) ⊎ (z ∈ l) → c y z ≡ Ordering.lt
        above z h k (inl e) = rw e (total.turns x y ∙ ap turned h)
        above z h k (inr i) = a.0 z i

        go : (o : Ordering) → c x y ≡ o → Rising (put c x l) → ((z : A) → z ∈ y ∷ l → c x y ≡ Ordering.lt → c x z ≡ Ordering.lt) → Rising (placed o x y l (put c x l))
        go Ordering.lt e r b = (λ z k. b z k e, a)
        go Ordering.eq e r b = a
        go Ordering.gt e r b = (λ z k. above z e k (put_mem c x l k), r)

    pub rising_sorted : (l : List A) → Rising (sorted c l)
    unfolding Rising sorted
    rising_sorted [] = tt
    rising_sorted (x ∷ l) = rising_put x (sorted c l) (rising_sorted l)

    pub sorted_rising : (l : List A) → Rising l → sorted c l ≡ l
    unfolding Rising sorted put placed
    sorted_rising [] a = refl
    sorted_rising (x ∷ l) a = ap (put c x) (sorted_rising l a.1) ∙ go l (λ y k. a.0 y k)
      where
        go : (m : List A) → ((y : A) → y ∈ m → c x y ≡ Ordering.lt) → put c x m ≡ x ∷ m
        go [] h = refl
        go (y ∷ m) h = rw (h y (Memᴰ.head refl))

    -- ---- the members alone

    pub sorted_middle : (l : List A) (x : A) (m : List A) → sorted c (l ++ x ∷ m) ≡ put c x (sorted c (l ++ m))
    unfolding sorted
    sorted_middle [] x m = refl
    sorted_middle (y ∷ l) x m = ap (put c y) (sorted_middle l x m) ∙ put_comm c total y x (sorted c (l ++ m))

    pub sorted-swap : (l m : List A) → sorted c (l ++ m) ≡ sorted c (m ++ l)
    unfolding sorted
    sorted-swap l [] = rw append-nil
    sorted-swap l (x ∷ m) = sorted_middle l x m ∙ ap (put c x) (sorted-swap l m)

    pub sorted-within : (l m : List A) → ((x : A) → x ∈ l → x ∈ m) → sorted c (l ++ m) ≡ sorted c m
    unfolding sorted
    sorted-within [] m h = refl
    sorted-within (x ∷ l) m h =
        put-member c total (Memᴰ.append_right l (h x (Memᴰ.head refl)))
        ∙ sorted-within l m (λ y k. h y (Memᴰ.tail k))

    pub sorted-same : (l m : List A) → ((x : A) → x ∈ l → x ∈ m) → ((x : A) → x ∈ m → x ∈ l) → sorted c l ≡ sorted c m
    sorted-same l m h k = sym (sorted-within m l k) ∙ sorted-swap m l ∙ sorted-within l m h

    pub rising_is : (l m : List A) → Rising l → ((x : A) → x ∈ l → x ∈ m) → ((x : A) → x ∈ m → x ∈ l) → sorted c m ≡ l
    rising_is l m a h k = sorted-same m l k h ∙ sorted_rising l a

    pub rising_length : (l m : List A) → Rising l → ((x : A) → x ∈ l → x ∈ m) → length l ≤ length m
    rising_length l m a h =
        let p = back_length m l in
        let q : length (sorted c (m ++ l)) ≡ length (sorted c m) = ap length (sorted-swap m l ∙ sorted-within l m h) in
        let r : length (sorted c l) ≡ length l = ap length (sorted_rising l a) in
        let t = sorted-length m in
        omega arith

-- ---- one comparison behind another

module _ {A B D : Type 0} (f : A → B) (h : A → D) (c : B → B → Ordering) (d : D → D → Ordering) (tc : Total c) (td : Total d) (tells : (x y : A) → f x ≡ f y → h x ≡ h y → x ≡ y) where
  pub total_then : Total (λ (x y : A). c (f x) (f y) and_then d (h x) (h y))
  total_then =
      record {
        exact =
            record {
              tells = λ x y e.
                  let k = both (c (f x) (f y)) (d (h x) (h y)) e in
                  tells x y (tc.exact.tells (f x) (f y) k.0) (td.exact.tells (h x) (h y) k.1);
              self = λ x. join (c (f x) (f x)) (d (h x) (h x)) (tc.exact.self (f x)) (td.exact.self (h x));
            };
        turns = λ x y. rw (tc.turns (f x) (f y), td.turns (h x) (h y)) (sym (turn_then (c (f x) (f y)) (d (h x) (h y))));
        trans = λ x y z p q. then_trans c tc d td (f x) (f y) (f z) (h x) (h y) (h z) p q;
      }

pub total_hop_ends : Total compare_hop_ends
unfolding compare_hop_ends
total_hop_ends = record { exact = exact_hop_ends; turns = turns; trans = trans }
  where
    turns : (x y : HopEnd) → compare_hop_ends y x ≡ turned (compare_hop_ends x y)
    turns (block a) (block b) = total_number.turns a b
    turns (block a) leave = refl
    turns leave (block b) = refl
    turns leave leave = refl

    trans : (x y z : HopEnd) → compare_hop_ends x y ≡ Ordering.lt → compare_hop_ends y z ≡ Ordering.lt → compare_hop_ends x z ≡ Ordering.lt
    trans (block a) (block b) (block d) p q = total_number.trans a b d p q
    trans (block a) (block b) leave p q = refl
    trans (block a) leave (block d) p q = absurd (not_gt_lt q)
    trans (block a) leave leave p q = refl
    trans leave (block b) z p q = absurd (not_gt_lt p)
    trans leave leave z p q = q

pub total_leaps : Total compare_leaps
unfolding compare_leaps
total_leaps = total_then (λ (x : Leap). x.source) (λ (x : Leap). x.end) compare compare_hop_ends total_number total_hop_ends (λ x y p q. λ i. record { source = p i; end = q i })

pub total_exits : Total compare_exits
unfolding compare_exits
total_exits = total_then (λ (x : Exit). x.leap) (λ (x : Exit). x.calls) compare_leaps compare_tags total_leaps total_tags (λ x y p q. λ i. record { leap = p i; calls = q i })
