-- Hops of sorted exits, one source after the other.
--     hops_more, hops_then_law         hops_on over two lists, and over one exit more
--     hops_sorted                  the hops of ways are those of their exits, sorted
--     exits_in_law, in_exits           the exits of a source
--     exits_flat                   sorted exits, source by source
--     joined-map                   lists of mapped members
--     on_apart, on_source          hops that leap from elsewhere, and where hops come from
--     hops_flat                    hops, source by source
--     lists_then                   one exit more adds a list
--     Last, last_of, then_last     the last hop is the last exit's
--     number_one, number_then      one exit more adds a hop if it leaps elsewhere than the last
use mathlib.Core.Path.{◌≡◌, refl, sym, ◌∙◌, ap}
use mathlib.Core.Logic.{◌⊎◌, inl, inr}
use mathlib.Core.Bool.{Bool, true, false, cond, false≢true}
use mathlib.Core.List.Memᴰ
use mathlib.Core.List.{List, [], ◌∷◌, ◌++◌, map, map-map, map-append, append-nil}
use Prim.Native.Nat.{ℕ, zero, suc, ◌+◌, ◌<◌, compare, Ordering}
use native.Mathlib.Omega.{arith}
use borrow.Author.Tests.{eq-eqb, eqb-true}
use lib.Dec.{compare_is_eq}
use lib.ListN.{length, length-append}
use lib.Seq.{append_snoc}
use Rattle.graph.specs.Fold.{flat}
use Rattle.addition.specs.Lists.{keep, joined}
use Rattle.addition.specs.Order.{compare_tags, put, placed, sorted}
use Rattle.addition.specs.Ways.{Hop, Way, Leap, leap, compare_hop_ends, compare_leaps, lists_of, hops_of}
use Rattle.unwind.specs.Sources.{Exit, exit, compare_exits, is_from, exits_at, leap_of, first_hop, with_list, hops_then, hops_on}
use Rattle.addition.specs.Walk.{◌∈◌}
use Rattle.addition.proofs.Lists.{none_in, mem_keep, keep_mem, mem_joined, joined_mem, mem_map, map_mem, mem_flat, flat_mem}
use Rattle.addition.proofs.Order.{exact_leaps, mem_sorted, sorted_mem}
use Rattle.unwind.proofs.TrieKeys.{joined_append}
use Rattle.unwind.proofs.TrieOrder.{turned, then_lt, lt_then, number_lt, eq_same, sorted-behind, total_tags}
use Rattle.unwind.proofs.Rising.{Rising, rising_join, rising_less, rising_sorted, sorted-same, rising_is, total_leaps, total_exits}

-- ---- hops_on

pub hops_more : (hs : List Hop) (l m : List Exit) → hops_on hs (l ++ m) ≡ hops_on (hops_on hs l) m
unfolding hops_on
hops_more hs [] m = refl
hops_more hs (x ∷ l) m = hops_more (hops_then hs x) l m

pub hops_then_law : (hs : List Hop) (l : List Exit) (x : Exit) → hops_on hs (l ++ (x ∷ [])) ≡ hops_then (hops_on hs l) x
unfolding hops_on
hops_then_law hs l x = hops_more hs l (x ∷ [])

-- ---- the lists of one leap

abbrev one : Leap → Exit → List (List ℕ)
one k x = cond (compare_is_eq (compare_leaps x.leap k)) (x.calls ∷ []) []

abbrev to : List Exit → Leap → List (List ℕ)
to l k = joined (one k) l

abbrev hop_to_law : List Exit → Leap → Hop
hop_to_law l k = record { source = k.source; end = k.end; calls = to l k }

abbrev leaps : List Exit → List Leap
leaps l = sorted compare_leaps (map (λ (x : Exit). x.leap) l)

abbrev all_hops : List Exit → List Hop
all_hops l = map (hop_to_law l) (leaps l)

one_of : {t : List ℕ} (k : Leap) (x : Exit) → t ∈ one k x → (x.leap ≡ k) × (t ≡ x.calls)
one_of {t} k x m = go (compare_is_eq (compare_leaps x.leap k)) refl m
  where
    go : (b : Bool) → compare_is_eq (compare_leaps x.leap k) ≡ b → t ∈ cond b (x.calls ∷ []) [] → (x.leap ≡ k) × (t ≡ x.calls)
    go true e i = (exact_leaps.tells x.leap k e, Memᴰ.eq_of_singleton i)
    go false e i = absurd (none_in i)

of_one : (x : Exit) (k : Leap) → x.leap ≡ k → one k x ≡ x.calls ∷ []
of_one x k e = rw (sym e, exact_leaps.self x.leap)

not_one : (x : Exit) (k : Leap) → (x.leap ≡ k → ⊥) → one k x ≡ []
not_one x k n = go (compare_is_eq (compare_leaps x.leap k)) refl
  where
    go : (b : Bool) → compare_is_eq (compare_leaps x.leap k) ≡ b → cond b (x.calls ∷ []) [] ≡ []
    go true e = absurd (n (exact_leaps.tells x.leap k e))
    go false e = refl

to_none : (l : List Exit) (k : Leap) → ((x : Exit) → x ∈ l → x.leap ≡ k → ⊥) → to l k ≡ []
unfolding joined
to_none [] k n = refl
to_none (x ∷ l) k n = rw (not_one x k (n x (Memᴰ.head refl))) (to_none l k (λ y m. n y (Memᴰ.tail m)))

to_more : (l : List Exit) (x : Exit) (k : Leap) → to (l ++ (x ∷ [])) k ≡ to l k ++ one k x
unfolding joined
to_more l x k = joined_append (one k) l (x ∷ []) ∙ ap (λ (t : List (List ℕ)). to l k ++ t) (append-nil (one k x))

to_same : (l : List Exit) (x : Exit) (k : Leap) → x.leap ≡ k → to (l ++ (x ∷ [])) k ≡ to l k ++ (x.calls ∷ [])
to_same l x k e = to_more l x k ∙ ap (λ (t : List (List ℕ)). to l k ++ t) (of_one x k e)

to_other : (l : List Exit) (x : Exit) (k : Leap) → (x.leap ≡ k → ⊥) → to (l ++ (x ∷ [])) k ≡ to l k
to_other l x k n = to_more l x k ∙ ap (λ (t : List (List ℕ)). to l k ++ t) (not_one x k n) ∙ append-nil (to l k)

-- ---- hops of exits that rise

apart : {a b : Leap} → compare_leaps a b ≡ Ordering.lt → b ≡ a → ⊥
apart {a} {b} e p = false≢true (sym (ap compare_is_eq (rw p at e)) ∙ exact_leaps.self a)

module _ (l : List Exit) (x : Exit) where
  abbrev now : List Exit
  now = l ++ (x ∷ [])

  first_to : to l x.leap ≡ [] → first_hop x ≡ hop_to_law now x.leap
  first_to none = λ i. record { source = x.leap.source; end = x.leap.end; calls = (sym (to_same l x x.leap refl ∙ ap (λ (t : List (List ℕ)). t ++ (x.calls ∷ [])) none)) i }

  other_to : (k : Leap) → compare_leaps k x.leap ≡ Ordering.lt → hop_to_law l k ≡ hop_to_law now k
  other_to k e = λ i. record { source = k.source; end = k.end; calls = (sym (to_other l x k (apart e))) i }

  same_to : (k : Leap) → k ≡ x.leap → with_list (hop_to_law l k) x.calls ≡ hop_to_law now k
  same_to k e = λ i. record { source = k.source; end = k.end; calls = (sym (to_same l x k (sym e))) i }

  turn_lt : (k : Leap) → compare_leaps k x.leap ≡ Ordering.lt → compare_leaps x.leap k ≡ Ordering.gt
  turn_lt k e = total_leaps.turns k x.leap ∙ ap turned e

  step : (ks : List Leap) → Rising compare_leaps ks → ((k : Leap) → k ∈ ks → (compare_leaps k x.leap ≡ Ordering.lt) ⊎ (compare_leaps k x.leap ≡ Ordering.eq)) → ((x.leap ∈ ks → ⊥) → to l x.leap ≡ []) → hops_then (map (hop_to_law l) ks) x ≡ map (hop_to_law now) (put compare_leaps x.leap ks)
  unfolding hops_then put placed Rising
  step [] r le none = ap (λ (h : Hop). h ∷ []) (first_to (none (λ m. none_in m)))
  step (k ∷ []) r le none = go (le k (Memᴰ.head refl))
    where
      go : (compare_leaps k x.leap ≡ Ordering.lt) ⊎ (compare_leaps k x.leap ≡ Ordering.eq) → hops_then (hop_to_law l k ∷ []) x ≡ map (hop_to_law now) (put compare_leaps x.leap (k ∷ []))
      go (inl e) =
          let f : first_hop x ≡ hop_to_law now x.leap = first_to (none (λ m. apart e (Memᴰ.eq_of_singleton m))) in
          let o : hop_to_law l k ≡ hop_to_law now k = other_to k e in
          rw (e, turn_lt k e) (λ i. o i ∷ f i ∷ [])
      go (inr e) =
          let p : k ≡ x.leap = eq_same compare_leaps total_leaps k x.leap e in
          rw (e, total_leaps.turns k x.leap ∙ ap turned e) (λ i. same_to k p i ∷ [])
  step (k ∷ j ∷ ks) r le none =
      let e : compare_leaps k x.leap ≡ Ordering.lt = go (le j (Memᴰ.tail (Memᴰ.head refl))) in
      let below = step (j ∷ ks) r.1 (λ i m. le i (Memᴰ.tail m)) (λ n. none (λ m. n (within e m))) in
      let o : hop_to_law l k ≡ hop_to_law now k = other_to k e in
      rw (turn_lt k e) (λ i. o i ∷ below i)
    where
      go : (compare_leaps j x.leap ≡ Ordering.lt) ⊎ (compare_leaps j x.leap ≡ Ordering.eq) → compare_leaps k x.leap ≡ Ordering.lt
      go (inl p) = total_leaps.trans k j x.leap (r.0 j (Memᴰ.head refl)) p
      go (inr p) = rw (sym (eq_same compare_leaps total_leaps j x.leap p)) (r.0 j (Memᴰ.head refl))

      within : compare_leaps k x.leap ≡ Ordering.lt → x.leap ∈ k ∷ j ∷ ks → x.leap ∈ j ∷ ks
      within e (Memᴰ.head p) = absurd (apart e p)
      within e (Memᴰ.tail m) = m

  one_more : ((y : Exit) → y ∈ l → compare_exits y x ≡ Ordering.lt) → hops_then (all_hops l) x ≡ all_hops now
  unfolding compare_exits
  one_more less =
      step (leaps l) (rising_sorted compare_leaps total_leaps (map (λ (y : Exit). y.leap) l)) le none
      ∙ ap (map (hop_to_law now)) (sym (sorted-behind compare_leaps total_leaps (map (λ (y : Exit). y.leap) l) x.leap))
      ∙ ap (λ (ks : List Leap). map (hop_to_law now) (sorted compare_leaps ks)) (sym (map-append (λ (y : Exit). y.leap) l (x ∷ [])))
    where
      how : (o p : Ordering) → (o ≡ Ordering.lt) ⊎ ((o ≡ Ordering.eq) × (p ≡ Ordering.lt)) → (o ≡ Ordering.lt) ⊎ (o ≡ Ordering.eq)
      how o p (inl e) = inl e
      how o p (inr e) = inr e.0

      le : (k : Leap) → k ∈ leaps l → (compare_leaps k x.leap ≡ Ordering.lt) ⊎ (compare_leaps k x.leap ≡ Ordering.eq)
      le k m =
          let y = map_mem (λ (y : Exit). y.leap) l (sorted_mem compare_leaps (map (λ (y : Exit). y.leap) l) m) in
          rw y.2 (how (compare_leaps y.0.leap x.leap) (compare_tags y.0.calls x.calls) (then_lt (compare_leaps y.0.leap x.leap) (compare_tags y.0.calls x.calls) (less y.0 y.1)))

      none : (x.leap ∈ leaps l → ⊥) → to l x.leap ≡ []
      none n = to_none l x.leap (λ y m e. n (Memᴰ.cast (sym e) (mem_sorted compare_leaps exact_leaps (mem_map (λ (y : Exit). y.leap) m))))

rise : (l m : List Exit) → Rising compare_exits (l ++ m) → hops_on (all_hops l) m ≡ all_hops (l ++ m)
unfolding hops_on
rise l [] r = ap all_hops (sym (append-nil l))
rise l (x ∷ m) r =
    ap (λ (hs : List Hop). hops_on hs m) (one_more l x (λ y k. rising_less compare_exits (x ∷ m) r k (Memᴰ.head refl)))
    ∙ rise (l ++ (x ∷ [])) m (rw (append_snoc l x m) r)
    ∙ ap all_hops (append_snoc l x m)

rise_all : (l : List Exit) → Rising compare_exits l → hops_on [] l ≡ all_hops l
unfolding sorted
rise_all l r = rise [] l r

-- ---- the hops of ways

to_rising : (l : List Exit) (k : Leap) → Rising compare_exits l → Rising compare_tags (to l k)
unfolding Rising joined compare_exits
to_rising [] k r = tt
to_rising (x ∷ l) k r = go (compare_is_eq (compare_leaps x.leap k)) refl (to_rising l k r.1)
  where
    second : (o p : Ordering) → (o ≡ Ordering.lt) ⊎ ((o ≡ Ordering.eq) × (p ≡ Ordering.lt)) → compare_is_eq o ≡ true → p ≡ Ordering.lt
    second o p (inl e) q = absurd (false≢true (sym (ap compare_is_eq e) ∙ q))
    second o p (inr e) q = e.1

    go : (b : Bool) → compare_is_eq (compare_leaps x.leap k) ≡ b → Rising compare_tags (to l k) → Rising compare_tags (cond b (x.calls ∷ []) [] ++ to l k)
    go false e below = below
    go true e below = (
      λ t m.
          let y = joined_mem (one k) l m in
          let z = one_of k y.0 y.2 in
          let p : compare_is_eq (compare_leaps x.leap y.0.leap) ≡ true = rw z.0 e in
          rw z.1 (second (compare_leaps x.leap y.0.leap) (compare_tags x.calls y.0.calls) (then_lt (compare_leaps x.leap y.0.leap) (compare_tags x.calls y.0.calls) (r.0 y.0 y.1)) p),
      below,
    )

pub joined-map : {A B D : Type 0} (f : B → List D) (g : A → B) (l : List A) → joined f (map g l) ≡ joined (λ (x : A). f (g x)) l
unfolding joined
joined-map {D = D} f g [] = refl
joined-map {D = D} f g (x ∷ l) = ap (λ (t : List D). f (g x) ++ t) (joined-map f g l)

module _ (xs : List Exit) where
  abbrev ordered : List Exit
  ordered = sorted compare_exits xs

  all_leaps : leaps ordered ≡ leaps xs
  all_leaps =
      sorted-same compare_leaps total_leaps (map (λ (x : Exit). x.leap) ordered) (map (λ (x : Exit). x.leap) xs)
      (λ k m. let y = map_mem (λ (x : Exit). x.leap) ordered m in Memᴰ.cast y.2 (mem_map (λ (x : Exit). x.leap) (sorted_mem compare_exits xs y.1)))
      (λ k m. let y = map_mem (λ (x : Exit). x.leap) xs m in Memᴰ.cast y.2 (mem_map (λ (x : Exit). x.leap) (mem_sorted compare_exits total_exits.exact y.1)))

  all_lists : (k : Leap) → sorted compare_tags (to xs k) ≡ to ordered k
  all_lists k =
      rising_is compare_tags total_tags (to ordered k) (to xs k) (to_rising ordered k (rising_sorted compare_exits total_exits xs))
      (λ t m. let y = joined_mem (one k) ordered m in mem_joined (one k) (sorted_mem compare_exits xs y.1) y.2)
      (λ t m. let y = joined_mem (one k) xs m in mem_joined (one k) (mem_sorted compare_exits total_exits.exact y.1) y.2)

pub hops_sorted : (ws : List Way) → hops_of ws ≡ hops_on [] (sorted compare_exits (map exit ws))
unfolding hops_of lists_of
hops_sorted ws =
    let xs = map exit ws in
    let lists : (k : Leap) → lists_of ws k ≡ to (ordered xs) k = λ k. ap (sorted compare_tags) (sym (joined-map (one k) exit ws)) ∙ all_lists xs k in
    (λ i. map (λ (k : Leap). record { source = k.source; end = k.end; calls = lists k i }) (sorted compare_leaps (map leap ws)))
    ∙ ap (λ (ks : List Leap). map (hop_to_law (ordered xs)) (sorted compare_leaps ks)) (sym (map-map (λ (x : Exit). x.leap) exit ws))
    ∙ ap (map (hop_to_law (ordered xs))) (sym (all_leaps xs))
    ∙ sym (rise_all (ordered xs) (rising_sorted compare_exits total_exits xs))

-- ---- source by source

source_less : (x y : Exit) → x.leap.source < y.leap.source → compare_exits x y ≡ Ordering.lt
unfolding compare_exits compare_leaps
source_less x y h =
    lt_then (compare_leaps x.leap y.leap) (compare_tags x.calls y.calls)
    (lt_then (compare x.leap.source y.leap.source) (compare_hop_ends x.leap.end y.leap.end) (number_lt x.leap.source y.leap.source h))

module _ (xs : List Exit) where
  pub exits_in_law : {x : Exit} (b : ℕ) → x ∈ exits_at xs b → (x ∈ xs) × (x.leap.source ≡ b)
  unfolding exits_at
  exits_in_law {x} b m =
      let k = keep_mem (is_from b) xs (sorted_mem compare_exits (keep (is_from b) xs) m) in
      (k.0, eqb-true x.leap.source b k.1)

  pub in_exits : {x : Exit} (b : ℕ) → x ∈ xs → x.leap.source ≡ b → x ∈ exits_at xs b
  unfolding exits_at
  in_exits {x} b m e = mem_sorted compare_exits total_exits.exact (mem_keep (is_from b) m (eq-eqb x.leap.source b e))

  flat_source : {x : Exit} (n : ℕ) → x ∈ flat (exits_at xs) n → (x ∈ xs) × (x.leap.source < n)
  flat_source {x} n m =
      let y = flat_mem (exits_at xs) n m in
      let k = exits_in_law y.0 y.2 in
      let e : x.leap.source ≡ y.0 = k.1 in
      let h : y.0 < n = y.1 in
      (k.0, omega arith)

  flat_rising : (n : ℕ) → Rising compare_exits (flat (exits_at xs) n)
  unfolding flat Rising exits_at
  flat_rising zero = tt
  flat_rising (suc n) =
      rising_join compare_exits (flat (exits_at xs) n) (exits_at xs n) (flat_rising n) (rising_sorted compare_exits total_exits (keep (is_from n) xs))
      (λ x y i j.
      let h : x.leap.source < n = (flat_source n i).1 in
      let e : y.leap.source ≡ n = (exits_in_law n j).1 in
      source_less x y (omega arith))

  pub exits_flat : (n : ℕ) → ((x : Exit) → x ∈ xs → x.leap.source < n) → sorted compare_exits xs ≡ flat (exits_at xs) n
  exits_flat n below =
      rising_is compare_exits total_exits (flat (exits_at xs) n) xs (flat_rising n)
      (λ x m. (flat_source n m).0)
      (λ x m. mem_flat (exits_at xs) n x.leap.source (below x m) (in_exits x.leap.source m refl))

-- hops before one that stays last
then_front : (hs : List Hop) (g : Hop) (gs : List Hop) (x : Exit) → hops_then (hs ++ g ∷ gs) x ≡ hs ++ hops_then (g ∷ gs) x
unfolding hops_then
then_front [] g gs x = refl
then_front (h ∷ []) g gs x = refl
then_front (h ∷ k ∷ hs) g gs x = ap (λ (t : List Hop). h ∷ t) (then_front (k ∷ hs) g gs x)

on_front : (hs : List Hop) (g : Hop) (gs : List Hop) (l : List Exit) → hops_on (hs ++ g ∷ gs) l ≡ hs ++ hops_on (g ∷ gs) l
unfolding hops_on hops_then
on_front hs g gs [] = refl
on_front hs g [] (x ∷ l) = ap (λ (t : List Hop). hops_on t l) (then_front hs g [] x) ∙ go (compare_is_eq (compare_leaps (leap_of g) x.leap)) (λ h k. on_front hs h k l)
  where
    go : (b : Bool) → ((h : Hop) (k : List Hop) → hops_on (hs ++ h ∷ k) l ≡ hs ++ hops_on (h ∷ k) l) → hops_on (hs ++ cond b (with_list g x.calls ∷ []) (g ∷ first_hop x ∷ [])) l ≡ hs ++ hops_on (cond b (with_list g x.calls ∷ []) (g ∷ first_hop x ∷ [])) l
    go true below = below (with_list g x.calls) []
    go false below = below g (first_hop x ∷ [])
on_front hs g (k ∷ gs) (x ∷ l) = ap (λ (t : List Hop). hops_on t l) (then_front hs g (k ∷ gs) x) ∙ on_front hs g (hops_then (k ∷ gs) x) l

-- hops that leap from elsewhere
then_apart : (hs : List Hop) (x : Exit) → ((h : Hop) → h ∈ hs → h.source ≡ x.leap.source → ⊥) → hops_then hs x ≡ hs ++ (first_hop x ∷ [])
unfolding hops_then
then_apart [] x n = refl
then_apart (h ∷ []) x n = go (compare_is_eq (compare_leaps (leap_of h) x.leap)) refl
  where
    go : (b : Bool) → compare_is_eq (compare_leaps (leap_of h) x.leap) ≡ b → cond b (with_list h x.calls ∷ []) (h ∷ first_hop x ∷ []) ≡ h ∷ first_hop x ∷ []
    go true e = absurd (n h (Memᴰ.head refl) (ap (λ (k : Leap). k.source) (exact_leaps.tells (leap_of h) x.leap e)))
    go false e = refl
then_apart (h ∷ k ∷ hs) x n = ap (λ (t : List Hop). h ∷ t) (then_apart (k ∷ hs) x (λ j m. n j (Memᴰ.tail m)))

pub on_apart : (hs : List Hop) (l : List Exit) → ((h : Hop) (x : Exit) → h ∈ hs → x ∈ l → h.source ≡ x.leap.source → ⊥) → hops_on hs l ≡ hs ++ hops_on [] l
unfolding hops_on hops_then
on_apart hs [] n = sym (append-nil hs)
on_apart hs (x ∷ l) n = ap (λ (t : List Hop). hops_on t l) (then_apart hs x (λ h m. n h x m (Memᴰ.head refl))) ∙ on_front hs (first_hop x) [] l

-- where hops come from
then_source : (b : ℕ) (hs : List Hop) (x : Exit) → ((h : Hop) → h ∈ hs → h.source ≡ b) → x.leap.source ≡ b → (h : Hop) → h ∈ hops_then hs x → h.source ≡ b
unfolding hops_then
then_source b [] x n e h m = ap (λ (k : Hop). k.source) (Memᴰ.eq_of_singleton m) ∙ e
then_source b (g ∷ []) x n e h m = go (compare_is_eq (compare_leaps (leap_of g) x.leap)) m
  where
    go : (t : Bool) → h ∈ cond t (with_list g x.calls ∷ []) (g ∷ first_hop x ∷ []) → h.source ≡ b
    go true (Memᴰ.head p) = ap (λ (k : Hop). k.source) p ∙ n g (Memᴰ.head refl)
    go true (Memᴰ.tail k) = absurd (none_in k)
    go false (Memᴰ.head p) = ap (λ (k : Hop). k.source) p ∙ n g (Memᴰ.head refl)
    go false (Memᴰ.tail k) = ap (λ (k : Hop). k.source) (Memᴰ.eq_of_singleton k) ∙ e
then_source b (g ∷ k ∷ hs) x n e h (Memᴰ.head p) = ap (λ (k : Hop). k.source) p ∙ n g (Memᴰ.head refl)
then_source b (g ∷ k ∷ hs) x n e h (Memᴰ.tail m) = then_source b (k ∷ hs) x (λ j i. n j (Memᴰ.tail i)) e h m

pub on_source : (b : ℕ) (hs : List Hop) (l : List Exit) → ((h : Hop) → h ∈ hs → h.source ≡ b) → ((x : Exit) → x ∈ l → x.leap.source ≡ b) → (h : Hop) → h ∈ hops_on hs l → h.source ≡ b
unfolding hops_on
on_source b hs [] n e h m = n h m
on_source b hs (x ∷ l) n e h m = on_source b (hops_then hs x) l (λ k i. then_source b hs x n (e x (Memᴰ.head refl)) k i) (λ y i. e y (Memᴰ.tail i)) h m

pub hops_flat : (xs : List Exit) (n : ℕ) → hops_on [] (flat (exits_at xs) n) ≡ flat (λ b. hops_on [] (exits_at xs b)) n
unfolding flat hops_on
hops_flat xs zero = refl
hops_flat xs (suc n) =
    hops_more [] (flat (exits_at xs) n) (exits_at xs n)
    ∙ ap (λ (hs : List Hop). hops_on hs (exits_at xs n)) (hops_flat xs n)
    ∙ on_apart (flat (λ b. hops_on [] (exits_at xs b)) n) (exits_at xs n)
    (λ h x i j e.
    let y = flat_mem (λ b. hops_on [] (exits_at xs b)) n i in
    let lt : y.0 < n = y.1 in
    let p : h.source ≡ y.0 = on_source y.0 [] (exits_at xs y.0) (λ k m. absurd (none_in m)) (λ z m. (exits_in_law xs y.0 m).1) h y.2 in
    let q : x.leap.source ≡ n = (exits_in_law xs n j).1 in
    omega arith)

-- ---- how many

abbrev same-leap : Exit → Exit → Bool
same-leap y x = compare_is_eq (compare_leaps y.leap x.leap)

abbrev listed : List Hop → List (List ℕ)
listed hs = joined (λ h. h.calls) hs

longer : {A : Type 0} (a s t : List A) → length s ≡ suc (length t) → length (a ++ s) ≡ suc (length (a ++ t))
longer a s t e = rw (length-append a s, length-append a t) (omega arith)

pub lists_then : (hs : List Hop) (x : Exit) → length (listed (hops_then hs x)) ≡ suc (length (listed hs))
unfolding hops_then joined
lists_then [] x = refl
lists_then (h ∷ []) x = go (compare_is_eq (compare_leaps (leap_of h) x.leap))
  where
    go : (b : Bool) → length (listed (cond b (with_list h x.calls ∷ []) (h ∷ first_hop x ∷ []))) ≡ suc (length (h.calls ++ []))
    go true = simp (append-nil, length-append) (omega arith)
    go false = simp (append-nil, length-append) (omega arith)
lists_then (h ∷ k ∷ hs) x = longer h.calls (listed (hops_then (k ∷ hs) x)) (listed (k ∷ hs)) (lists_then (k ∷ hs) x)

-- the last hop is the last exit's
pub record Last (hs : List Hop) (y : Exit) : Type 0 where
  pub front : List Hop
  pub last : Hop
  pub is : hops_then hs y ≡ front ++ (last ∷ [])
  pub leap : leap_of last ≡ y.leap

pub last_of : (hs : List Hop) (y : Exit) → Last hs y
unfolding hops_then
last_of [] y = record { front = []; last = first_hop y; is = refl; leap = refl }
last_of (h ∷ []) y = go (compare_is_eq (compare_leaps (leap_of h) y.leap)) refl
  where
    go : (b : Bool) → compare_is_eq (compare_leaps (leap_of h) y.leap) ≡ b → Last (h ∷ []) y
    go true e = record { front = []; last = with_list h y.calls; is = rw e; leap = exact_leaps.tells (leap_of h) y.leap e }
    go false e = record { front = h ∷ []; last = first_hop y; is = rw e; leap = refl }
last_of (h ∷ k ∷ hs) y =
    let r = last_of (k ∷ hs) y in
    record { front = h ∷ r.front; last = r.last; is = ap (λ (t : List Hop). h ∷ t) r.is; leap = r.leap }

pub then_last : (hs : List Hop) (y x : Exit) (r : Last hs y) → hops_then (hops_then hs y) x ≡ r.front ++ cond (same-leap y x) (with_list r.last x.calls ∷ []) (r.last ∷ first_hop x ∷ [])
unfolding hops_then
then_last hs y x r =
    ap (λ (t : List Hop). hops_then t x) r.is
    ∙ then_front r.front r.last [] x
    ∙ ap (λ (k : Leap). r.front ++ cond (compare_is_eq (compare_leaps k x.leap)) (with_list r.last x.calls ∷ []) (r.last ∷ first_hop x ∷ [])) r.leap

-- so many of them, of those to which a test of their leap holds: one more if the exit leaps elsewhere than the last
module _ (f : Leap → Bool) where
  abbrev number : List Hop → ℕ
  number hs = length (keep (λ (h : Hop). f (leap_of h)) hs)

  number_append : (l m : List Hop) → number (l ++ m) ≡ number l + number m
  unfolding keep
  number_append [] m = omega arith
  number_append (h ∷ l) m = go (f (leap_of h)) (number_append l m)
    where
      go : (b : Bool) → number (l ++ m) ≡ number l + number m → length (cond b (h ∷ keep (λ (k : Hop). f (leap_of k)) (l ++ m)) (keep (λ (k : Hop). f (leap_of k)) (l ++ m))) ≡ length (cond b (h ∷ keep (λ (k : Hop). f (leap_of k)) l) (keep (λ (k : Hop). f (leap_of k)) l)) + number m
      go true e = omega arith
      go false e = e

  abbrev more_of : Exit → ℕ
  more_of x = cond (f x.leap) 1 0

  number_first : (x : Exit) → number (first_hop x ∷ []) ≡ more_of x
  unfolding keep
  number_first x = go (f x.leap)
    where
      go : (b : Bool) → length (cond b (first_hop x ∷ []) []) ≡ cond b 1 0
      go true = refl
      go false = refl

  pub number_then : (hs : List Hop) (y x : Exit) → number (hops_then (hops_then hs y) x) ≡ number (hops_then hs y) + cond (same-leap y x) 0 (more_of x)
  unfolding keep
  number_then hs y x =
      let r = last_of hs y in
      let k = number_append r.front (r.last ∷ []) in
      let e : number (hops_then hs y) ≡ number r.front + number (r.last ∷ []) = ap number r.is ∙ k in
      ap number (then_last hs y x r) ∙ go (same-leap y x) r e
    where
      go : (b : Bool) (r : Last hs y) → number (hops_then hs y) ≡ number r.front + number (r.last ∷ []) → number (r.front ++ cond b (with_list r.last x.calls ∷ []) (r.last ∷ first_hop x ∷ [])) ≡ number (hops_then hs y) + cond b 0 (more_of x)
      go true r e = let k = number_append r.front (with_list r.last x.calls ∷ []) in let q : number (with_list r.last x.calls ∷ []) ≡ number (r.last ∷ []) = same (f (leap_of r.last)) in omega arith
        where
          same : (b : Bool) → length (cond b (with_list r.last x.calls ∷ []) []) ≡ length (cond b (r.last ∷ []) [])
          same true = refl
          same false = refl
      go false r e = let k = number_append r.front (r.last ∷ first_hop x ∷ []) in let q = number_append (r.last ∷ []) (first_hop x ∷ []) in let p = number_first x in omega arith

  pub number_one : (x : Exit) → number (hops_then [] x) ≡ more_of x
  unfolding hops_then
  number_one x = number_first x
