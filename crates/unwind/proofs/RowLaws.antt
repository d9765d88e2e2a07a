-- Rows of hops, one entry after the other.
--     follows                      where the lists of the last hop end
--     last_leaps_law, none_leaps, some_leaps     the last hop, by its place
--     last_few                     it has no more lists than there are
--     then_wide, then_new, on_more     one entry more
--     then_order, on_order         the lists stay in order
--     then_hops, on_hops           THE ROWS ARE THE HOPS of the entries
--     then_lists, on_lists         one list more for each entry
--     rows_long, lists_all         as many rows as hops, and as lists
--     then_longer, on_longer       and no hop fewer
-- Assumes nothing.
use mathlib.Core.Path.{◌≡◌, refl, sym, ap, ◌∙◌}
use mathlib.Core.Bool.{Bool, true, false, cond, not, ◌&&◌, false≢true}
use mathlib.Core.List.{List, [], ◌∷◌, ◌++◌, map, map-append}
use Prim.Native.Nat.{ℕ, zero, suc, ◌+◌, ◌≤◌, ◌<◌, compare, Ordering}
use native.Mathlib.Decide.{ℕ_discrete}
use native.Mathlib.Numerals.{add-one}
use native.Mathlib.Omega.{arith}
use lib.Dec.{eqb, compare_is_eq}
use lib.ListN.{length, get_or, take, drop, length-append, length-map, length-drop}
use lib.Seq.{length-take-le, take_all, take-append-le, drop-append-le, drop-append_seam}
use Rattle.image.specs.Image.{RouteImage, table}
use Rattle.unwind.specs.declared.tries.store.Branch.{Branch}
use Rattle.unwind.specs.declared.hops.HopRow.{HopRow}
use Rattle.unwind.specs.declared.hops.ListRow.{ListRow}
use Rattle.addition.specs.Lists.{joined}
use Rattle.addition.specs.Order.{◌and_then◌}
use Rattle.unwind.specs.Nodes.{branch_in}
use Rattle.addition.specs.Ways.{block, leave, Hop, compare_hop_ends, compare_leaps}
use Rattle.unwind.specs.Sources.{Exit, leap_of, first_hop, with_list, hops_then, hops_on}
use Rattle.unwind.specs.Entries.{end_in, exit_in, exits_in}
use Rattle.unwind.specs.HopWords.{hop_row, Rows, end_from, tags_from, row_hop, row_hops, with_hop, with_run, wider, widened, with_wider, ends_at, hop_to, last_leaps, run_of, rows_then, rows_on, Consecutive, InOrder}
use Rattle.unwind.proofs.Sources.{hops_then_law}

-- ---- leaps

both_equal : (o p : Ordering) → compare_is_eq (o and_then p) ≡ compare_is_eq o && compare_is_eq p
unfolding ◌and_then◌
both_equal Ordering.lt p = refl
both_equal Ordering.eq p = refl
both_equal Ordering.gt p = refl

ends_same : (x : HopRow) (n : ℕ) → compare_is_eq (compare_hop_ends (end_from x) (end_in n)) ≡ ends_at x n
unfolding compare_hop_ends end_from end_in ends_at
ends_same x n = go (eqb x.has_end 0) (eqb n 65535)
  where
    go : (p q : Bool) → compare_is_eq (compare_hop_ends (cond p leave (block x.end)) (cond q leave (block n))) ≡ cond q p (not p && eqb x.end n)
    go true true = refl
    go true false = refl
    go false true = refl
    go false false = refl

leaps_same : (x : HopRow) (b n : ℕ) → compare_is_eq (compare_leaps (record { source = x.source; end = end_from x }) (record { source = b; end = end_in n })) ≡ eqb x.source b && ends_at x n
unfolding compare_leaps
leaps_same x b n = both_equal (compare x.source b) (compare_hop_ends (end_from x) (end_in n)) ∙ ap (λ (q : Bool). eqb x.source b && q) (ends_same x n)

new_end : (b n f : ℕ) → end_from (hop_to b n f) ≡ end_in n
unfolding end_from hop_to end_in
new_end b n f = go (eqb n 65535)
  where
    go : (q : Bool) → cond (eqb (cond q 0 1) 0) leave (block (cond q 0 n)) ≡ cond q leave (block n)
    go true = refl
    go false = refl

-- ---- lists in order

pub follows : (a : ℕ) (hs : List HopRow) (n : ℕ) → Consecutive a hs n → a ≤ n
unfolding Consecutive
follows a [] n c = omega arith
follows a (x ∷ hs) n c = omega (arith, follows (a + x.lists) hs n c.1)

more_follow : (a : ℕ) (hs : List HopRow) (n b w : ℕ) → Consecutive a hs n → Consecutive a (hs ++ (hop_to b w n ∷ [])) (n + 1)
unfolding Consecutive hop_to
more_follow a [] n b w c = (sym c, omega arith)
more_follow a (x ∷ hs) n b w c = (c.0, more_follow (a + x.lists) hs n b w c.1)

wide_follow : (a : ℕ) (x : HopRow) (hs : List HopRow) (n : ℕ) → Consecutive a (x ∷ hs) n → Consecutive a (widened (x ∷ hs)) (n + 1)
unfolding Consecutive widened
wide_follow a x [] n c = (c.0, omega (arith, c.1))
wide_follow a x (y ∷ hs) n c = (c.0, wide_follow (a + x.lists) y hs n c.1)

-- ---- the last hop

pub last_leaps_law : (hs : List HopRow) (k b n : ℕ) → length hs ≡ suc k → last_leaps hs b n ≡ eqb (get_or hs k (hop_row [])).source b && ends_at (get_or hs k (hop_row [])) n
unfolding last_leaps
last_leaps_law [] k b n e = absurd (omega arith)
last_leaps_law (x ∷ []) zero b n e = refl
last_leaps_law (x ∷ []) (suc k) b n e = absurd (omega arith)
last_leaps_law (x ∷ y ∷ hs) zero b n e = absurd (omega arith)
last_leaps_law (x ∷ y ∷ hs) (suc k) b n e = last_leaps_law (y ∷ hs) k b n (omega arith)

pub none_leaps : (hs : List HopRow) (b n : ℕ) → length hs ≡ 0 → last_leaps hs b n ≡ false
unfolding last_leaps
none_leaps [] b n e = refl
none_leaps (x ∷ hs) b n e = absurd (omega arith)

pub some_leaps : (hs : List HopRow) (b n : ℕ) → last_leaps hs b n ≡ true → 0 < length hs
unfolding last_leaps
some_leaps [] b n e = absurd (false≢true e)
some_leaps (x ∷ hs) b n e = omega arith

pub last_few : (a : ℕ) (hs : List HopRow) (n k : ℕ) → Consecutive a hs n → (get_or hs k (hop_row [])).lists ≤ n
unfolding Consecutive
last_few a [] n k c = omega arith
last_few a (x ∷ hs) n zero c = omega (arith, follows (a + x.lists) hs n c.1)
last_few a (x ∷ hs) n (suc k) c = last_few (a + x.lists) hs n k c.1

-- ---- hops by their rows

module _ (m : RouteImage) (b : ℕ) (e : Branch) (ts : List ListRow) where
  abbrev n : ℕ
  n = length ts

  abbrev more : List ListRow
  more = ts ++ (run_of e ∷ [])

  abbrev x : Exit
  x = exit_in m b e

  old_lists : (f k : ℕ) → f + k ≤ n → take k (drop f more) ≡ take k (drop f ts)
  old_lists f k h = ap (take k) (drop-append-le f ts (run_of e ∷ []) (omega arith)) ∙ take-append-le k (drop f ts) (run_of e ∷ []) (rw length-drop (omega arith))

  old_hop : (h : HopRow) → h.first + h.lists ≤ n → row_hop m more h ≡ row_hop m ts h
  unfolding row_hop
  old_hop h le = λ i. record { source = h.source; end = end_from h; calls = map (tags_from m) (old_lists h.first h.lists le i) }

  new_hop : row_hop m more (hop_to b e.what n) ≡ first_hop x
  unfolding row_hop hop_to exit_in
  new_hop = λ i. record { source = b; end = new_end b e.what n i; calls = map (tags_from m) (take 1 (drop-append_seam ts (run_of e ∷ []) i)) }

  wide_lists : (f k : ℕ) → f + k ≡ n → take (k + 1) (drop f more) ≡ take k (drop f ts) ++ (run_of e ∷ [])
  wide_lists f k h =
      let long : length (drop f ts) ≡ k = length-drop f ts ∙ omega arith in
      ap (take (k + 1)) (drop-append-le f ts (run_of e ∷ []) (omega arith))
      ∙ take_all (k + 1) (drop f ts ++ (run_of e ∷ [])) (omega (arith, length-append (drop f ts) (run_of e ∷ []), long))
      ∙ ap (λ (d : List ListRow). d ++ (run_of e ∷ [])) (sym (take_all k (drop f ts) (omega (arith, long))))

  wide_hop : (h : HopRow) → h.first + h.lists ≡ n → row_hop m more (wider h) ≡ with_list (row_hop m ts h) x.calls
  unfolding row_hop end_from exit_in
  wide_hop h is = λ i. record { source = h.source; end = end_from h; calls = (ap (map (tags_from m)) (wide_lists h.first h.lists is) ∙ map-append (tags_from m) (take h.lists (drop h.first ts)) (run_of e ∷ [])) i }

  leap-same : (h : HopRow) → compare_is_eq (compare_leaps (leap_of (row_hop m ts h)) x.leap) ≡ eqb h.source b && ends_at h e.what
  unfolding row_hop exit_in
  leap-same h = leaps_same h b e.what

  abbrev next : Bool → List HopRow → List HopRow
  next t hs = cond t (widened hs) (hs ++ (hop_to b e.what n ∷ []))

  then_from : (a : ℕ) (hs : List HopRow) → Consecutive a hs n → map (row_hop m more) (next (last_leaps hs b e.what) hs) ≡ hops_then (map (row_hop m ts) hs) x
  unfolding Consecutive hops_then last_leaps widened
  then_from a [] c = ap (λ (h : Hop). h ∷ []) new_hop
  then_from a (h ∷ []) c =
      go (eqb h.source b && ends_at h e.what) ∙ ap (λ (t : Bool). cond t (with_list (row_hop m ts h) x.calls ∷ []) (row_hop m ts h ∷ first_hop x ∷ [])) (sym (leap-same h))
    where
      go : (t : Bool) → map (row_hop m more) (next t (h ∷ [])) ≡ cond t (with_list (row_hop m ts h) x.calls ∷ []) (row_hop m ts h ∷ first_hop x ∷ [])
      go true = ap (λ (k : Hop). k ∷ []) (wide_hop h (omega (arith, c.0, c.1)))
      go false = λ i. old_hop h (omega (arith, c.0, c.1)) i ∷ new_hop i ∷ []
  then_from a (h ∷ k ∷ hs) c = go (last_leaps (k ∷ hs) b e.what) ∙ (λ i. old_hop h (omega (arith, c.0, follows (a + h.lists) (k ∷ hs) n c.1)) i ∷ then_from (a + h.lists) (k ∷ hs) c.1 i)
    where
      go : (t : Bool) → map (row_hop m more) (next t (h ∷ k ∷ hs)) ≡ row_hop m more h ∷ map (row_hop m more) (next t (k ∷ hs))
      go true = refl
      go false = refl

-- ---- rows

length-widened : (hs : List HopRow) → length (widened hs) ≡ length hs
unfolding widened
length-widened [] = refl
length-widened (h ∷ []) = refl
length-widened (h ∷ k ∷ hs) = ap suc (length-widened (k ∷ hs))

module _ (r : Rows) (b : ℕ) (e : Branch) where
  abbrev leaps : Bool
  leaps = last_leaps r.hops b e.what

  abbrev then_if : Bool → Rows
  then_if t = cond t (with_wider (with_run r (run_of e))) (with_hop (with_run r (run_of e)) (hop_to b e.what (length r.lists)))

  pub then_wide : leaps ≡ true → rows_then r b e ≡ with_wider (with_run r (run_of e))
  unfolding rows_then
  then_wide t = rw t

  pub then_new : leaps ≡ false → rows_then r b e ≡ with_hop (with_run r (run_of e)) (hop_to b e.what (length r.lists))
  unfolding rows_then
  then_new t = rw t

  pub then_hops : (m : RouteImage) → InOrder r → row_hops m (rows_then r b e) ≡ hops_then (row_hops m r) (exit_in m b e)
  unfolding row_hops rows_then
  then_hops m o = go leaps ∙ then_from m b e r.lists 0 r.hops o.lists_follow
    where
      go : (t : Bool) → map (row_hop m (then_if t).lists) (then_if t).hops ≡ map (row_hop m (r.lists ++ (run_of e ∷ []))) (cond t (widened r.hops) (r.hops ++ (hop_to b e.what (length r.lists) ∷ [])))
      go true = refl
      go false = refl

  pub then_lists : length (rows_then r b e).lists ≡ length r.lists + 1
  unfolding rows_then
  then_lists = go leaps ∙ length-append r.lists (run_of e ∷ [])
    where
      go : (t : Bool) → length (then_if t).lists ≡ length (r.lists ++ (run_of e ∷ []))
      go true = refl
      go false = refl

  hops_if_law : (rows_then r b e).hops ≡ cond leaps (widened r.hops) (r.hops ++ (hop_to b e.what (length r.lists) ∷ []))
  unfolding rows_then
  hops_if_law = go leaps
    where
      go : (t : Bool) → (then_if t).hops ≡ cond t (widened r.hops) (r.hops ++ (hop_to b e.what (length r.lists) ∷ []))
      go true = refl
      go false = refl

  pub then_longer : length r.hops ≤ length (rows_then r b e).hops
  then_longer = rw hops_if_law (go leaps)
    where
      go : (t : Bool) → length r.hops ≤ length (cond t (widened r.hops) (r.hops ++ (hop_to b e.what (length r.lists) ∷ [])))
      go true = omega (arith, length-widened r.hops)
      go false = omega (arith, length-append r.hops (hop_to b e.what (length r.lists) ∷ []))

  pub then_order : InOrder r → InOrder (rows_then r b e)
  then_order o = record { lists_follow = rw (then_lists, hops_if_law) (go r.hops leaps refl o.lists_follow) }
    where
      go : (hs : List HopRow) (t : Bool) → last_leaps hs b e.what ≡ t → Consecutive 0 hs (length r.lists) → Consecutive 0 (cond t (widened hs) (hs ++ (hop_to b e.what (length r.lists) ∷ []))) (length r.lists + 1)
      go [] true f c = absurd (omega (arith, some_leaps [] b e.what f))
      go (h ∷ hs) true f c = wide_follow 0 h hs (length r.lists) c
      go hs false f c = more_follow 0 hs (length r.lists) b e.what c

-- ---- entry after entry

module _ (r : Rows) (b : ℕ) (l : List ℕ) where
  pub on_more : (n : ℕ) → rows_on r b l (n + 1) ≡ rows_then (rows_on r b l n) b (branch_in l n)
  unfolding rows_on
  on_more n = rw (add-one n)

  pub on_order : (n : ℕ) → InOrder r → InOrder (rows_on r b l n)
  unfolding rows_on
  on_order zero o = o
  on_order (suc n) o = then_order (rows_on r b l n) b (branch_in l n) (on_order n o)

  pub on_lists : (n : ℕ) → length (rows_on r b l n).lists ≡ length r.lists + n
  unfolding rows_on
  on_lists zero = omega arith
  on_lists (suc n) = then_lists (rows_on r b l n) b (branch_in l n) ∙ omega (arith, on_lists n)

  pub on_longer : (k n : ℕ) → k ≤ n → length (rows_on r b l k).hops ≤ length (rows_on r b l n).hops
  unfolding rows_on
  on_longer k zero h = rw (is_zero h) (omega arith)
    where
      is_zero : k ≤ 0 → k ≡ 0
      is_zero h = omega arith
  on_longer k (suc n) h = go (on_longer k n) (ℕ_discrete k (suc n))
    where
      go : (k ≤ n → length (rows_on r b l k).hops ≤ length (rows_on r b l n).hops) → Dec (k ≡ suc n) → length (rows_on r b l k).hops ≤ length (rows_then (rows_on r b l n) b (branch_in l n)).hops
      go f (yes e) = rw e (omega arith)
      go f (no ne) = omega (arith, f (omega arith), then_longer (rows_on r b l n) b (branch_in l n))

  pub on_hops : (m : RouteImage) (n : ℕ) → InOrder r → row_hops m (rows_on r b l n) ≡ hops_on (row_hops m r) (exits_in m b l n)
  unfolding rows_on hops_on exits_in table
  on_hops m zero o = refl
  on_hops m (suc n) o =
      then_hops (rows_on r b l n) b (branch_in l n) m (on_order n o)
      ∙ ap (λ (hs : List Hop). hops_then hs (exit_in m b (branch_in l n))) (on_hops m n o)
      ∙ sym (hops_then_law (row_hops m r) (exits_in m b l n) (exit_in m b (branch_in l n)))

-- ---- as many rows as hops, and as lists

pub rows_long : (m : RouteImage) (r : Rows) → length (row_hops m r) ≡ length r.hops
unfolding row_hops
rows_long m r = length-map r.hops (row_hop m r.lists)

own_lists : (m : RouteImage) (ts : List ListRow) (h : HopRow) → h.first + h.lists ≤ length ts → length (row_hop m ts h).calls ≡ h.lists
unfolding row_hop
own_lists m ts h le =
    length-map (take h.lists (drop h.first ts)) (tags_from m)
    ∙ length-take-le h.lists (drop h.first ts) (rw length-drop (omega arith))

lists_from : (m : RouteImage) (ts : List ListRow) (a : ℕ) (hs : List HopRow) → Consecutive a hs (length ts) → a + length (joined (λ (h : Hop). h.calls) (map (row_hop m ts) hs)) ≡ length ts
unfolding Consecutive joined
lists_from m ts a [] c = omega (arith, c)
lists_from m ts a (h ∷ hs) c =
    let all = length-append (row_hop m ts h).calls (joined (λ (h : Hop). h.calls) (map (row_hop m ts) hs)) in
    let own = own_lists m ts h (omega (arith, c.0, follows (a + h.lists) hs (length ts) c.1)) in
    omega (arith, all, own, lists_from m ts (a + h.lists) hs c.1)

pub lists_all : (m : RouteImage) (r : Rows) → InOrder r → length (joined (λ (h : Hop). h.calls) (row_hops m r)) ≡ length r.lists
unfolding row_hops
lists_all m r o = omega (arith, lists_from m r.lists 0 r.hops o.lists_follow)
