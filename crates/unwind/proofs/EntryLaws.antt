-- Entries of one block in scratch.
--     ends_compare, exits_compare     entries are compared as their numbers and tags are
--     parts_all, parts_left, parts_right     the search for a place
--     table_split, table_front, table_inserted     f 0, f 1, .. in two parts, the first apart, and one more among them
--     table_mem, mem_table         its members
--     rising_table, table_rising   order by places
--     put_here, put_there          one that stands, and one that is laid between
--     entry_kept, entry_changed, entry_laid     what is put
use mathlib.Core.Path.{◌≡◌, refl, sym, ◌∙◌, ap}
use mathlib.Core.Logic.{◌⊎◌, inl, inr}
use mathlib.Core.Bool.{cond}
use mathlib.Core.List.Memᴰ
use mathlib.Core.List.{List, [], ◌∷◌, ◌++◌, append-nil, append_assoc}
use Prim.Native.Nat.{ℕ, zero, suc, ◌+◌, ◌*◌, ◌-◌, ◌≤◌, ◌<◌, compare, Ordering}
use native.Mathlib.Nat.{not-suc-le-zero}
use native.Mathlib.Decide.{dec_lt, ℕ_discrete}
use native.Mathlib.Omega.{arith}
use borrow.Author.Tests.{eq-eqb, ne_eqb}
use lib.Dec.{eqb}
use lib.ListN.{length}
use Rattle.image.specs.Image.{RouteImage, table}
use Rattle.graph.proofs.FoldLaws.{table_same}
use Rattle.unwind.specs.declared.tries.store.Branch.{Branch}
use Rattle.addition.specs.Order.{put, placed, sorted, ◌and_then◌, compare_tags}
use Rattle.unwind.specs.Nodes.{branch_in, tags_in, BranchSmall, BranchPut}
use Rattle.addition.specs.Ways.{block, leave, compare_hop_ends, compare_leaps}
use Rattle.unwind.specs.Runs.{Inserted}
use Rattle.unwind.specs.Sources.{Exit, compare_exits}
use Rattle.unwind.specs.Entries.{end_in, exit_in, exits_in, Ordered, Parts, EntryPut}
use Rattle.addition.specs.Walk.{◌∈◌}
use Rattle.addition.proofs.Lists.{none_in}
use Rattle.unwind.proofs.TrieOrder.{Total, turned, number_lt, number_gt, number_eq, put-member}
use Rattle.unwind.proofs.Rising.{Rising, rising_join, rising_front, rising_less, rising_put, sorted_rising, total_exits}

-- ---- comparing

pub ends_compare : (p q : ℕ) → p < 65536 → q < 65536 → compare_hop_ends (end_in p) (end_in q) ≡ compare p q
unfolding compare_hop_ends end_in
ends_compare p q h k = go (ℕ_discrete p 65535) (ℕ_discrete q 65535)
  where
    go : Dec (p ≡ 65535) → Dec (q ≡ 65535) → compare_hop_ends (cond (eqb p 65535) leave (block p)) (cond (eqb q 65535) leave (block q)) ≡ compare p q
    go (yes e) (yes f) = rw (eq-eqb p 65535 e, eq-eqb q 65535 f) (sym (number_eq p q (e ∙ sym f)))
    go (yes e) (no f) = rw (eq-eqb p 65535 e, ne_eqb q 65535 f) (sym (number_gt p q (omega arith)))
    go (no e) (yes f) = rw (ne_eqb p 65535 e, eq-eqb q 65535 f) (sym (number_lt p q (omega arith)))
    go (no e) (no f) = rw (ne_eqb p 65535 e, ne_eqb q 65535 f)

pub exits_compare : (m : RouteImage) (b : ℕ) (x y : Branch) → BranchSmall x → BranchSmall y → compare_exits (exit_in m b x) (exit_in m b y) ≡ compare x.what y.what and_then compare_tags (tags_in m x.step x.calls) (tags_in m y.step y.calls)
unfolding compare_exits compare_leaps exit_in ◌and_then◌
exits_compare m b x y p q = rw (number_eq b b refl, ends_compare x.what y.what p.what q.what)

-- ---- the search for a place

module _ (m : RouteImage) (l : List ℕ) (n : ℕ) (x : Branch) (o : Ordered m l n) where
  abbrev entry : ℕ → ℕ → Exit
  entry b j = exit_in m b (branch_in l j)

  pub parts_all : Parts m l n x 0 n
  parts_all = record { order = omega arith; most = omega arith; before = λ b j h. absurd (not-suc-le-zero h); behind = λ b j h k. absurd (omega arith) }

  pub parts_left : (lo hi mid : ℕ) → Parts m l n x lo hi → lo ≤ mid → mid < hi → ((b : ℕ) → compare_exits (exit_in m b x) (entry b mid) ≡ Ordering.lt) → Parts m l n x lo mid
  parts_left lo hi mid p h k e =
      let t : hi ≤ n = p.most in
      record {
        order = h;
        most = omega arith;
        before = p.before;
        behind = λ b j i s. elim (dec_lt mid j) [ yes lt ↦ total_exits.trans (exit_in m b x) (entry b mid) (entry b j) (e b) (o.rises b mid j lt s) | no ge ↦ (let q : mid ≡ j = omega arith in rw (sym q) (e b)) ];
      }

  pub parts_right : (lo hi mid : ℕ) → Parts m l n x lo hi → lo ≤ mid → mid < hi → ((b : ℕ) → compare_exits (exit_in m b x) (entry b mid) ≡ Ordering.gt) → Parts m l n x (mid + 1) hi
  parts_right lo hi mid p h k e =
      let t : hi ≤ n = p.most in
      record {
        order = omega arith;
        most = t;
        before = λ b j i.
            let low : compare_exits (entry b mid) (exit_in m b x) ≡ Ordering.lt = total_exits.turns (exit_in m b x) (entry b mid) ∙ ap turned (e b) in
            elim (dec_lt j mid) [ yes lt ↦ total_exits.turns (entry b j) (exit_in m b x) ∙ ap turned (total_exits.trans (entry b j) (entry b mid) (exit_in m b x) (o.rises b j mid lt (omega arith)) low) | no ge ↦ (let q : mid ≡ j = omega arith in rw (sym q) (e b)) ];
        behind = p.behind;
      }

-- ---- tables

module _ {A : Type 0} where
  pub table_split : (f : ℕ → A) (p q : ℕ) → table f (p + q) ≡ table f p ++ table (λ j. f (p + j)) q
  unfolding table
  table_split f p zero = let e : p + 0 ≡ p = omega arith in rw e (sym (append-nil (table f p)))
  table_split f p (suc q) =
      let e : p + suc q ≡ suc (p + q) = omega arith in
      rw (e, table_split f p q) (append_assoc (table f p) (table (λ j. f (p + j)) q) (f (p + q) ∷ []))

  pub table_front : (f : ℕ → A) (q : ℕ) → table f (suc q) ≡ f 0 ∷ table (λ j. f (suc j)) q
  unfolding table
  table_front f zero = refl
  table_front f (suc q) = rw (table_front f q)

  -- one more: x in place p, and those from there on stand one further in f'
  pub table_inserted : (f f' : ℕ → A) (x : A) (p q : ℕ) → ((j : ℕ) → j < p → f' j ≡ f j) → f' p ≡ x → ((j : ℕ) → p ≤ j → j < p + q → f' (j + 1) ≡ f j) → table f' (p + suc q) ≡ table f p ++ x ∷ table (λ j. f (p + j)) q
  table_inserted f f' x p q a e b =
      table_split f' p (suc q)
      ∙ ap (λ (t : List A). t ++ table (λ j. f' (p + j)) (suc q)) (table_same f' f p a)
      ∙ ap (λ (t : List A). table f p ++ t) (table_front (λ j. f' (p + j)) q)
      ∙ ap (λ (t : List A). table f p ++ f' (p + 0) ∷ t) (table_same (λ j. f' (p + suc j)) (λ j. f (p + j)) q next)
      ∙ ap (λ (y : A). table f p ++ y ∷ table (λ j. f (p + j)) q) here
    where
      here : f' (p + 0) ≡ x
      here = let k : p + 0 ≡ p = omega arith in ap f' k ∙ e

      next : (i : ℕ) → i < q → f' (p + suc i) ≡ f (p + i)
      next i h = let k : p + suc i ≡ p + i + 1 = omega arith in ap f' k ∙ b (p + i) (omega arith) (omega arith)

  pub table_mem : (f : ℕ → A) (n i : ℕ) → i < n → f i ∈ table f n
  unfolding table
  table_mem f zero i h = absurd (not-suc-le-zero h)
  table_mem f (suc n) i h = elim (dec_lt i n) [ yes lt ↦ Memᴰ.append_left (f n ∷ []) (table_mem f n i lt) | no ge ↦ Memᴰ.append_right (table f n) (Memᴰ.head (ap f (omega arith))) ]

  pub mem_table : {x : A} (f : ℕ → A) (n : ℕ) → x ∈ table f n → (i : ℕ) × (i < n) × (x ≡ f i)
  unfolding table
  mem_table f zero m = absurd (none_in m)
  mem_table {x} f (suc n) m = go (Memᴰ.append_cases (table f n) m) (λ (k : x ∈ table f n). mem_table f n k)
    where
      go : (x ∈ table f n) ⊎ (x ∈ f n ∷ []) → (x ∈ table f n → (i : ℕ) × (i < n) × (x ≡ f i)) → (i : ℕ) × (i < suc n) × (x ≡ f i)
      go (inl k) below = let r = below k in let h : r.0 < n = r.1 in (r.0, omega arith, r.2)
      go (inr (Memᴰ.head e)) below = (n, omega arith, e)
      go (inr (Memᴰ.tail k)) below = absurd (none_in k)

module _ {A : Type 0} (c : A → A → Ordering) where
  pub table_rising : (f : ℕ → A) (n : ℕ) → ((i j : ℕ) → i < j → j < n → c (f i) (f j) ≡ Ordering.lt) → Rising c (table f n)
  unfolding table Rising
  table_rising f zero h = tt
  table_rising f (suc n) h =
      rising_join c (table f n) (f n ∷ []) (table_rising f n (λ i j a b. h i j a (omega arith))) (λ y m. absurd (none_in m), tt)
      (λ x y i j. less x y (mem_table f n i) j)
    where
      less : (x y : A) → (k : ℕ) × (k < n) × (x ≡ f k) → y ∈ f n ∷ [] → c x y ≡ Ordering.lt
      less x y k (Memᴰ.head e) = rw (k.2, e) (h k.0 n k.1 (omega arith))
      less x y k (Memᴰ.tail j) = absurd (none_in j)

  pub rising_table : (f : ℕ → A) (n : ℕ) → Rising c (table f n) → (i j : ℕ) → i < j → j < n → c (f i) (f j) ≡ Ordering.lt
  unfolding table
  rising_table f zero r i j a b = absurd (not-suc-le-zero b)
  rising_table f (suc n) r i j a b =
      elim (dec_lt j n) [
        | yes lt ↦ rising_table f n (rising_front c (table f n) (f n ∷ []) r) i j a lt
        | no ge ↦ rising_less c (f n ∷ []) r (table_mem f n i (omega arith)) (Memᴰ.head (ap f (omega arith)))
      ]

  -- ---- putting by places

  past : (x : A) (l m : List A) → ((y : A) → y ∈ l → c x y ≡ Ordering.gt) → put c x (l ++ m) ≡ l ++ put c x m
  unfolding put placed
  past x [] m h = refl
  past x (y ∷ l) m h = rw (h y (Memᴰ.head refl)) (ap (λ (t : List A). y ∷ t) (past x l m (λ z k. h z (Memᴰ.tail k))))

  before : (x : A) (l : List A) → ((y : A) → y ∈ l → c x y ≡ Ordering.lt) → put c x l ≡ x ∷ l
  unfolding put placed
  before x [] h = refl
  before x (y ∷ l) h = rw (h y (Memᴰ.head refl))

  -- laid between: those from p on stand one further in f'
  pub put_there : (f f' : ℕ → A) (x : A) (p q : ℕ) → ((j : ℕ) → j < p → c x (f j) ≡ Ordering.gt) → ((j : ℕ) → p ≤ j → j < p + q → c x (f j) ≡ Ordering.lt) → ((j : ℕ) → j < p → f' j ≡ f j) → f' p ≡ x → ((j : ℕ) → p ≤ j → j < p + q → f' (j + 1) ≡ f j) → table f' (p + suc q) ≡ put c x (table f (p + q))
  put_there f f' x p q lo hi a e b =
      table_inserted f f' x p q a e b
      ∙ ap (λ (t : List A). table f p ++ t) (sym (before x (table (λ j. f (p + j)) q) (λ y k. rest y (mem_table (λ j. f (p + j)) q k))))
      ∙ sym (past x (table f p) (table (λ j. f (p + j)) q) (λ y k. first y (mem_table f p k)))
      ∙ ap (put c x) (sym (table_split f p q))
    where
      first : (y : A) → (i : ℕ) × (i < p) × (y ≡ f i) → c x y ≡ Ordering.gt
      first y r = rw r.2 (lo r.0 r.1)

      rest : (y : A) → (i : ℕ) × (i < q) × (y ≡ f (p + i)) → c x y ≡ Ordering.lt
      rest y r = let h : r.0 < q = r.1 in rw r.2 (hi (p + r.0) (omega arith) (omega arith))

  pub put_here : Total c → (f : ℕ → A) (n p : ℕ) (x : A) → ((i j : ℕ) → i < j → j < n → c (f i) (f j) ≡ Ordering.lt) → p < n → x ≡ f p → put c x (table f n) ≡ table f n
  put_here total f n p x rises h e =
      let s : sorted c (table f n) ≡ table f n = sorted_rising c total (table f n) (table_rising f n rises) in
      ap (put c x) (sym s) ∙ put-member c total (rw e (table_mem f n p h)) ∙ s

-- ---- what is put

module _ (m : RouteImage) (l : List ℕ) (n : ℕ) (x : Branch) (o : Ordered m l n) where
  still : (b p : ℕ) → p < n → exit_in m b x ≡ exit_in m b (branch_in l p) → exits_in m b l n ≡ put compare_exits (exit_in m b x) (exits_in m b l n)
  unfolding exits_in
  still b p h e = sym (put_here compare_exits total_exits (λ k. exit_in m b (branch_in l k)) n p (exit_in m b x) (o.rises b) h e)

  pub entry_kept : (p : ℕ) → p < n → ((b : ℕ) → exit_in m b x ≡ exit_in m b (branch_in l p)) → EntryPut m l n x l n
  entry_kept p h e = record { long = refl; most = omega arith; ordered = o; is = λ b. still b p h (e b) }

  module _ (p : ℕ) (h : p < n) (e : (b : ℕ) → exit_in m b x ≡ exit_in m b (branch_in l p)) (l' : List ℕ) (w : BranchPut l p x l') where
    alike : (b j : ℕ) → exit_in m b (branch_in l' j) ≡ exit_in m b (branch_in l j)
    alike b j = elim (ℕ_discrete j p) [ yes q ↦ rw q (ap (exit_in m b) w.here ∙ e b) | no q ↦ ap (exit_in m b) (w.others j q) ]

    pub entry_changed : EntryPut m l n x l' n
    unfolding exits_in
    entry_changed =
        record {
          long = w.long;
          most = omega arith;
          ordered = record { fit = let t = o.fit in let s = w.long in omega arith; rises = λ b i j a k. rw (alike b i, alike b j) (o.rises b i j a k) };
          is = λ b. table_same (λ k. exit_in m b (branch_in l' k)) (λ k. exit_in m b (branch_in l k)) n (λ j k. alike b j) ∙ still b p h (e b);
        }

  module _ (p : ℕ) (s : Parts m l n x p p) (l' : List ℕ) (w : Inserted l p n x l') (room : 3 * n + 3 ≤ length l) where
    laid : (b : ℕ) → exits_in m b l' (n + 1) ≡ put compare_exits (exit_in m b x) (exits_in m b l n)
    unfolding exits_in
    laid b =
        let h : p ≤ n = s.most in
        let q : n ≡ p + (n - p) = omega arith in
        let q' : n + 1 ≡ p + suc (n - p) = omega arith in
        ap (table (λ k. exit_in m b (branch_in l' k))) q'
        ∙ put_there compare_exits (λ k. exit_in m b (branch_in l k)) (λ k. exit_in m b (branch_in l' k)) (exit_in m b x) p (n - p)
        (s.before b)
        (λ j i k. s.behind b j i (omega arith))
        (λ j k. ap (exit_in m b) (w.before j k))
        (ap (exit_in m b) w.here)
        (λ j i k. ap (exit_in m b) (w.behind j i (omega arith)))
        ∙ ap (λ (k : ℕ). put compare_exits (exit_in m b x) (table (λ k. exit_in m b (branch_in l k)) k)) (sym q)

    rises : (b i j : ℕ) → i < j → j < n + 1 → compare_exits (exit_in m b (branch_in l' i)) (exit_in m b (branch_in l' j)) ≡ Ordering.lt
    unfolding exits_in
    rises b =
        rising_table compare_exits (λ k. exit_in m b (branch_in l' k)) (n + 1)
        (rw (laid b) (rising_put compare_exits total_exits (exit_in m b x) (exits_in m b l n) (table_rising compare_exits (λ k. exit_in m b (branch_in l k)) n (o.rises b))))

    pub entry_laid : EntryPut m l n x l' (n + 1)
    entry_laid = record { long = w.long; most = omega arith; ordered = record { fit = let a = w.long in omega arith; rises = rises }; is = laid }
