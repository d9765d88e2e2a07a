-- Sorted runs of branches.
--     length-branches, branches-more, branch_of, branches-same     the branches of a run
--     length_meant, meant_of, map-inserted     what the branches stand for, with one more among them
--     Beyond, spot_start, spot_on, spot_less, spot_equal, spot_end         where one goes, from place j on
--     branches_inserted                one more among them
--     run_present, run_inserted        a branch is put: it stands there, or goes to its place
-- Assumes nothing.
use mathlib.Core.Path.{◌≡◌, refl, sym, ap, ◌∙◌}
use mathlib.Core.List.{List, [], ◌∷◌, ◌++◌, map, map-append}
use Prim.Native.Nat.{ℕ, zero, suc, ◌+◌, ◌-◌, ◌<◌, ◌≤◌, Ordering}
use native.Mathlib.Numerals.{add-one}
use native.Mathlib.Omega.{arith}
use lib.ListN.{length, get_or, take, drop, length-map, take-append-drop, drop_of_length-le}
use lib.Seq.{take-suc, drop-cons, append_snoc}
use Rattle.std.proofs.Common.{Some, None}
use Rattle.image.specs.Image.{table}
use Rattle.graph.proofs.FoldLaws.{length-table, get_or_table, table_same}
use Rattle.unwind.specs.declared.tries.store.Branch.{Branch}
use Rattle.addition.specs.Order.{placed, put}
use Rattle.unwind.specs.Nodes.{branch_in, branches}
use Rattle.unwind.specs.Runs.{inserted, SpotOf, Inserted, RunPut}
use Rattle.unwind.proofs.EntryLaws.{table_split, table_inserted}

-- ---- runs

module _ (l : List ℕ) (a : ℕ) where
  pub length-branches : (n : ℕ) → length (branches l a n) ≡ n
  unfolding branches
  length-branches n = length-table (λ k. branch_in l (a + k)) n

  pub branches-more : (n : ℕ) → branches l a (n + 1) ≡ branches l a n ++ (branch_in l (a + n) ∷ [])
  unfolding branches table
  branches-more n = rw add-one

  pub branch_of : (n k : ℕ) (d : Branch) → k < n → get_or (branches l a n) k d ≡ branch_in l (a + k)
  unfolding branches
  branch_of n k d h = get_or_table (λ i. branch_in l (a + i)) n k d h

pub branches-same : (l' l : List ℕ) (a n : ℕ) → ((k : ℕ) → k < n → branch_in l' (a + k) ≡ branch_in l (a + k)) → branches l' a n ≡ branches l a n
unfolding branches
branches-same l' l a n same = table_same (λ k. branch_in l' (a + k)) (λ k. branch_in l (a + k)) n same

map_at : {A B : Type 0} (f : A → B) (l : List A) (i : ℕ) (a : A) (b : B) → i < length l → get_or (map f l) i b ≡ f (get_or l i a)
map_at f [] i a b h = absurd (omega arith)
map_at f (x ∷ l) zero a b h = refl
map_at f (x ∷ l) (suc i) a b h = map_at f l i a b (omega arith)

map-take : {A B : Type 0} (f : A → B) (n : ℕ) (l : List A) → map f (take n l) ≡ take n (map f l)
map-take f zero l = refl
map-take f (suc n) [] = refl
map-take f (suc n) (x ∷ l) = ap (λ (t : List _). f x ∷ t) (map-take f n l)

map-drop : {A B : Type 0} (f : A → B) (n : ℕ) (l : List A) → map f (drop n l) ≡ drop n (map f l)
map-drop f zero l = refl
map-drop f (suc n) [] = refl
map-drop f (suc n) (x ∷ l) = map-drop f n l

pub map-inserted : {A B : Type 0} (f : A → B) (j : ℕ) (x : A) (l : List A) → map f (inserted j x l) ≡ inserted j (f x) (map f l)
map-inserted f j x l = map-append f (take j l) (x ∷ drop j l) ∙ rw (map-take f j l, map-drop f j l)

pub length_meant : {A : Type 0} (of : Branch → A) (l : List ℕ) (a n : ℕ) → length (map of (branches l a n)) ≡ n
length_meant of l a n = length-map (branches l a n) of ∙ length-branches l a n

pub meant_of : {A : Type 0} (of : Branch → A) (l : List ℕ) (a n k : ℕ) (d : A) → k < n → get_or (map of (branches l a n)) k d ≡ of (branch_in l (a + k))
meant_of of l a n k d h =
    map_at of (branches l a n) k (branch_in l 0) d (rw (length-branches l a n) h) ∙ ap of (branch_of l a n k (branch_in l 0) h)

-- ---- where x goes in a list

module _ {A : Type 0} (c : A → A → Ordering) (x : A) (l : List A) where
  -- those before place j stay before x
  abbrev pub Beyond : ℕ → Type 0
  Beyond j = put c x l ≡ take j l ++ put c x (drop j l)

  pub spot_start : Beyond 0
  spot_start = refl

  module _ (j : ℕ) (d : A) (h : j < length l) (so_far : Beyond j) where
    pub spot_on : c x (get_or l j d) ≡ Ordering.gt → Beyond (j + 1)
    unfolding put placed
    spot_on e =
        so_far
        ∙ rw (add-one j, drop-cons l j d h, take-suc l j d h, e) (sym (append_snoc (take j l) (get_or l j d) (put c x (drop (suc j) l))))

    pub spot_less : c x (get_or l j d) ≡ Ordering.lt → SpotOf c x l (Some j)
    unfolding put placed
    spot_less e = (omega arith, so_far ∙ rw (drop-cons l j d h, e))

    pub spot_equal : c x (get_or l j d) ≡ Ordering.eq → SpotOf c x l None
    unfolding put placed
    spot_equal e = so_far ∙ rw (drop-cons l j d h, e) (rw (← drop-cons l j d h) (take-append-drop j l))

  pub spot_end : (j : ℕ) → j ≡ length l → Beyond j → SpotOf c x l (Some j)
  unfolding put
  spot_end j e so_far = (omega arith, so_far ∙ rw (drop_of_length-le l {i = j} (omega arith)))

-- ---- one more among the branches

inserted_at : {A : Type 0} (x y : List A) (b : A) → inserted (length x) b (x ++ y) ≡ x ++ b ∷ y
inserted_at [] y b = refl
inserted_at (z ∷ x) y b = ap (λ (t : List _). z ∷ t) (inserted_at x y b)

pub branches_inserted : (l : List ℕ) (a n j : ℕ) (b : Branch) (l' : List ℕ) → j ≤ n → Inserted l (a + j) (a + n) b l' → branches l' a (n + 1) ≡ inserted j b (branches l a n)
unfolding branches
branches_inserted l a n j b l' h done =
    let f : ℕ → Branch = λ (k : ℕ). branch_in l (a + k) in
    let q : n ≡ j + (n - j) = omega arith in
    let q' : n + 1 ≡ j + suc (n - j) = omega arith in
    ap (table (λ k. branch_in l' (a + k))) q'
    ∙ table_inserted f (λ k. branch_in l' (a + k)) b j (n - j)
    (λ k lt. done.before (a + k) (omega arith))
    done.here
    (λ k le lt. ap (branch_in l') (let e : a + (k + 1) ≡ a + k + 1 = omega arith in e) ∙ done.behind (a + k) (omega arith) (omega arith))
    ∙ sym (inserted_at (table f j) (table (λ k. f (j + k)) (n - j)) b)
    ∙ ap (λ (k : ℕ). inserted k b (table f j ++ table (λ k. f (j + k)) (n - j))) (length-table f j)
    ∙ ap (inserted j b) (sym (table_split f j (n - j)) ∙ ap (table f) (sym q))

-- ---- a branch is put

module _ {A : Type 0} (c : A → A → Ordering) (of : Branch → A) (l : List ℕ) (a n : ℕ) (b : Branch) where
  abbrev meant : List A
  meant = map of (branches l a n)

  pub run_present : SpotOf c (of b) meant None → RunPut c of l a n b l n
  run_present spot = record { run = sym spot; most = omega arith; others = λ k h. refl }

  pub run_inserted : (l' : List ℕ) (j : ℕ) → SpotOf c (of b) meant (Some j) → Inserted l (a + j) (a + n) b l' → RunPut c of l a n b l' (n + 1)
  run_inserted l' j spot done =
      let h : j ≤ n = rw (length_meant of l a n) at spot.0 in
      record {
        run = ap (map of) (branches_inserted l a n j b l' h done) ∙ map-inserted of j b (branches l a n) ∙ sym spot.1;
        most = omega arith;
        others = λ k lt. done.before k (omega arith);
      }
