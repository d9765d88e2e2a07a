-- Lists and tests by counting.
--     length-table, get_or_table      f 0, f 1, .. below n: how many, and which stands at i
--     table_same                   the list hangs on f below n alone
--     all_at, all_more, all_fails  what holds of each number holds of one; one number more; one of which it does not hold
--     all_each                     what the method `all` answers of a slice
--     all_between, all_below, some_below     what the methods `all` and `any` answer of numbers
--     all_same, all_behind         it hangs on f below n alone; f holds of the first numbers
--     some_same, some_more         it hangs on f below n alone; one number more
--     some_front, some_or          the first number apart, and two tests
--     some_at, some_where, some-none     it holds of some number if of one, of which one, and of none
--     flat-none, flat_one          lists of which none or one is not empty
--     flat-same, flat_front, flat-more     they hang on f below n alone; the first apart, and one more
--     among_append, among-flat     a number among two lists, or among many
--     count_same, count_none       the count hangs on f below n alone; f holds of none
--     count_add                    the first m numbers apart
--     count_one                    f holds of one number more
--     count_le                     there are n at most
-- Assumes nothing.
use mathlib.Core.Path.{◌≡◌, refl, sym, ap, ◌∙◌}
use mathlib.Core.Bool.{Bool, true, false, ◌&&◌, ◌||◌, and-false, and-true, and_assoc, or-true, or-false, or_assoc, false≢true}
use mathlib.Core.Logic.{◌⊎◌, inl, inr, ⊎_elim}
use mathlib.Core.List.{List, [], ◌∷◌, ◌++◌, append-nil, append_assoc}
use Prim.Native.Nat.{ℕ, zero, suc, ◌+◌, ◌-◌, ◌≤◌, ◌<◌}
use native.Mathlib.Nat.{add-zero, add-suc, eq-or-lt_of_le, le_of_suc-le-suc, not-suc-le-zero}
use native.Mathlib.Numerals.{add-one}
use native.Mathlib.Omega.{arith}
use lib.Dec.{T, eqb}
use lib.ListN.{length, get_or, length-append, get_or-append}
use lib.Seq.{get_or_at}
use Rattle.graph.specs.Fold.{flat, some, all, count, among}
use Rattle.image.specs.Image.{table}
use Rattle.std.specs.Fn.{Called}
use Rattle.std.specs.Iterator.{YieldsThen}
use Rattle.std.specs.List.{FoldsTo, list_all, list_any, range_with_len}
use Rattle.std.specs.Option.{MatchOption}
use Rattle.std.proofs.Common.{Option, Iter}
use Rattle.std.proofs.lemmas.Iterator.{YieldsList-from_range, YieldsList-from_slice}
use Rattle.std.proofs.lemmas.Iterator.Search.{all_from_yields_List, any_from_yields_List}
use denote.Param.Members.{Mut}
use denote.Ref.{Bor}
use Rattle.std.specs.Slice.Iter.{iter_rest}
use Rattle.std.specs.declared.ops.Range.{Range}
use Rattle.std.proofs.iter.Yields.{fronts, nat_range_steps}

module _ {A : Type 0} where
  pub length-table : (f : ℕ → A) (n : ℕ) → length (table f n) ≡ n
  unfolding table
  length-table f zero = refl
  length-table f (suc n) = simp (length-append, length-table f n) (omega arith)

  pub table_same : (f g : ℕ → A) (n : ℕ) → ((i : ℕ) → i < n → f i ≡ g i) → table f n ≡ table g n
  unfolding table
  table_same f g zero same = refl
  table_same f g (suc n) same = rw (table_same f g n (λ i h. same i (omega arith)), same n (omega arith))

  pub get_or_table : (f : ℕ → A) (n i : ℕ) (d : A) → i < n → get_or (table f n) i d ≡ f i
  unfolding table
  get_or_table f zero i d h = absurd (not-suc-le-zero h)
  get_or_table f (suc n) i d h =
      ⊎_elim
      (λ e. rw e (get_or_at (table f n) (f n) [] d n (length-table f n)))
      (λ lt. get_or-append (table f n) (f n ∷ []) d i (rw length-table lt) ∙ get_or_table f n i d lt)
      (eq-or-lt_of_le (le_of_suc-le-suc h))

pub both : (a b : Bool) → T (a && b) → T a × T b
both true b h = (tt, h)
both false b h = elim h [ ]

-- a test, or not
pub decided : (b : Bool) → (b ≡ true) ⊎ (b ≡ false)
decided true = inl refl
decided false = inr refl

pub all_at : (f : ℕ → Bool) (n i : ℕ) → T (all f n) → i < n → T (f i)
unfolding all
all_at f zero i h lt = absurd (not-suc-le-zero lt)
all_at f (suc n) i h lt =
    let parts = both (all f n) (f n) h in
    ⊎_elim
    (λ e. rw e parts.1)
    (λ less. all_at f n i parts.0 less)
    (eq-or-lt_of_le (le_of_suc-le-suc lt))

pub all_more : (f : ℕ → Bool) (n : ℕ) → all f n ≡ true → f n ≡ true → all f (n + 1) ≡ true
unfolding all
all_more f n before now = rw (add-one, before) now

pub all_fails : (f : ℕ → Bool) (n i : ℕ) → i < n → f i ≡ false → all f n ≡ false
unfolding all
all_fails f zero i h out = absurd (not-suc-le-zero h)
all_fails f (suc n) i h out =
    ⊎_elim
    (λ e. rw (rw e at out) (and-false (all f n)))
    (λ lt. rw (all_fails f n i lt out))
    (eq-or-lt_of_le (le_of_suc-le-suc h))

pub all_same : (f g : ℕ → Bool) (n : ℕ) → ((i : ℕ) → i < n → f i ≡ g i) → all f n ≡ all g n
unfolding all
all_same f g zero same = refl
all_same f g (suc n) same = rw (all_same f g n (λ i h. same i (omega arith)), same n (omega arith))

-- f holds of each number below k: the rest decides
pub all_behind : (f : ℕ → Bool) (k n : ℕ) → k ≤ n → all f k ≡ true → all (λ i. f (k + i)) (n - k) ≡ all f n
unfolding all
all_behind f k n h before =
    let n-is : k + (n - k) ≡ n = omega arith in
    rest (n - k) ∙ ap (all f) n-is
  where
    rest : (m : ℕ) → all (λ i. f (k + i)) m ≡ all f (k + m)
    rest zero = let k-is : k + 0 ≡ k = omega arith in rw k-is (sym before)
    rest (suc m) = let next : k + suc m ≡ suc (k + m) = omega arith in rw (next, rest m)

all_front : (f : ℕ → Bool) (n : ℕ) → all f (suc n) ≡ (f 0 && all (λ k. f (suc k)) n)
unfolding all
all_front f zero = sym (and-true (f 0))
all_front f (suc n) = ap (λ (b : Bool). b && f (suc n)) (all_front f n) ∙ and_assoc (f 0) (all (λ k. f (suc k)) n) (f (suc n))

all_listed : (f : ℕ → Bool) (a n : ℕ) → list_all f (range_with_len a n) ≡ all (λ i. f (a + i)) n
unfolding all
all_listed f a zero = refl
all_listed f a (suc n) =
    let here : a ≡ a + 0 = omega arith in
    ap (λ (b : Bool). f a && b) (all_listed f (a + 1) n ∙ all_same (λ i. f (a + 1 + i)) (λ i. f (a + suc i)) n (λ i h. ap f (omega arith)))
    ∙ ap (λ (k : ℕ). f k && all (λ i. f (a + suc i)) n) here
    ∙ sym (all_front (λ i. f (a + i)) n)

all_rows : {A : Type 0} (p : A → Bool) (l : List A) (d : A) → list_all p l ≡ all (λ i. p (get_or l i d)) (length l)
unfolding all
all_rows p [] d = refl
all_rows p (x ∷ l) d = ap (λ (b : Bool). p x && b) (all_rows p l d) ∙ sym (all_front (λ i. p (get_or (x ∷ l) i d)) (length l))

-- what the method `all` answers of a slice
pub all_each : {A F : Type 0} {g : Mut F (Bor A × Unit {0}) Bool} (p : A → Bool) (l : List A) (d : A) {s : Iter A} (u : Iter A) (h : F) (r : Bool)
    → (xs : List (Bor A)) × (o : Option (Bor A)) × (j : F) × YieldsThen fronts s xs o u × FoldsTo (λ f x q. Called g f (x, tt) true q) h xs j × MatchOption o (r ≡ true) (λ x. (r ≡ false) × ((k : F) × Called g j (x, tt) false k))
    → iter_rest s ≡ l
    → ((x : Bor A) (b : Bool) (q : F) → Called g h (x, tt) b q → (q ≡ h) × (b ≡ p x.now))
    → r ≡ all (λ i. p (get_or l i d)) (length l)
all_each p l d u h r ran is each = all_from_yields_List p u h r ran (YieldsList-from_slice l is) each ∙ all_rows p l d

-- what the method `all` answers of the numbers from a on and below n, and of those below n
pub all_between : {F : Type 0} {g : Mut F (ℕ × Unit {0}) Bool} (f : ℕ → Bool) (a n : ℕ) {s : Range ℕ} (u : Range ℕ) (h : F) (r : Bool)
    → (xs : List ℕ) × (o : Option ℕ) × (j : F) × YieldsThen nat_range_steps s xs o u × FoldsTo (λ p x q. Called g p (x, tt) true q) h xs j × MatchOption o (r ≡ true) (λ x. (r ≡ false) × ((k : F) × Called g j (x, tt) false k))
    → s ≡ record { start = a; end = n }
    → ((x : ℕ) (b : Bool) (q : F) → Called g h (x, tt) b q → (q ≡ h) × (b ≡ f x))
    → r ≡ all (λ i. f (a + i)) (n - a)
all_between f a n u h r ran is each = all_from_yields_List f u h r ran (YieldsList-from_range a n (n - a) is refl) each ∙ all_listed f a (n - a)

pub all_below : {F : Type 0} {g : Mut F (ℕ × Unit {0}) Bool} (f : ℕ → Bool) (n : ℕ) {s : Range ℕ} (u : Range ℕ) (h : F) (r : Bool)
    → (xs : List ℕ) × (o : Option ℕ) × (j : F) × YieldsThen nat_range_steps s xs o u × FoldsTo (λ p x q. Called g p (x, tt) true q) h xs j × MatchOption o (r ≡ true) (λ x. (r ≡ false) × ((k : F) × Called g j (x, tt) false k))
    → s ≡ record { start = 0; end = n }
    → ((x : ℕ) (b : Bool) (q : F) → Called g h (x, tt) b q → (q ≡ h) × (b ≡ f x))
    → r ≡ all f n
all_below f n u h r ran is each =
    let rest : n - 0 ≡ n = omega arith in
    all_between f 0 n u h r ran is each ∙ ap (all (λ i. f (0 + i))) rest ∙ all_same (λ i. f (0 + i)) f n (λ i h. ap f (omega arith))

-- ---- some

pub some_same : (f g : ℕ → Bool) (n : ℕ) → ((i : ℕ) → i < n → f i ≡ g i) → some f n ≡ some g n
unfolding some
some_same f g zero same = refl
some_same f g (suc n) same = rw (some_same f g n (λ i h. same i (omega arith)), same n (omega arith))

pub some_front : (f : ℕ → Bool) (n : ℕ) → some f (suc n) ≡ (f 0 || some (λ k. f (suc k)) n)
unfolding some
some_front f zero = sym (or-false (f 0))
some_front f (suc n) = ap (λ (b : Bool). b || f (suc n)) (some_front f n) ∙ or_assoc (f 0) (some (λ k. f (suc k)) n) (f (suc n))

some_listed : (f : ℕ → Bool) (a n : ℕ) → list_any f (range_with_len a n) ≡ some (λ i. f (a + i)) n
unfolding some
some_listed f a zero = refl
some_listed f a (suc n) =
    let here : a ≡ a + 0 = omega arith in
    ap (λ (b : Bool). f a || b) (some_listed f (a + 1) n ∙ some_same (λ i. f (a + 1 + i)) (λ i. f (a + suc i)) n (λ i h. ap f (omega arith)))
    ∙ ap (λ (k : ℕ). f k || some (λ i. f (a + suc i)) n) here
    ∙ sym (some_front (λ i. f (a + i)) n)

-- what the method `any` answers of the numbers below n
pub some_below : {F : Type 0} {g : Mut F (ℕ × Unit {0}) Bool} (f : ℕ → Bool) (n : ℕ) {s : Range ℕ} (u : Range ℕ) (h : F) (r : Bool)
    → (xs : List ℕ) × (o : Option ℕ) × (j : F) × YieldsThen nat_range_steps s xs o u × FoldsTo (λ p x q. Called g p (x, tt) false q) h xs j × MatchOption o (r ≡ false) (λ x. (r ≡ true) × ((k : F) × Called g j (x, tt) true k))
    → s ≡ record { start = 0; end = n }
    → ((x : ℕ) (b : Bool) (q : F) → Called g h (x, tt) b q → (q ≡ h) × (b ≡ f x))
    → r ≡ some f n
some_below f n u h r ran is each =
    any_from_yields_List f u h r ran (YieldsList-from_range 0 n n is (omega arith)) each
    ∙ some_listed f 0 n
    ∙ some_same (λ i. f (0 + i)) f n (λ i lt. ap f (omega arith))

pub some_or : (f g : ℕ → Bool) (n : ℕ) → some (λ k. f k || g k) n ≡ (some f n || some g n)
unfolding some
some_or f g zero = refl
some_or f g (suc n) = ap (λ (b : Bool). b || (f n || g n)) (some_or f g n) ∙ or_middle (some f n) (some g n) (f n) (g n)
  where
    or_middle : (a b c d : Bool) → ((a || b) || (c || d)) ≡ ((a || c) || (b || d))
    or_middle true b c d = refl
    or_middle false true c d = sym (or-true c)
    or_middle false false c d = refl

pub some_more : (f : ℕ → Bool) (n : ℕ) → some f n ≡ false → f n ≡ false → some f (n + 1) ≡ false
unfolding some
some_more f n none out = rw (add-one, none) out

pub some_at : (f : ℕ → Bool) (n i : ℕ) → i < n → f i ≡ true → some f n ≡ true
unfolding some
some_at f zero i h e = absurd (not-suc-le-zero h)
some_at f (suc n) i h e =
    ⊎_elim
    (λ same. rw (rw same at e) (or-true (some f n)))
    (λ lt. rw (some_at f n i lt e))
    (eq-or-lt_of_le (le_of_suc-le-suc h))

pub some-none : (f : ℕ → Bool) (n : ℕ) → some f n ≡ false → (i : ℕ) → i < n → f i ≡ false
some-none f n none i h = ⊎_elim (λ e. absurd (false≢true (sym none ∙ some_at f n i h e))) (λ e. e) (decided (f i))

pub some_where : (f : ℕ → Bool) (n : ℕ) → some f n ≡ true → (i : ℕ) × (i < n) × (f i ≡ true)
unfolding some
some_where f zero e = absurd (false≢true e)
some_where f (suc n) e = go (some f n) refl (some_where f n) e
  where
    go : (b : Bool) → some f n ≡ b → (some f n ≡ true → (i : ℕ) × (i < n) × (f i ≡ true)) → (b || f n) ≡ true → (i : ℕ) × (i < suc n) × (f i ≡ true)
    go true b rest e = let r = rest b in (r.0, omega (arith, r.1), r.2)
    go false b rest e = (n, omega arith, e)

module _ {A : Type 0} (f : ℕ → List A) where
  pub flat-none : (n : ℕ) → ((i : ℕ) → i < n → f i ≡ []) → flat f n ≡ []
  unfolding flat
  flat-none zero none = refl
  flat-none (suc n) none = rw (flat-none n (λ i h. none i (omega arith)), none n (omega arith))

  pub flat_one : (n k : ℕ) → k < n → ((i : ℕ) → i < n → (i ≡ k → ⊥) → f i ≡ []) → flat f n ≡ f k
  unfolding flat
  flat_one zero k h none = absurd (not-suc-le-zero h)
  flat_one (suc n) k h none =
      ⊎_elim
      (λ same. rw (flat-none n (λ i lt. none i (omega arith) (omega arith)), same))
      (λ lt. rw (flat_one n k lt (λ i l. none i (omega arith)), none n (omega arith) (omega arith)) (append-nil (f k)))
      (eq-or-lt_of_le (le_of_suc-le-suc h))

  pub flat_front : (n : ℕ) → flat f (suc n) ≡ f 0 ++ flat (λ i. f (suc i)) n
  unfolding flat
  flat_front zero = sym (append-nil (f 0))
  flat_front (suc n) = rw (flat_front n) (append_assoc (f 0) (flat (λ i. f (suc i)) n) (f (suc n)))

  pub flat-more : (n : ℕ) → flat f (n + 1) ≡ flat f n ++ f n
  unfolding flat
  flat-more n = rw add-one

pub flat-same : {A : Type 0} (f g : ℕ → List A) (n : ℕ) → ((i : ℕ) → i < n → f i ≡ g i) → flat f n ≡ flat g n
unfolding flat
flat-same f g zero same = refl
flat-same f g (suc n) same = rw (flat-same f g n (λ i h. same i (omega arith)), same n (omega arith))

-- ---- a, among numbers

module _ (a : ℕ) where
  pub among_append : (l k : List ℕ) → among (l ++ k) a ≡ (among l a || among k a)
  unfolding among
  among_append [] k = refl
  among_append (x ∷ l) k = ap (λ (b : Bool). eqb x a || b) (among_append l k) ∙ sym (or_assoc (eqb x a) (among l a) (among k a))

  pub among-flat : (f : ℕ → List ℕ) (n : ℕ) → among (flat f n) a ≡ some (λ k. among (f k) a) n
  unfolding flat some among
  among-flat f zero = refl
  among-flat f (suc n) = among_append (flat f n) (f n) ∙ ap (λ (b : Bool). b || among (f n) a) (among-flat f n)

-- ---- counts

module _ (f : ℕ → Bool) (n : ℕ) where
  pub count_yes : f n ≡ true → count f (suc n) ≡ suc (count f n)
  unfolding count
  count_yes e = rw e (omega arith)

  pub count_no : f n ≡ false → count f (suc n) ≡ count f n
  unfolding count
  count_no e = rw e (omega arith)

pub count_same : (f g : ℕ → Bool) (n : ℕ) → ((k : ℕ) → k < n → f k ≡ g k) → count f n ≡ count g n
unfolding count
count_same f g zero same = refl
count_same f g (suc n) same = rw (same n (omega arith), count_same f g n (λ k h. same k (omega arith)))

pub count_none : (f : ℕ → Bool) (n : ℕ) → ((k : ℕ) → k < n → f k ≡ false) → count f n ≡ 0
unfolding count
count_none f zero none = refl
count_none f (suc n) none = count_no f n (none n (omega arith)) ∙ count_none f n (λ k h. none k (omega arith))

pub count_add : (f : ℕ → Bool) (m n : ℕ) → count f (m + n) ≡ count f m + count (λ (k : ℕ). f (m + k)) n
unfolding count
count_add f m zero = rw add-zero (omega arith)
count_add f m (suc n) =
    rw add-suc
    (⊎_elim
    (λ e. omega (arith, count_yes f (m + n) e, count_yes (λ (k : ℕ). f (m + k)) n e, count_add f m n))
    (λ e. omega (arith, count_no f (m + n) e, count_no (λ (k : ℕ). f (m + k)) n e, count_add f m n))
    (decided (f (m + n))))

pub count_le : (f : ℕ → Bool) (n : ℕ) → count f n ≤ n
unfolding count
count_le f zero = omega arith
count_le f (suc n) =
    ⊎_elim
    (λ e. omega (arith, count_yes f n e, count_le f n))
    (λ e. omega (arith, count_no f n e, count_le f n))
    (decided (f n))

-- g holds where f does, and of b besides
pub count_one : (f g : ℕ → Bool) (n b : ℕ) → b < n → f b ≡ false → g b ≡ true → ((k : ℕ) → k < n → (k ≡ b → ⊥) → g k ≡ f k) → count g n ≡ suc (count f n)
count_one f g zero b h out in_g same = absurd (not-suc-le-zero h)
count_one f g (suc n) b h out in_g same =
    ⊎_elim
    (λ e. omega (arith, count_yes g n (rw e at in_g), count_no f n (rw e at out), count_same g f n (λ k lt. same k (omega arith) (omega arith))))
    (λ lt. let rest = count_one f g n b lt out in_g (λ k l ne. same k (omega arith) ne) in
    ⊎_elim
    (λ e. omega (arith, rest, count_yes f n e, count_yes g n (same n (omega arith) (omega arith) ∙ e)))
    (λ e. omega (arith, rest, count_no f n e, count_no g n (same n (omega arith) (omega arith) ∙ e)))
    (decided (f n)))
    (eq-or-lt_of_le (le_of_suc-le-suc h))
