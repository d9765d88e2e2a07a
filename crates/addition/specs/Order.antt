-- Sorted lists in which nothing stands twice, as BTreeSet and BTreeMap keep them.
use Rattle.std.specs.Prelude.{Bool, true, false, ◌&&◌, List, [], ◌∷◌}
use Prim.Native.Nat.{ℕ, compare, Ordering}
use Rattle.std.proofs.Math.Dec.{compare_is_eq}
use Rattle.image.specs.Deal.{UnwindEnd, handler, propagate, resume}

-- x put at its place in a sorted list, unless it stands there
unfoldable pub placed : {A : Type 0} → Ordering → A → A → List A → List A → List A
placed Ordering.lt x y l more = x ∷ y ∷ l
placed Ordering.eq x y l more = y ∷ l
placed Ordering.gt x y l more = y ∷ more

unfoldable pub put : {A : Type 0} → (A → A → Ordering) → A → List A → List A
put c x [] = x ∷ []
put c x (y ∷ l) = placed (c x y) x y l (put c x l)

unfoldable pub sorted : {A : Type 0} → (A → A → Ordering) → List A → List A
sorted c [] = []
sorted c (x ∷ l) = put c x (sorted c l)

-- the second comparison decides where the first finds its two equal
infixr 30 ◌and_then◌
unfoldable pub ◌and_then◌ : Ordering → Ordering → Ordering
Ordering.lt and_then o = Ordering.lt
Ordering.eq and_then o = o
Ordering.gt and_then o = Ordering.gt

-- 'tags from the first on': a list that another begins with comes first
unfoldable pub compare_tags : List ℕ → List ℕ → Ordering
compare_tags [] [] = Ordering.eq
compare_tags [] (y ∷ t) = Ordering.lt
compare_tags (x ∷ s) [] = Ordering.gt
compare_tags (x ∷ s) (y ∷ t) = compare x y and_then compare_tags s t

-- Handler by address, Propagate, Resume
unfoldable pub compare_ends : UnwindEnd → UnwindEnd → Ordering
compare_ends (handler a) (handler b) = compare a b
compare_ends (handler a) propagate = Ordering.lt
compare_ends (handler a) resume = Ordering.lt
compare_ends propagate (handler b) = Ordering.gt
compare_ends propagate propagate = Ordering.eq
compare_ends propagate resume = Ordering.lt
compare_ends resume (handler b) = Ordering.gt
compare_ends resume propagate = Ordering.gt
compare_ends resume resume = Ordering.eq

-- what comes after the calls of these tags
pub record Tagged (A : Type 0) : Type 0 where
  pub calls : List ℕ
  pub what : A

abbrev pub tagged : {A : Type 0} → List ℕ → A → Tagged A
tagged l a = record { calls = l; what = a }

-- by tags, then by what comes after them
unfoldable pub compare_tagged : {A : Type 0} → (A → A → Ordering) → Tagged A → Tagged A → Ordering
compare_tagged c x y = compare_tags x.calls y.calls and_then c x.what y.what

-- the two lists are equal, element by element
unfoldable pub same : {A : Type 0} → (A → A → Ordering) → List A → List A → Bool
same c [] [] = true
same c [] (y ∷ m) = false
same c (x ∷ l) [] = false
same c (x ∷ l) (y ∷ m) = compare_is_eq (c x y) && same c l m
