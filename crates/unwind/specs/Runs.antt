-- Sorted runs of branches: what it takes to put one at its place.
use Rattle.std.specs.Prelude.{◌≡◌, List, ◌∷◌, ◌++◌, map, length, take, drop, Option, Some, None}
use Prim.Native.Nat.{ℕ, ◌+◌, ◌≤◌, ◌<◌, Ordering}
use Rattle.unwind.specs.declared.tries.store.Branch.{Branch}
use Rattle.addition.specs.Order.{put}
use Rattle.unwind.specs.Nodes.{branch_in, branches}

-- x in place j of a list
abbrev pub inserted : {A : Type 0} → ℕ → A → List A → List A
inserted j x l = take j l ++ x ∷ drop j l

-- where x goes in a sorted list, unless it stands there
abbrev pub SpotOf : {A : Type 0} → (A → A → Ordering) → A → List A → Option ℕ → Type 0
SpotOf c x l (Some j) = (j ≤ length l) × (put c x l ≡ inserted j x l)
SpotOf c x l None = put c x l ≡ l

-- b stands in place p, those from there to n one further, and those before as they were
pub record Inserted (l : List ℕ) (p n : ℕ) (b : Branch) (l' : List ℕ) : Type 0 where
  pub long : length l' ≡ length l
  pub before : (k : ℕ) → k < p → branch_in l' k ≡ branch_in l k
  pub here : branch_in l' p ≡ b
  pub behind : (k : ℕ) → p ≤ k → k < n → branch_in l' (k + 1) ≡ branch_in l k

-- the n branches from a on, of which `of` says what they stand for, have b among them, and are r then
pub record RunPut {A : Type 0} (c : A → A → Ordering) (of : Branch → A) (l : List ℕ) (a n : ℕ) (b : Branch) (l' : List ℕ) (r : ℕ) : Type 0 where
  pub run : map of (branches l' a r) ≡ put c (of b) (map of (branches l a n))
  pub most : r ≤ n + 1
  pub others : (k : ℕ) → k < a → branch_in l' k ≡ branch_in l k
