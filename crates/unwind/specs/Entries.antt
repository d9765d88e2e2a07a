-- Entries: the exits of one block in scratch, in order. Each is a branch, whose `what` is the number of its end.
use Rattle.std.specs.Prelude.{◌≡◌, cond, List, ℕ, ◌+◌, ◌*◌, ◌≤◌, ◌<◌, eqb, length, Result, Ok, Err}
use Rattle.std.specs.declared.cmp.Ordering.{Ordering as StdOrdering}
use Prim.Native.Nat.{Ordering}
use Rattle.image.specs.Image.{RouteImage, table}
use Rattle.unwind.specs.declared.tries.store.Branch.{Branch}
use Rattle.addition.specs.Order.{put}
use Rattle.unwind.specs.Nodes.{branch_in, tags_in}
use Rattle.unwind.specs.Interning.{ordering_of}
use Rattle.addition.specs.Ways.{HopEnd, block, leave}
use Rattle.unwind.specs.Sources.{Exit, compare_exits}

-- a block by its number, and leave by the greatest number, so that ends are ordered as their numbers are
unfoldable pub end_in : ℕ → HopEnd
end_in n = cond (eqb n 65535) leave (block n)

module _ (m : RouteImage) where
  -- of block b
  unfoldable pub exit_in : ℕ → Branch → Exit
  exit_in b e = record { leap = record { source = b; end = end_in e.what }; calls = tags_in m e.step e.calls }

  -- the first n entries
  unfoldable pub exits_in : ℕ → List ℕ → ℕ → List Exit
  exits_in b l n = table (λ k. exit_in b (branch_in l k)) n

  -- ---- what is asked and answered of them, of whichever block they are

  pub record Ordered (l : List ℕ) (n : ℕ) : Type 0 where
    pub fit : 3 * n ≤ length l
    pub rises : (b i j : ℕ) → i < j → j < n → compare_exits (exit_in b (branch_in l i)) (exit_in b (branch_in l j)) ≡ Ordering.lt

  pub record Compared (x y : Branch) (r : StdOrdering) : Type 0 where
    pub is : (b : ℕ) → ordering_of r ≡ compare_exits (exit_in b x) (exit_in b y)

  -- the entries before place p come before x, and those from p on behind it
  pub record Parts (l : List ℕ) (n : ℕ) (x : Branch) (p q : ℕ) : Type 0 where
    pub order : p ≤ q
    pub most : q ≤ n
    pub before : (b j : ℕ) → j < p → compare_exits (exit_in b x) (exit_in b (branch_in l j)) ≡ Ordering.gt
    pub behind : (b j : ℕ) → q ≤ j → j < n → compare_exits (exit_in b x) (exit_in b (branch_in l j)) ≡ Ordering.lt

  -- where x stands, or the place before which it belongs
  abbrev pub PlaceOf : List ℕ → ℕ → Branch → Result ℕ ℕ → Type 0
  PlaceOf l n x (Ok p) = (p < n) × ((b : ℕ) → exit_in b x ≡ exit_in b (branch_in l p))
  PlaceOf l n x (Err p) = Parts l n x p p

  pub record EntryPut (l : List ℕ) (n : ℕ) (x : Branch) (l' : List ℕ) (r : ℕ) : Type 0 where
    pub long : length l' ≡ length l
    pub most : r ≤ n + 1
    pub ordered : Ordered l' r
    pub is : (b : ℕ) → exits_in b l' r ≡ put compare_exits (exit_in b x) (exits_in b l n)
