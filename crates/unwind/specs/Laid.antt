-- The ends and edges of a node as they are laid behind those that are stored.
use Rattle.std.specs.Prelude.{◌≡◌, List, ◌++◌, map, length, Option, Some, None}
use Rattle.std.proofs.Math.Option as maybe
use Prim.Native.Nat.{ℕ, ◌+◌, ◌≤◌, ◌<◌, compare}
use Rattle.image.specs.Image.{RouteImage}
use Rattle.image.specs.Deal.{UnwindEnd, UnwindPath}
use Rattle.unwind.specs.declared.tries.paths.Group.{Group}
use Rattle.unwind.specs.declared.tries.store.Branch.{Branch}
use Rattle.addition.specs.Lists.{joined}
use Rattle.addition.specs.Order.{Tagged, compare_tagged, compare_ends, sorted}
use Rattle.addition.specs.Trie.{cut, end_on, ends_of}
use Rattle.unwind.specs.Nodes.{branch_in, branches, edge_of, end_at, BranchSmall}
use Rattle.unwind.specs.Interning.{left_at, paths_of}
use Rattle.unwind.specs.Keys.{list_of}

-- the ends of paths, in their order
unfoldable pub ends_list : List UnwindPath → List (Tagged UnwindEnd)
ends_list ps = joined (λ p. end_on (cut p.steps) p.end) ps

module _ (m : RouteImage) where
  unfoldable pub ending_of : Option Branch → maybe.Option (Tagged UnwindEnd)
  ending_of (Some b) = maybe.some (end_at m b)
  ending_of None = maybe.none

  abbrev pub EndSmall : Option Branch → Type 0
  EndSmall (Some b) = BranchSmall b
  EndSmall None = Unit {0}

  pub record EndOf (g : Group) (q : ℕ) (r : Option Branch) : Type 0 where
    pub is : ends_list (left_at m g q) ≡ list_of (ending_of r)
    pub small : EndSmall r

  -- the n ends from a on are r, with that of path q among them
  pub record EndLaid (g : Group) (q : ℕ) (l : List ℕ) (a n : ℕ) (l' : List ℕ) (r : ℕ) : Type 0 where
    pub run : (ds : List (Tagged UnwindEnd)) → map (end_at m) (branches l a n) ≡ sorted (compare_tagged compare_ends) ds → map (end_at m) (branches l' a r) ≡ sorted (compare_tagged compare_ends) (ds ++ ends_list (left_at m g q))
    pub most : r ≤ n + length (ends_list (left_at m g q))
    pub others : (k : ℕ) → k < a → branch_in l' k ≡ branch_in l k

  -- the ends of a group stand from a on, and those before are as they were
  pub record EndsLaid (g : Group) (l : List ℕ) (a : ℕ) (l' : List ℕ) (r : ℕ) : Type 0 where
    pub run : map (end_at m) (branches l' a r) ≡ ends_of (paths_of m g)
    pub most : r ≤ length (ends_list (paths_of m g))
    pub others : (k : ℕ) → k < a → branch_in l' k ≡ branch_in l k

  -- the edges that stand on a stack from `top` on
  pub record EdgesLaid (stack : List ℕ) (top n : ℕ) (l : List ℕ) (a : ℕ) (l' : List ℕ) (r : ℕ) : Type 0 where
    pub run : map (edge_of m) (branches l' a r) ≡ sorted (compare_tagged compare) (map (edge_of m) (branches stack top n))
    pub most : r ≤ n
    pub others : (k : ℕ) → k < a → branch_in l' k ≡ branch_in l k
