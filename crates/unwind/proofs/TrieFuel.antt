-- Interning hangs on no bound on the steps left, if that is large enough.
--     longest_short, longest_least     no path is longer than the longest, which is no longer than a bound on all
--     rest_shorter, rest_falls, groups_none     what is left of a group is shorter, and paths with no step have none
--     interned_is                      the node of a group is made of the nodes of its own groups
-- Assumes nothing.
use mathlib.Core.Path.{◌≡◌, refl, ap}
use mathlib.Core.List.Memᴰ
use mathlib.Core.List.{List, [], ◌∷◌, map}
use mathlib.Core.Option.{Option, some}
use Prim.Native.Nat.{ℕ, zero, suc, ◌-◌, ◌≤◌, ◌<◌}
use native.Mathlib.Omega.{arith}
use lib.ListN.{length, length-append}
use Rattle.image.specs.Deal.{funclet, call, UnwindPath}
use Rattle.addition.specs.Order.{Tagged}
use Rattle.addition.specs.Trie.{Node, Interned, groups, rest, create, Children, intern_each, node_of, intern, longest}
use Rattle.addition.specs.Walk.{◌∈◌}
use Rattle.unwind.specs.Interns.{interned}
use Rattle.addition.proofs.Paths.{rest_mem, groups_mem}

pub longest_short : (ps : List UnwindPath) (p : UnwindPath) → p ∈ ps → length p.steps ≤ longest ps
unfolding longest
longest_short (q ∷ ps) p (Memᴰ.head e) = rw e (omega arith)
longest_short (q ∷ ps) p (Memᴰ.tail m) = omega (arith, longest_short ps p m)
longest_short [] p x' = elim x' [ ]

pub longest_least : (n : ℕ) (ps : List UnwindPath) → ((p : UnwindPath) → p ∈ ps → length p.steps ≤ n) → longest ps ≤ n
unfolding longest
longest_least n [] short = omega arith
longest_least n (q ∷ ps) short = omega (arith, short q (Memᴰ.head refl), longest_least n ps (λ p m. short p (Memᴰ.tail m)))

-- a path of a group has a step more than what is left of it
longer : (k : Tagged ℕ) (ps : List UnwindPath) (q : UnwindPath) → q ∈ rest k ps → length q.steps < longest ps
longer k ps q m =
    omega (arith, longest_short ps _ (rest_mem ps k q m), length-append (map call k.calls) (funclet k.what ∷ q.steps))

pub rest_shorter : (k : Tagged ℕ) (ps : List UnwindPath) → longest (rest k ps) ≤ longest ps - 1
rest_shorter k ps = longest_least (longest ps - 1) (rest k ps) (λ q m. let h = longer k ps q m in omega arith)

pub rest_falls : (k : Tagged ℕ) (ps : List UnwindPath) → k ∈ groups ps → longest (rest k ps) < longest ps
rest_falls k ps m = let q = groups_mem ps k m in let h = longer k ps q.0 q.1 in omega (arith, rest_shorter k ps)

pub groups_none : (ps : List UnwindPath) → longest ps ≤ 0 → groups ps ≡ []
groups_none ps h = go (groups ps) (λ k m. m)
  where
    go : (ks : List (Tagged ℕ)) → ((k : Tagged ℕ) → k ∈ ks → k ∈ groups ps) → ks ≡ []
    go [] within = refl
    go (k ∷ ks) within = absurd (let q = groups_mem ps k (within k (Memᴰ.head refl)) in let z = longer k ps q.0 q.1 in omega arith)

each_same : (go go' : Option ℕ → List UnwindPath → List Node → Interned) (ps : List UnwindPath) (ks : List (Tagged ℕ)) (t : List Node)
    → ((k : Tagged ℕ) (u : List Node) → go (some k.what) (rest k ps) u ≡ go' (some k.what) (rest k ps) u) → intern_each go ps ks t ≡ intern_each go' ps ks t
unfolding intern_each
each_same go go' ps [] t same = refl
each_same go go' ps (k ∷ ks) t same = rw (same k t, each_same go go' ps ks (go' (some k.what) (rest k ps) t).trie same)

none_each : (go : Option ℕ → List UnwindPath → List Node → Interned) (ps : List UnwindPath) (t : List Node) → longest ps ≤ 0 → intern_each go ps (groups ps) t ≡ record { edges = []; trie = t }
unfolding intern_each
none_each go ps t h = rw (groups_none ps h)

module _ (r : ℕ) where
  intern-same : (k j : ℕ) (f : Option ℕ) (ps : List UnwindPath) (t : List Node) → longest ps ≤ k → longest ps ≤ j → intern k r f ps t ≡ intern j r f ps t
  unfolding intern
  intern-same zero zero f ps t h i = refl
  intern-same zero (suc j) f ps t h i = rw (none_each (intern j r) ps t h)
  intern-same (suc k) zero f ps t h i = rw (none_each (intern k r) ps t i)
  intern-same (suc k) (suc j) f ps t h i =
      ap (λ (c : Children). create (node_of r f ps c.edges) c.trie)
      (each_same (intern k r) (intern j r) ps (groups ps) t
      (λ x u. intern-same k j (some x.what) (rest x ps) u (omega (arith, rest_shorter x ps)) (omega (arith, rest_shorter x ps))))

  pub interned_is : (f : Option ℕ) (ps : List UnwindPath) (t : List Node) → interned r f ps t ≡ create (node_of r f ps (intern_each (interned r) ps (groups ps) t).edges) (intern_each (interned r) ps (groups ps) t).trie
  unfolding interned intern
  interned_is f ps t = go (longest ps) refl
    where
      go : (n : ℕ) → longest ps ≡ n → intern n r f ps t ≡ create (node_of r f ps (intern_each (interned r) ps (groups ps) t).edges) (intern_each (interned r) ps (groups ps) t).trie
      go zero e = rw (none_each (interned r) ps t (omega arith))
      go (suc n) e =
          ap (λ (c : Children). create (node_of r f ps c.edges) c.trie)
          (each_same (intern n r) (interned r) ps (groups ps) t
          (λ x u. intern-same n (longest (rest x ps)) (some x.what) (rest x ps) u (omega (arith, rest_shorter x ps)) (omega arith)))
