-- Copies of blocks and edges, counted.
--     keep_most                    no more are kept than there are
--     out_most, set_most           how many edges go out of blocks
--     copies_none, copies_some     the blocks that a node copies
--     node_copies, edges_next, none_next, some_next, count-some, no_edges     the copies of edges by a node more, and by none
--     set_front, joined-none       the edges out of a set: the lowest block apart, and none
--     excluding_in                 what is left of a set
--     rank_few                     a rank is small
--     copy_in, copy_out            the copy of an edge to a block that is copied, and to another
-- Assumes nothing.
use mathlib.Core.Path.{◌≡◌, refl, sym, ap, ap₂, ◌∙◌}
use mathlib.Core.Bool.{Bool, true, false, cond, not}
use mathlib.Core.List.{List, [], ◌∷◌, ◌++◌, map, append-nil}
use Prim.Native.Nat.{ℕ, zero, suc, ◌+◌, ◌*◌, ◌≤◌, ◌<◌, min}
use native.Mathlib.Nat.{mul-suc, le_trans}
use native.Mathlib.Omega.{arith}
use borrow.Author.Tests.{eq-eqb, ne_eqb}
use lib.Dec.{eqb}
use lib.ListN.{length, get_or, length-append, length-map}
use Rattle.graph.specs.declared.record.Edge.{Edge}
use Rattle.graph.specs.Graph.{Graph}
use Rattle.graph.specs.Fold.{flat, count}
use Rattle.graph.specs.BlockSet.{member, excluding}
use Rattle.graph.proofs.FoldLaws.{flat-more, count_le}
use Rattle.graph.proofs.BlockLaws.{member-excluding, rank-all}
use Rattle.addition.specs.Lists.{keep, joined, upto}
use Rattle.addition.specs.Part.{outgoing}
use Rattle.unwind.specs.Placed.{set_at}
use Rattle.unwind.specs.Clones.{list_of, copies_in, copy_of, edge_copies}
use Rattle.addition.proofs.Lists.{and_both}
use Rattle.unwind.proofs.ChainLaws.{list_none, list_front}

pub excluding_in : (w : List ℕ) → length w ≡ 16 → (b c : ℕ) → member (excluding w b) c ≡ true → member w c ≡ true
excluding_in w long b c m = (and_both (not (eqb b c)) (member w c) (sym (member-excluding w long b c) ∙ m)).1

-- ---- how many

pub keep_most : {A : Type 0} (f : A → Bool) (l : List A) → length (keep f l) ≤ length l
unfolding keep
keep_most f [] = omega arith
keep_most f (x ∷ l) = go (f x) (keep_most f l)
  where
    go : (b : Bool) → length (keep f l) ≤ length l → length (cond b (x ∷ keep f l) (keep f l)) ≤ suc (length l)
    go true h = omega arith
    go false h = omega arith

upto_long : (n : ℕ) → length (upto n) ≡ n
unfolding upto
upto_long zero = refl
upto_long (suc n) = length-append (upto n) (n ∷ []) ∙ omega (arith, upto_long n)

joined_most : {B : Type 0} (f : ℕ → List B) (k : ℕ) → ((b : ℕ) → length (f b) ≤ k) → (l : List ℕ) → length (joined f l) ≤ k * length l
unfolding joined
joined_most f k each [] = omega arith
joined_most f k each (b ∷ l) = rw (length-append (f b) (joined f l), mul-suc k (length l)) (omega (arith, each b, joined_most f k each l))

pub out_most : (g : Graph) (b : ℕ) → length (outgoing g b) ≤ length g.edges
unfolding outgoing
out_most g b = keep_most _ g.edges

pub set_most : (g : Graph) (w : List ℕ) → length g.edges ≤ 4096 → length (joined (outgoing g) (list_of w)) ≤ 4194304
unfolding list_of
set_most g w few =
    let size : length (list_of w) ≤ 1024 = rw (upto_long 1024) at (keep_most (member w) (upto 1024)) in
    omega (arith, joined_most (outgoing g) 4096 (λ b. le_trans (out_most g b) few) (list_of w))

joined_mapped : {A B : Type 0} (f : A → B) (h : ℕ → List A) (l : List ℕ) → length (joined (λ b. map f (h b)) l) ≡ length (joined h l)
unfolding joined
joined_mapped f h [] = refl
joined_mapped f h (b ∷ l) =
    length-append (map f (h b)) _ ∙ ap₂ (λ (x y : ℕ). x + y) (length-map (h b) f) (joined_mapped f h l) ∙ sym (length-append (h b) (joined h l))

module _ (bases parts : List ℕ) (i : ℕ) where
  pub copies_none : get_or bases i 0 ≡ 0 → copies_in bases parts i ≡ []
  unfolding copies_in
  copies_none e = rw (eq-eqb _ 0 e)

  pub copies_some : (get_or bases i 0 ≡ 0 → ⊥) → copies_in bases parts i ≡ list_of (set_at parts i)
  unfolding copies_in
  copies_some ne = rw (ne_eqb _ 0 ne)

  module _ (g : Graph) where
    abbrev pub node_copies : List Edge
    node_copies = joined (λ b. map (copy_of (get_or bases i 0) (set_at parts i)) (outgoing g b)) (copies_in bases parts i)

    pub edges_next : edge_copies g bases parts (i + 1) ≡ edge_copies g bases parts i ++ node_copies
    unfolding edge_copies
    edges_next = flat-more _ i

    pub none_next : get_or bases i 0 ≡ 0 → edge_copies g bases parts (i + 1) ≡ edge_copies g bases parts i
    unfolding joined
    none_next e = edges_next ∙ ap (λ (l : List ℕ). edge_copies g bases parts i ++ joined (λ b. map (copy_of (get_or bases i 0) (set_at parts i)) (outgoing g b)) l) (copies_none e) ∙ append-nil _

    pub some_next : (get_or bases i 0 ≡ 0 → ⊥) → edge_copies g bases parts (i + 1) ≡ edge_copies g bases parts i ++ joined (λ b. map (copy_of (get_or bases i 0) (set_at parts i)) (outgoing g b)) (list_of (set_at parts i))
    some_next ne = edges_next ∙ ap (λ (l : List ℕ). edge_copies g bases parts i ++ joined (λ b. map (copy_of (get_or bases i 0) (set_at parts i)) (outgoing g b)) l) (copies_some ne)

    pub count-some : (get_or bases i 0 ≡ 0 → ⊥) → length (edge_copies g bases parts (i + 1)) ≡ length (edge_copies g bases parts i) + length (joined (outgoing g) (list_of (set_at parts i)))
    count-some ne = ap length (some_next ne) ∙ length-append (edge_copies g bases parts i) _ ∙ ap (λ (k : ℕ). length (edge_copies g bases parts i) + k) (joined_mapped _ (outgoing g) (list_of (set_at parts i)))

pub no_edges : (g : Graph) (bases parts : List ℕ) → edge_copies g bases parts 0 ≡ []
unfolding edge_copies flat
no_edges g bases parts = refl

-- the edges out of a set: the lowest block apart
pub set_front : (g : Graph) (w : List ℕ) (b : ℕ) → length w ≡ 16 → b < 1024 → member w b ≡ true → ((c : ℕ) → c < b → member w c ≡ false)
    → length (joined (outgoing g) (list_of w)) ≡ length (outgoing g b) + length (joined (outgoing g) (list_of (excluding w b)))
unfolding joined
set_front g w b long h is low = ap (λ (l : List ℕ). length (joined (outgoing g) l)) (list_front w b long h is low) ∙ length-append (outgoing g b) _

pub joined-none : (g : Graph) (w : List ℕ) → ((c : ℕ) → member w c ≡ false) → joined (outgoing g) (list_of w) ≡ []
unfolding joined
joined-none g w none = ap (joined (outgoing g)) (list_none w none)

-- ---- one edge

pub rank_few : (w : List ℕ) → length w ≡ 16 → (b : ℕ) → count (member w) b ≤ 1024
rank_few w long b = rw (sym (rank-all w long b)) (le_trans (count_le (member w) (min b 1024)) (omega arith))

module _ (b : ℕ) (w : List ℕ) (e : Edge) where
  abbrev from_to : ℕ → ℕ → Edge
  from_to s t =
      record { source = s; target = t; kind = e.kind; role = e.role; number = e.number; key = e.key; source_address = e.source_address; target_address = e.target_address }

  pub copy_in : (r t : ℕ) → r ≡ count (member w) e.source → t ≡ count (member w) e.target → member w e.target ≡ true → from_to (b + r) (b + t) ≡ copy_of b w e
  unfolding copy_of
  copy_in r t is to in-w = rw (is, to, in-w)

  pub copy_out : (r : ℕ) → r ≡ count (member w) e.source → member w e.target ≡ false → from_to (b + r) e.target ≡ copy_of b w e
  unfolding copy_of
  copy_out r is out = rw (is, out)
