-- All hops: of the blocks that stood, then node by node of its copies.
--     flat_split                   f 0, f 1, .. in two parts
--     hops_parts                   the hops of all ways, source by source
--     copy_number_law                  the number of a copy, by the lower blocks of the part
--     flat_chosen                  lists of some numbers, by their places
--     rank_chosen                  the place of a chosen number
--     part_is, place_is            the blocks of a node by its set, and where it has their copies
use mathlib.Core.Path.{◌≡◌, refl, sym, ◌∙◌, ap}
use mathlib.Core.Bool.{Bool, true, false, cond}
use mathlib.Core.List.Memᴰ
use mathlib.Core.List.{List, [], ◌∷◌, ◌++◌, map, append-nil, append_assoc}
use Prim.Native.Nat.{ℕ, zero, suc, ◌+◌, ◌<◌, compare}
use native.Mathlib.Nat.{not-suc-le-zero}
use native.Mathlib.Decide.{dec_lt}
use native.Mathlib.Omega.{arith}
use borrow.Author.Tests.{eq-eqb, ne_eqb}
use lib.Dec.{eqb}
use lib.ListN.{length, length-append}
use Rattle.image.specs.Image.{RouteImage}
use Rattle.image.specs.Deal.{UnwindRoute, routes_of}
use Rattle.graph.specs.Graph.{Graph}
use Rattle.graph.specs.Fold.{flat}
use Rattle.graph.proofs.FoldLaws.{flat-same}
use Rattle.unwind.specs.declared.tries.store.Counts.{Counts}
use Rattle.addition.specs.Lists.{keep, upto, rank}
use Rattle.addition.specs.Part.{funclets}
use Rattle.addition.specs.Trie.{Node, tries}
use Rattle.addition.specs.Instance.{blocks_of, later, copied, base, place}
use Rattle.addition.specs.Ways.{Hop, ways, hops_of}
use Rattle.unwind.specs.Sources.{exit, exits_at, hops_on}
use Rattle.unwind.specs.Gather.{in_set}
use Rattle.unwind.specs.Lent.{PartsIn}
use Rattle.unwind.specs.Copies.{copy_number}
use Rattle.addition.specs.Walk.{◌∈◌}
use Rattle.addition.proofs.Lists.{mem_keep, keep_mem, mem_upto, upto_mem, mem_among, among_mem}
use Rattle.unwind.proofs.EdgeNumber.{keep_append}
use Rattle.unwind.proofs.Sources.{hops_sorted, exits_flat, hops_flat}
use Rattle.addition.proofs.Instance.{blocks_lt, place_later}
use Rattle.unwind.proofs.TrieOrder.{total_number}
use Rattle.unwind.proofs.Rising.{rising_keep, sorted_rising, rising_is}
use Rattle.unwind.proofs.Leaving.{source_below, upto_rising, blocks_rising}

module _ {A : Type 0} (f : ℕ → List A) where
  pub flat_split : (a b : ℕ) → flat f (a + b) ≡ flat f a ++ flat (λ k. f (a + k)) b
  unfolding flat
  flat_split a zero = let e : a + 0 ≡ a = omega arith in rw e (sym (append-nil (flat f a)))
  flat_split a (suc b) =
      let e : a + suc b ≡ suc (a + b) = omega arith in
      rw (e, flat_split a b) (append_assoc (flat f a) (flat (λ k. f (a + k)) b) (f (a + b)))

module _ (g : Graph) (rs : List UnwindRoute) where
  abbrev z : List Node
  z = (tries rs).nodes

  abbrev fs : List ℕ
  fs = funclets rs

  abbrev out : ℕ → List Hop
  out b = hops_on [] (exits_at (map exit (ways g rs)) b)

  -- those behind the blocks that stood, node by node
  behind : (n : ℕ) → flat (λ k. out (length g.blocks + k)) (length (flat (copied g fs z) n)) ≡ flat (λ i. flat (λ k. out (base g fs z i + k)) (length (copied g fs z i))) n
  unfolding flat base
  behind zero = refl
  behind (suc n) =
      let a : ℕ = length (flat (copied g fs z) n) in
      let b : ℕ = length (copied g fs z n) in
      ap (flat (λ k. out (length g.blocks + k))) (length-append (flat (copied g fs z) n) (copied g fs z n))
      ∙ flat_split (λ k. out (length g.blocks + k)) a b
      ∙ ap (λ (t : List Hop). t ++ flat (λ k. out (length g.blocks + (a + k))) b) (behind n)
      ∙ ap (λ (t : List Hop). flat (λ i. flat (λ k. out (base g fs z i + k)) (length (copied g fs z i))) n ++ t)
      (flat-same (λ k. out (length g.blocks + (a + k))) (λ k. out (length g.blocks + a + k)) b (λ k h. let e : length g.blocks + (a + k) ≡ length g.blocks + a + k = omega arith in ap out e))

  pub hops_parts : hops_of (ways g rs) ≡ flat out (length g.blocks) ++ flat (λ i. flat (λ k. out (base g fs z i + k)) (length (copied g fs z i))) (length z)
  hops_parts =
      let n : ℕ = length g.blocks + length (flat (copied g fs z) (length z)) in
      hops_sorted (ways g rs)
      ∙ ap (hops_on []) (exits_flat (map exit (ways g rs)) n (source_below g rs))
      ∙ hops_flat (map exit (ways g rs)) n
      ∙ flat_split out (length g.blocks) (length (flat (copied g fs z) (length z)))
      ∙ ap (λ (t : List Hop). flat out (length g.blocks) ++ t) (behind (length z))

-- ---- the copies of one node

pub copy_number_law : (parts : List ℕ) (i base o : ℕ) → copy_number parts i base o ≡ base + length (keep (in_set parts i) (upto o))
unfolding copy_number upto keep
copy_number_law parts i base zero = omega arith
copy_number_law parts i base (suc o) =
    ap (λ (n : ℕ). n + cond (in_set parts i o) 1 0) (copy_number_law parts i base o)
    ∙ go (in_set parts i o)
    ∙ ap (λ (n : ℕ). base + n) (sym (ap length (keep_append (in_set parts i) (upto o) (o ∷ [])) ∙ length-append (keep (in_set parts i) (upto o)) (keep (in_set parts i) (o ∷ []))))
  where
    go : (t : Bool) → base + length (keep (in_set parts i) (upto o)) + cond t 1 0 ≡ base + (length (keep (in_set parts i) (upto o)) + length (cond t (o ∷ []) []))
    go true = omega arith
    go false = omega arith

-- F at the place that each chosen number has among those that are chosen
pub flat_chosen : {A : Type 0} (f : ℕ → Bool) (F : ℕ → List A) (n : ℕ) → flat (λ o. cond (f o) (F (length (keep f (upto o)))) []) n ≡ flat F (length (keep f (upto n)))
unfolding flat upto keep
flat_chosen f F zero = refl
flat_chosen {A} f F (suc n) =
    ap (λ (t : List A). t ++ cond (f n) (F (length (keep f (upto n)))) []) (flat_chosen f F n)
    ∙ go (f n)
    ∙ ap (flat F) (sym (ap length (keep_append f (upto n) (n ∷ [])) ∙ length-append (keep f (upto n)) (keep f (n ∷ []))))
  where
    go : (t : Bool) → flat F (length (keep f (upto n))) ++ cond t (F (length (keep f (upto n)))) [] ≡ flat F (length (keep f (upto n)) + length (cond t (n ∷ []) []))
    go true = let e : length (keep f (upto n)) + 1 ≡ suc (length (keep f (upto n))) = omega arith in rw e
    go false = let e : length (keep f (upto n)) + 0 ≡ length (keep f (upto n)) = omega arith in rw e (append-nil (flat F (length (keep f (upto n)))))

rank_in : {x : ℕ} {l : List ℕ} (m : List ℕ) → x ∈ l → rank x (l ++ m) ≡ rank x l
unfolding rank
rank_in {x} m (Memᴰ.head {x = y} {xs = l} e) = rw (eq-eqb x y e)
rank_in {x} m (Memᴰ.tail {x = y} {xs = l} k) = ap (λ (n : ℕ). cond (eqb x y) 0 (suc n)) (rank_in m k)

rank_out : (x : ℕ) (l m : List ℕ) → (x ∈ l → ⊥) → rank x (l ++ x ∷ m) ≡ length l
unfolding rank
rank_out x [] m n = rw (eq-eqb x x refl)
rank_out x (y ∷ l) m n = rw (ne_eqb x y (λ e. n (Memᴰ.head e))) (ap suc (rank_out x l m (λ k. n (Memᴰ.tail k))))

-- the place of a chosen number is the number of those before it
pub rank_chosen : (f : ℕ → Bool) (n o : ℕ) → o < n → f o ≡ true → rank o (keep f (upto n)) ≡ length (keep f (upto o))
unfolding upto keep
rank_chosen f zero o h e = absurd (not-suc-le-zero h)
rank_chosen f (suc n) o h e =
    ap (rank o) (keep_append f (upto n) (n ∷ []))
    ∙ elim (dec_lt o n) [
      | yes lt ↦ rank_in (keep f (n ∷ [])) (mem_keep f (mem_upto n o lt) e) ∙ rank_chosen f n o lt e
      | no ge ↦
          (let p : o ≡ n = omega arith in
          let t : f n ≡ true = ap f (sym p) ∙ e in
          rw (p, t) (rank_out n (keep f (upto n)) [] (λ k. let low = upto_mem n (keep_mem f (upto n) k).0 in omega arith)))
    ]

module _ (g : Graph) (m : RouteImage) (parts : List ℕ) (c : Counts) (k : PartsIn g m parts c) (i : ℕ) (inside : i < c.nodes) where
  abbrev own : List ℕ
  own = blocks_of g (funclets (routes_of m)) (tries (routes_of m)).nodes i

  abbrev size : ℕ
  size = length g.blocks

  pub part_is : own ≡ keep (in_set parts i) (upto size)
  part_is =
      sym (sorted_rising compare total_number own (blocks_rising g (funclets (routes_of m)) (tries (routes_of m)).nodes i))
      ∙ rising_is compare total_number (keep (in_set parts i) (upto size)) own (rising_keep compare (in_set parts i) (upto size) (upto_rising size))
      (λ o h. among_mem own o (sym (k.parts_are i o inside) ∙ (keep_mem (in_set parts i) (upto size) h).1))
      (λ o h. mem_keep (in_set parts i) (mem_upto size o (blocks_lt g (routes_of m) (tries (routes_of m)).nodes i o h)) (k.parts_are i o inside ∙ mem_among h))

  pub place_is : (o first : ℕ) → later g (funclets (routes_of m)) (tries (routes_of m)).nodes i ≡ true → first ≡ base g (funclets (routes_of m)) (tries (routes_of m)).nodes i → o ∈ own → place g (funclets (routes_of m)) (tries (routes_of m)).nodes i o ≡ copy_number parts i first o
  place_is o first l e h =
      let low = blocks_lt g (routes_of m) (tries (routes_of m)).nodes i o h in
      place_later g (routes_of m) (tries (routes_of m)).nodes i o l
      ∙ ap (λ (n : ℕ). n + rank o own) (sym e)
      ∙ ap (λ (t : List ℕ). first + rank o t) part_is
      ∙ ap (λ (n : ℕ). first + n) (rank_chosen (in_set parts i) size o low (k.parts_are i o inside ∙ mem_among h))
      ∙ sym (copy_number_law parts i first o)
