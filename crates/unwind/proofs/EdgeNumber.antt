-- The number of route edges is the number of hops that end at a block.
--     put_new                      putting one that does not stand makes the list longer
--     sorted-keep                  sorting and choosing, in either order
--     keep_append, keep-map        choosing from two lists, and from a mapped one
--     edges_number                 the route edges, counted by the hops
use mathlib.Core.Path.{◌≡◌, refl, sym, ◌∙◌, ap}
use mathlib.Core.Logic.{◌⊎◌, inl, inr}
use mathlib.Core.Bool.{Bool, true, false, cond, false≢true}
use mathlib.Core.List.Memᴰ
use mathlib.Core.List.{List, [], ◌∷◌, ◌++◌, map, append-nil}
use Prim.Native.Nat.{ℕ, suc, ◌+◌, Ordering}
use native.Mathlib.Omega.{arith}
use lib.Dec.{compare_is_eq}
use lib.ListN.{length, length-append, length-map}
use Rattle.graph.specs.Graph.{Graph}
use Rattle.addition.specs.Lists.{keep}
use Rattle.addition.specs.Order.{put, placed, sorted}
use Rattle.addition.specs.Ways.{HopEnd, block, leave, Hop, Way, Leap, leap, compare_leaps, lists_of, hops_of, wanted, route_edge, edge_to, route_edges}
use Rattle.unwind.specs.Sources.{to_block}
use Rattle.addition.specs.Walk.{◌∈◌}
use Rattle.addition.proofs.Lists.{or_either, or_left, or_right, mem_keep, keep_mem}
use Rattle.addition.proofs.Order.{exact_leaps, mem_sorted, sorted_mem}
use Rattle.unwind.proofs.TrieOrder.{Total, put-member}
use Rattle.unwind.proofs.Rising.{rising_keep, rising_sorted, rising_is, sorted_middle, total_leaps}

module _ {A : Type 0} (c : A → A → Ordering) (total : Total c) where
  pub put_new : (x : A) (l : List A) → (x ∈ l → ⊥) → length (put c x l) ≡ suc (length l)
  unfolding put placed
  put_new x [] n = refl
  put_new x (y ∷ l) n = go (c x y) refl (put_new x l (λ m. n (Memᴰ.tail m)))
    where
      go : (o : Ordering) → c x y ≡ o → length (put c x l) ≡ suc (length l) → length (placed o x y l (put c x l)) ≡ suc (suc (length l))
      go Ordering.lt e below = refl
      go Ordering.eq e below = absurd (n (Memᴰ.head (total.exact.tells x y (ap compare_is_eq e))))
      go Ordering.gt e below = omega arith

  pub sorted-keep : (f : A → Bool) (l : List A) → sorted c (keep f l) ≡ keep f (sorted c l)
  sorted-keep f l =
      rising_is c total (keep f (sorted c l)) (keep f l) (rising_keep c f (sorted c l) (rising_sorted c total l))
      (λ x m. let k = keep_mem f (sorted c l) m in mem_keep f (sorted_mem c l k.0) k.1)
      (λ x m. let k = keep_mem f l m in mem_keep f (mem_sorted c total.exact k.0) k.1)

pub keep_append : {A : Type 0} (f : A → Bool) (l m : List A) → keep f (l ++ m) ≡ keep f l ++ keep f m
unfolding keep
keep_append f [] m = refl
keep_append {A} f (x ∷ l) m = go (f x) (keep_append f l m)
  where
    go : (b : Bool) → keep f (l ++ m) ≡ keep f l ++ keep f m → cond b (x ∷ keep f (l ++ m)) (keep f (l ++ m)) ≡ cond b (x ∷ keep f l) (keep f l) ++ keep f m
    go true e = ap (λ (t : List A). x ∷ t) e
    go false e = e

pub keep-map : {A B : Type 0} (f : B → Bool) (g : A → B) (l : List A) → keep f (map g l) ≡ map g (keep (λ (x : A). f (g x)) l)
unfolding keep
keep-map f g [] = refl
keep-map {A} {B} f g (x ∷ l) = go (f (g x)) (keep-map f g l)
  where
    go : (b : Bool) → keep f (map g l) ≡ map g (keep (λ (y : A). f (g y)) l) → cond b (g x ∷ keep f (map g l)) (keep f (map g l)) ≡ map g (cond b (x ∷ keep (λ (y : A). f (g y)) l) (keep (λ (y : A). f (g y)) l))
    go true e = ap (λ (t : List B). g x ∷ t) e
    go false e = e

-- ---- leaps to blocks

abbrev landing : Leap → Bool
landing k = to_block k.end

abbrev landings : List Leap → List Leap
landings l = sorted compare_leaps (keep landing l)

wanted_mem : (s t : ℕ) (l : List Leap) → wanted s t l ≡ true → record { source = s; end = block t } ∈ l
unfolding wanted
wanted_mem s t [] e = absurd (false≢true e)
wanted_mem s t (k ∷ l) e = go (or_either (compare_is_eq (compare_leaps (record { source = s; end = block t }) k)) (wanted s t l) e) (wanted_mem s t l)
  where
    go : (compare_is_eq (compare_leaps (record { source = s; end = block t }) k) ≡ true) ⊎ (wanted s t l ≡ true) → (wanted s t l ≡ true → record { source = s; end = block t } ∈ l) → record { source = s; end = block t } ∈ k ∷ l
    go (inl p) below = Memᴰ.head (exact_leaps.tells (record { source = s; end = block t }) k p)
    go (inr p) below = Memᴰ.tail (below p)

mem_wanted : (s t : ℕ) {l : List Leap} → record { source = s; end = block t } ∈ l → wanted s t l ≡ true
unfolding wanted
mem_wanted s t (Memᴰ.head {x = k} {xs = l} e) = or_left {a = compare_is_eq (compare_leaps (record { source = s; end = block t }) k)} (wanted s t l) (rw (sym e) (exact_leaps.self (record { source = s; end = block t })))
mem_wanted s t (Memᴰ.tail {x = k} {xs = l} m) = or_right (compare_is_eq (compare_leaps (record { source = s; end = block t }) k)) (mem_wanted s t m)

module _ (g : Graph) where
  -- one way more
  edge_number : (seen : List Leap) (w : Way) → length (edge_to g seen w w.end) + length (landings seen) ≡ length (landings (leap w ∷ seen))
  unfolding edge_to keep to_block sorted
  edge_number seen w = go w.end refl
    where
      out : (t : ℕ) → w.end ≡ block t → (b : Bool) → wanted w.source t seen ≡ b → length (cond b [] (route_edge g w.route w.source t ∷ [])) + length (landings seen) ≡ length (put compare_leaps (leap w) (landings seen))
      out t e true q =
          let k : leap w ≡ record { source = w.source; end = block t } = λ i. record { source = w.source; end = e i } in
          let p = ap length (put-member compare_leaps total_leaps (mem_keep landing (Memᴰ.cast k (wanted_mem w.source t seen q)) (ap to_block e))) in
          omega arith
      out t e false q =
          let k : record { source = w.source; end = block t } ≡ leap w = λ i. record { source = w.source; end = sym e i } in
          let p = put_new compare_leaps total_leaps (leap w) (landings seen)
          (λ m. false≢true (sym q ∙ mem_wanted w.source t (Memᴰ.cast k (keep_mem landing seen (sorted_mem compare_leaps (keep landing seen) m)).0))) in
          omega arith

      go : (e : HopEnd) → w.end ≡ e → length (edge_to g seen w e) + length (landings seen) ≡ length (sorted compare_leaps (cond (to_block w.end) (leap w ∷ keep landing seen) (keep landing seen)))
      go (block t) e = rw (ap to_block e) (out t e (wanted w.source t seen) refl)
      go leave e = rw (ap to_block e) (omega arith)

  middle : (l : List Leap) (k : Leap) (m : List Leap) → landings (l ++ k ∷ m) ≡ landings (k ∷ l ++ m)
  unfolding keep sorted
  middle l k m = ap (sorted compare_leaps) (keep_append landing l (k ∷ m)) ∙ go (landing k) ∙ ap (λ (t : List Leap). sorted compare_leaps (cond (landing k) (k ∷ t) t)) (sym (keep_append landing l m))
    where
      go : (b : Bool) → sorted compare_leaps (keep landing l ++ cond b (k ∷ keep landing m) (keep landing m)) ≡ sorted compare_leaps (cond b (k ∷ keep landing l ++ keep landing m) (keep landing l ++ keep landing m))
      go true = sorted_middle compare_leaps total_leaps (keep landing l) k (keep landing m)
      go false = refl

  all_edges : (seen : List Leap) (ws : List Way) → length (route_edges g seen ws) + length (landings seen) ≡ length (landings (map leap ws ++ seen))
  unfolding route_edges
  all_edges seen [] = omega arith
  all_edges seen (w ∷ ws) =
      let one = edge_number seen w in
      let more = all_edges (leap w ∷ seen) ws in
      let turn : length (landings (map leap ws ++ leap w ∷ seen)) ≡ length (landings (leap w ∷ map leap ws ++ seen)) = ap length (middle (map leap ws) (leap w) seen) in
      let both = length-append (edge_to g seen w w.end) (route_edges g (leap w ∷ seen) ws) in
      omega arith

  plus : (ws : List Way) → length (route_edges g [] ws) ≡ length (landings (map leap ws ++ []))
  unfolding keep sorted
  plus ws = let e = all_edges [] ws in omega arith

  pub edges_number : (ws : List Way) → length (route_edges g [] ws) ≡ length (keep (λ h. to_block h.end) (hops_of ws))
  unfolding hops_of
  edges_number ws =
      let l = sorted compare_leaps (map leap ws) in
      plus ws
      ∙ ap (λ (t : List Leap). length (landings t)) (append-nil (map leap ws))
      ∙ ap length (sorted-keep compare_leaps total_leaps landing (map leap ws))
      ∙ sym (length-map (keep landing l) hop)
      ∙ ap length (sym (keep-map (λ h. to_block h.end) hop l))
    where
      hop : Leap → Hop
      hop k = record { source = k.source; end = k.end; calls = lists_of ws k }
