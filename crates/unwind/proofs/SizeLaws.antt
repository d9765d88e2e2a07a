-- Sizes of hops.
--     keep_all                     all are chosen
--     last_end, last_next, size_none, size_next    entries counted one after the other
--     sizes_start, sizes_both_law      of none, and of two lists of hops
--     then_same, then_leave, then_block, then_most    one entry more
use mathlib.Core.Path.{◌≡◌, refl, sym, ◌∙◌, ap}
use mathlib.Core.Bool.{Bool, true, false, cond}
use mathlib.Core.List.{List, [], ◌∷◌, ◌++◌}
use Prim.Native.Nat.{ℕ, zero, suc, ◌+◌, ◌≤◌, ◌<◌}
use native.Mathlib.Numerals.{add-one}
use native.Mathlib.Omega.{arith}
use borrow.Author.Tests.{eq-eqb, ne_eqb}
use lib.Dec.{eqb, compare_is_eq}
use lib.ListN.{length, length-append}
use Rattle.image.specs.Image.{RouteImage, table}
use Rattle.unwind.specs.declared.emit.count.Sizes.{Sizes}
use Rattle.addition.specs.Lists.{keep, joined}
use Rattle.addition.specs.Order.{◌and_then◌}
use Rattle.unwind.specs.Nodes.{branch_in}
use Rattle.addition.specs.Ways.{block, leave, Hop, Leap, compare_leaps}
use Rattle.unwind.specs.Sources.{Exit, hops_then, hops_on, to_block}
use Rattle.unwind.specs.Entries.{end_in, exit_in, exits_in}
use Rattle.unwind.specs.Sizes.{HopsSize, sizes_then, sizes_both}
use Rattle.unwind.specs.Sinks.{SizesHeld}
use Rattle.unwind.proofs.TrieKeys.{joined_append}
use Rattle.unwind.proofs.TrieOrder.{number_eq}
use Rattle.unwind.proofs.Sources.{hops_then_law, lists_then, number_one, number_then}
use Rattle.unwind.proofs.EdgeNumber.{keep_append}
use Rattle.unwind.proofs.EntryLaws.{ends_compare}

pub keep_all : {A : Type 0} (l : List A) → keep (λ (x : A). true) l ≡ l
unfolding keep
keep_all [] = refl
keep_all {A} (x ∷ l) = ap (λ (t : List A). x ∷ t) (keep_all l)

leap-same : (m : RouteImage) (b p q : ℕ) → p < 65536 → q < 65536 → compare_is_eq (compare_leaps (record { source = b; end = end_in p }) (record { source = b; end = end_in q })) ≡ eqb p q
unfolding compare_leaps ◌and_then◌
leap-same m b p q h k = rw (number_eq b b refl, ends_compare p q h k)

to_block_law : (q : ℕ) → ◌≡◌ {A = ℕ} (cond (to_block (end_in q)) 1 0) (cond (eqb q 65535) 0 1)
unfolding to_block end_in
to_block_law q = go (eqb q 65535)
  where
    go : (t : Bool) → ◌≡◌ {A = ℕ} (cond (to_block (cond t leave (block q))) 1 0) (cond t 0 1)
    go true = refl
    go false = refl

-- the end of the entry before place k
abbrev pub last_end : List ℕ → ℕ → ℕ
last_end l zero = 65536
last_end l (suc k) = (branch_in l k).what

module _ (m : RouteImage) (b : ℕ) (l : List ℕ) (small : (k : ℕ) → (branch_in l k).what < 65536) where
  abbrev hops : ℕ → List Hop
  hops k = hops_on [] (exits_in m b l k)

  abbrev entry : ℕ → Exit
  entry k = exit_in m b (branch_in l k)

  abbrev end : ℕ → ℕ
  end k = (branch_in l k).what

  more : (k : ℕ) → hops (suc k) ≡ hops_then (hops k) (entry k)
  unfolding exits_in table
  more k = hops_then_law [] (exits_in m b l k) (entry k)

  -- of those of whose leap f holds
  module _ (f : Leap → Bool) where
    chosen : (k : ℕ) → length (keep (λ (h : Hop). f (record { source = h.source; end = h.end })) (hops (suc k))) ≡ length (keep (λ (h : Hop). f (record { source = h.source; end = h.end })) (hops k)) + cond (eqb (last_end l k) (end k)) 0 (cond (f (entry k).leap) 1 0)
    unfolding exits_in table hops_on keep exit_in
    chosen zero =
        let ne = ne_eqb 65536 (end 0) (λ e. omega (arith, small 0)) in
        ap (λ (hs : List Hop). length (keep (λ (h : Hop). f (record { source = h.source; end = h.end })) hs)) (more 0)
        ∙ number_one f (entry 0)
        ∙ rw ne (omega arith)
    chosen (suc k) =
        ap (λ (hs : List Hop). length (keep (λ (h : Hop). f (record { source = h.source; end = h.end })) hs)) (more (suc k) ∙ ap (λ (hs : List Hop). hops_then hs (entry (suc k))) (more k))
        ∙ number_then f (hops k) (entry k) (entry (suc k))
        ∙ ap (λ (hs : List Hop). length (keep (λ (h : Hop). f (record { source = h.source; end = h.end })) hs) + cond (compare_is_eq (compare_leaps (entry k).leap (entry (suc k)).leap)) 0 (cond (f (entry (suc k)).leap) 1 0)) (sym (more k))
        ∙ ap (λ (t : Bool). length (keep (λ (h : Hop). f (record { source = h.source; end = h.end })) (hops (suc k))) + cond t 0 (cond (f (entry (suc k)).leap) 1 0)) (leap-same m b (end k) (end (suc k)) (small k) (small (suc k)))

  pub size_none : HopsSize (hops 0) (record { hops = 0; lists = 0; blocks = 0 })
  unfolding exits_in table hops_on joined keep
  size_none = record { hops = refl; lists = refl; blocks = refl }

  pub size_next : (k : ℕ) (z : Sizes) → HopsSize (hops k) z → HopsSize (hops (k + 1)) (sizes_then z (last_end l k) (end k))
  unfolding sizes_then exit_in
  size_next k z s =
      rw (add-one k)
      record {
        hops =
            ap (λ (n : ℕ). n + cond (eqb (last_end l k) (end k)) 0 1) (s.hops ∙ ap length (sym (keep_all (hops k))))
            ∙ sym (chosen (λ (x : Leap). true) k)
            ∙ ap length (keep_all (hops (suc k)));
        lists =
            ap (λ (n : ℕ). n + 1) s.lists
            ∙ add-one (length (joined (λ h. h.calls) (hops k)))
            ∙ sym (ap (λ (hs : List Hop). length (joined (λ h. h.calls) hs)) (more k) ∙ lists_then (hops k) (entry k));
        blocks =
            ap (λ (n : ℕ). n + cond (eqb (last_end l k) (end k)) 0 (cond (eqb (end k) 65535) 0 1)) s.blocks
            ∙ ap (λ (n : ℕ). length (keep (λ h. to_block h.end) (hops k)) + cond (eqb (last_end l k) (end k)) 0 n) (sym (to_block_law (end k)))
            ∙ sym (chosen (λ (x : Leap). to_block x.end) k);
      }

module _ (z : Sizes) (last end : ℕ) where
  pub then_same : last ≡ end → record { hops = z.hops; lists = z.lists + 1; blocks = z.blocks } ≡ sizes_then z last end
  unfolding sizes_then
  then_same e =
      let a : z.hops ≡ z.hops + 0 = omega arith in
      let d : z.blocks ≡ z.blocks + 0 = omega arith in
      rw (eq-eqb last end e) (λ i. record { hops = a i; lists = z.lists + 1; blocks = d i })

  pub then_leave : (last ≡ end → ⊥) → end ≡ 65535 → record { hops = z.hops + 1; lists = z.lists + 1; blocks = z.blocks } ≡ sizes_then z last end
  unfolding sizes_then
  then_leave n e =
      let d : z.blocks ≡ z.blocks + 0 = omega arith in
      rw (ne_eqb last end n, eq-eqb end 65535 e) (λ i. record { hops = z.hops + 1; lists = z.lists + 1; blocks = d i })

  pub then_block : (last ≡ end → ⊥) → (end ≡ 65535 → ⊥) → record { hops = z.hops + 1; lists = z.lists + 1; blocks = z.blocks + 1 } ≡ sizes_then z last end
  unfolding sizes_then
  then_block n e = rw (ne_eqb last end n, ne_eqb end 65535 e)

  pub then_most : ((sizes_then z last end).hops ≤ z.hops + 1) × ((sizes_then z last end).lists ≤ z.lists + 1) × ((sizes_then z last end).blocks ≤ z.blocks + 1)
  unfolding sizes_then
  then_most = go (eqb last end) (eqb end 65535)
    where
      go : (t u : Bool) → (z.hops + cond t 0 1 ≤ z.hops + 1) × (z.lists + 1 ≤ z.lists + 1) × (z.blocks + cond t 0 (cond u 0 1) ≤ z.blocks + 1)
      go true u = omega arith
      go false true = omega arith
      go false false = omega arith

pub last_next : (l : List ℕ) (k : ℕ) → (branch_in l k).what ≡ last_end l (k + 1)
last_next l k = rw (add-one k)

-- ---- of many lists

pub sizes_both_law : (hs ks : List Hop) (p q : Sizes) → HopsSize hs p → HopsSize ks q → HopsSize (hs ++ ks) (sizes_both p q)
sizes_both_law hs ks p q x y =
    record {
      hops = (λ i. x.hops i + y.hops i) ∙ sym (length-append hs ks);
      lists = (λ i. x.lists i + y.lists i) ∙ sym (ap length (joined_append (λ (h : Hop). h.calls) hs ks) ∙ length-append (joined (λ (h : Hop). h.calls) hs) (joined (λ (h : Hop). h.calls) ks));
      blocks = (λ i. x.blocks i + y.blocks i) ∙ sym (ap length (keep_append (λ (h : Hop). to_block h.end) hs ks) ∙ length-append (keep (λ (h : Hop). to_block h.end) hs) (keep (λ (h : Hop). to_block h.end) ks));
    }

pub sizes_start : SizesHeld 0 [] (record { hops = 0; lists = 0; blocks = 0 })
unfolding keep joined
sizes_start = record { hops = omega arith; lists = omega arith; blocks = omega arith; of = record { hops = refl; lists = refl; blocks = refl } }
