-- Hops stored source by source.
--     held_none                    none yet
--     held_room, held_more         the entries of one source: room for them, and what holds then
--     fit_front                    room for all is room for the first
--     block_own, copy_own          the entries gathered of a block that stood, and of a copy
--     step_is                      one source more behind hops that there were
-- Assumes nothing.
use mathlib.Core.Path.{◌≡◌, refl, sym, ap, ◌∙◌}
use mathlib.Core.Logic.{◌⊎◌, inl, inr}
use mathlib.Core.List.Memᴰ
use mathlib.Core.List.{List, [], ◌∷◌, ◌++◌, append_assoc}
use Prim.Native.Nat.{ℕ, zero, suc, ◌+◌, ◌≤◌, ◌<◌}
use native.Mathlib.Omega.{arith}
use lib.ListN.{length, length-append}
use Rattle.image.specs.Image.{RouteImage, table}
use Rattle.graph.specs.Fold.{flat}
use Rattle.graph.proofs.FoldLaws.{flat-more}
use Rattle.unwind.specs.declared.tries.store.Counts.{Counts}
use Rattle.addition.specs.Lists.{joined}
use Rattle.unwind.specs.Nodes.{branch_in, record_in}
use Rattle.addition.specs.Ways.{Hop}
use Rattle.unwind.specs.Sources.{Exit, hops_on}
use Rattle.unwind.specs.Entries.{exit_in, exits_in}
use Rattle.unwind.specs.Lent.{block_records, Holds, block_hops}
use Rattle.unwind.specs.Gather.{record_exits, Gathers}
use Rattle.unwind.specs.Copies.{hops_from}
use Rattle.addition.specs.Walk.{◌∈◌}
use Rattle.unwind.specs.HopWords.{Rows, rows_in, row_hops, no_rows, rows_on, Consecutive, InOrder, HopsStored, HopsHeld, HopsFit}
use Rattle.addition.proofs.Lists.{none_in}
use Rattle.unwind.proofs.TrieKeys.{joined_append}
use Rattle.unwind.proofs.Sources.{on_apart, on_source}
use Rattle.unwind.proofs.LentLaws.{held_from}
use Rattle.unwind.proofs.RowLaws.{on_order, on_lists, on_hops, rows_long, lists_all}

entries_from : (m : RouteImage) (b : ℕ) (l : List ℕ) (n : ℕ) (x : Exit) → x ∈ exits_in m b l n → x.leap.source ≡ b
unfolding exits_in table exit_in
entries_from m b l zero x i = absurd (none_in i)
entries_from m b l (suc n) x i = go (entries_from m b l n x) (Memᴰ.append_cases (exits_in m b l n) i)
  where
    go : (x ∈ exits_in m b l n → x.leap.source ≡ b) → (x ∈ exits_in m b l n) ⊎ (x ∈ exit_in m b (branch_in l n) ∷ []) → x.leap.source ≡ b
    go f (inl j) = f j
    go f (inr j) = ap (λ (y : Exit). y.leap.source) (Memᴰ.eq_of_singleton j)

pub held_none : (m : RouteImage) (l : List ℕ) → rows_in l ≡ no_rows → HopsHeld m 0 l l []
unfolding row_hops Consecutive
held_none m l e =
    record {
      holds = ap (row_hops m) e;
      order = rw e (record { lists_follow = refl });
      below = λ h i. absurd (none_in i);
      uses = λ k u. u;
      kept = λ k u. refl;
    }

module _ (m : RouteImage) (b : ℕ) {l l₁ : List ℕ} {hs : List Hop} (p : HopsHeld m b l l₁ hs) (exits : List ℕ) (n : ℕ) where
  abbrev own : List Hop
  own = hops_on [] (exits_in m b exits n)

  abbrev rows : Rows
  rows = rows_on (rows_in l₁) b exits n

  hops_are : row_hops m rows ≡ hs ++ own
  hops_are =
      on_hops (rows_in l₁) b exits m n p.order
      ∙ ap (λ (t : List Hop). hops_on t (exits_in m b exits n)) p.holds
      ∙ on_apart hs (exits_in m b exits n) (λ h x i j e. let low = p.below h i in let q = entries_from m b exits n x j in omega arith)

  pub held_room : HopsFit (hs ++ own) → InOrder (rows_in l₁) × (length (rows_in l₁).lists + n ≤ 4096) × (length rows.hops ≤ 2048)
  held_room f =
      let order = on_order (rows_in l₁) b exits n p.order in
      let hops = sym (rows_long m rows) ∙ ap length hops_are in
      let lists = sym (lists_all m rows order) ∙ ap (λ (t : List Hop). length (joined (λ (h : Hop). h.calls) t)) hops_are in
      (p.order, omega (arith, on_lists (rows_in l₁) b exits n, lists, f.lists), omega (arith, hops, f.hops))

  pub held_more : {l₂ : List ℕ} → HopsStored l₁ l₂ rows → HopsHeld m (b + 1) l l₂ (hs ++ own)
  held_more s =
      record {
        holds = ap (row_hops m) s.holds ∙ hops_are;
        order = rw s.holds (on_order (rows_in l₁) b exits n p.order);
        below = λ h i. go h (Memᴰ.append_cases hs i);
        uses = λ k u. p.uses k (s.uses k u);
        kept = λ k u. s.kept k u ∙ p.kept k (s.uses k u);
      }
    where
      go : (h : Hop) → (h ∈ hs) ⊎ (h ∈ own) → h.source < b + 1
      go h (inl i) = omega (arith, p.below h i)
      go h (inr i) = omega (arith, on_source b [] (exits_in m b exits n) (λ k j. absurd (none_in j)) (entries_from m b exits n) h i)

pub fit_front : (hs ks : List Hop) → HopsFit (hs ++ ks) → HopsFit hs
fit_front hs ks f =
    let lists = ap length (joined_append (λ (h : Hop). h.calls) hs ks) ∙ length-append (joined (λ (h : Hop). h.calls) hs) (joined (λ (h : Hop). h.calls) ks) in
    record { hops = omega (arith, length-append hs ks, f.hops); lists = omega (arith, lists, f.lists) }

pub block_own : (m : RouteImage) (b : ℕ) (nodes edges ends heads landings roots guards bases returns : List ℕ) (c : Counts) (l : List ℕ) (n : ℕ) → Holds m b (block_records m b nodes edges ends heads landings roots guards bases returns c) l n → hops_on [] (exits_in m b l n) ≡ block_hops m nodes edges ends heads landings roots guards bases returns c b
unfolding block_hops
block_own m b nodes edges ends heads landings roots guards bases returns c l n h = ap (hops_on []) h.is

pub copy_own : (m : RouteImage) (b : ℕ) (nodes edges ends heads landings : List ℕ) (i : ℕ) {l l' : List ℕ} {n : ℕ} → Gathers m b l 0 (record_exits m b edges ends heads landings (record_in nodes i)) l' n → hops_on [] (exits_in m b l' n) ≡ hops_from m nodes edges ends heads landings i b
unfolding hops_from
copy_own m b nodes edges ends heads landings i {l} {l'} {n} p = ap (hops_on []) (held_from m b l l' n (record_exits m b edges ends heads landings (record_in nodes i)) p).is

pub step_is : (hs : List Hop) (f : ℕ → List Hop) (o : ℕ) → hs ++ flat f o ++ f o ≡ hs ++ flat f (o + 1)
step_is hs f o = append_assoc hs (flat f o) (f o) ∙ ap (λ (t : List Hop). hs ++ t) (sym (flat-more f o))
