-- The lines of hops.
--     first_tags             the first tags of a list
--     some_tags              the fields of tags, where there are any
--     tags_told, none_listed  the fields of the first tags of a list
--     no_step                past the last step the tag is 0
--     tags_put               those of one tag more
--     lists_few              how many lists there are at most
--     none_past, calls_length     how many lists a hop has; past the last hop there are none
--     hop_there, list_there  where list k of hop i stands
--     told_at_law                its line
--     none_told              past the last list there is none
--     Short, all_told        line for line, the lines of hops whose lists have no more than 512 tags
-- Assumes nothing.
use mathlib.Core.Path.{◌≡◌, refl, ap, sym, ◌∙◌}
use mathlib.Core.Logic.{⊎_elim}
use mathlib.Core.List.Memᴰ
use mathlib.Core.List.{List, [], ◌∷◌, ◌++◌, map, append-nil, map-append}
use Prim.Native.Nat.{ℕ, ◌+◌, ◌-◌, ◌≤◌, ◌<◌, min}
use native.Mathlib.Omega.{arith}
use borrow.Author.Tests.{ltb-true, ltb-false}
use lib.Dec.{ltb}
use lib.ListN.{length, get_or, take, drop, length-map, length-take, length-drop, get_or-eq_default}
use lib.Seq.{take_all, take-append_seam, get_or-take, get_or-drop}
use Rattle.std.proofs.lemmas.List.{get_or-map}
use Rattle.image.specs.Image.{RouteImage, routes_in, table}
use Rattle.image.specs.Record.{step_from}
use Rattle.image.specs.declared.record.Step.{Step}
use Rattle.image.specs.declared.section.RouteLayout.{RouteLayout}
use Rattle.image.proofs.Tables.{records_past}
use Rattle.graph.specs.Fold.{flat}
use Rattle.graph.proofs.FoldLaws.{decided, flat_front}
use Rattle.graph.proofs.SectionLaws.{size_most}
use Rattle.unwind.specs.declared.hops.HopRow.{HopRow}
use Rattle.unwind.specs.declared.hops.ListRow.{ListRow}
use Rattle.addition.specs.Lists.{joined}
use Rattle.addition.specs.Walk.{◌∈◌}
use Rattle.addition.specs.Ways.{Hop}
use Rattle.unwind.specs.Nodes.{step_in, tags_in}
use Rattle.unwind.specs.HopWords.{list_rows, list_row, rows_in, hop_at, end_from, tags_from, row_hop, row_hops, hops_in}
use Rattle.unwind.proofs.EntryLaws.{table_front}
use Rattle.unwind.proofs.TriePaths.{tags_append, length_tags, tags_more}
use Rattle.unwind.proofs.HopLaws.{lists_long}
use Rattle.unwind.proofs.RowLaws.{rows_long}
use Rattle.text.specs.declared.field.Field.TheVariants.{Number, Absent}
use Rattle.text.specs.Line.{bytes, field, fields, line}
use Rattle.text.specs.Chart.{end_field, tag_fields, hop_line, hop_lines}
use Rattle.text.specs.HopText.{hop_in, told_line, told_at}
use Rattle.text.proofs.PutLaws.{line-fields, fields-more}

-- ---- tags

pub first_tags : (m : RouteImage) (a n k : ℕ) → take k (tags_in m a n) ≡ tags_in m a (min n k)
first_tags m a n k =
    ⊎_elim
    (λ e.
    let few = ltb-true n k e in
    let all : min n k ≡ n = omega arith in
    rw all (take_all k (tags_in m a n) (omega (arith, length_tags m a n))))
    (λ e.
    let many = ltb-false n k e in
    let cut : min n k ≡ k = omega arith in
    let more : n ≡ k + (n - k) = omega arith in
    rw cut
    (ap (λ (j : ℕ). take k (tags_in m a j)) more
    ∙ ap (take k) (tags_append m a k (n - k))
    ∙ ap (λ (j : ℕ). take j (tags_in m a k ++ tags_in m (a + k) (n - k))) (sym (length_tags m a k))
    ∙ take-append_seam (tags_in m a k) (tags_in m (a + k) (n - k))))
    (decided (ltb n k))

pub some_tags : (ts : List ℕ) → 0 < length ts → tag_fields ts ≡ map Number ts
unfolding tag_fields
some_tags [] h = absurd (omega arith)
some_tags (t ∷ ts) h = refl

pub tags_put : (m : RouteImage) (a j : ℕ) → fields (map Number (tags_in m a (j + 1))) ≡ fields (map Number (tags_in m a j)) ++ field (Number (step_in m (a + j)).value)
tags_put m a j =
    ap (λ (l : List ℕ). fields (map Number l)) (tags_more m a j)
    ∙ ap fields (map-append Number (tags_in m a j) ((step_in m (a + j)).value ∷ []))
    ∙ fields-more (map Number (tags_in m a j)) (Number (step_in m (a + j)).value)

-- the first k of a list's tags are those of j steps
pub tags_told : (m : RouteImage) (a n k j : ℕ) → j ≡ min n k → (j ≡ 0 → ⊥) → fields (tag_fields (take k (tags_in m a n))) ≡ fields (map Number (tags_in m a j))
tags_told m a n k j e some = rw (first_tags m a n k, ← e) (ap fields (some_tags (tags_in m a j) (omega (arith, length_tags m a j))))

pub none_listed : (m : RouteImage) (a n k j : ℕ) → j ≡ min n k → j ≡ 0 → fields (tag_fields (take k (tags_in m a n))) ≡ field Absent
unfolding tags_in tag_fields fields
none_listed m a n k j e none = let no : min n k ≡ 0 = omega arith in rw (first_tags m a n k, no) (append-nil (field Absent))

pub no_step : (l : List ℕ) (y : RouteLayout) (k : ℕ) → y.steps.count ≤ k → (step_in (routes_in l y) k).value ≡ 0
no_step l y k past = ap (λ (x : Step). x.value) (records_past step_from l y.steps k past)

pub ruleset listed = (tags_told, none_listed)

-- ---- hops by their rows

pub lists_few : (l : List ℕ) → length (rows_in l).lists ≤ 4096
lists_few l = omega (arith, lists_long l, size_most list_rows l)

module _ (m : RouteImage) (l : List ℕ) (i : ℕ) where
  abbrev x : HopRow
  x = hop_at (rows_in l) i

  abbrev ts : List ListRow
  ts = (rows_in l).lists

  hop_row_law : i < length (rows_in l).hops → hop_in (hops_in m l) i ≡ row_hop m ts x
  unfolding row_hops
  hop_row_law h = get_or-map (row_hop m ts) (rows_in l).hops i _ _ h

  pub none_past : length (rows_in l).hops ≤ i → length (hop_in (hops_in m l) i).calls ≡ 0
  none_past h = rw (get_or-eq_default (row_hops m (rows_in l)) _ {n = i} (omega (arith, rows_long m (rows_in l))))

  row_calls : length (row_hop m ts x).calls ≡ min x.lists (length ts - x.first)
  unfolding row_hop
  row_calls =
      length-map (take x.lists (drop x.first ts)) (tags_from m)
      ∙ length-take x.lists (drop x.first ts)
      ∙ ap (min x.lists) (length-drop x.first ts)

  pub calls_length : i < length (rows_in l).hops → length (hop_in (hops_in m l) i).calls ≡ min x.lists (length ts - x.first)
  calls_length h = rw (hop_row_law h) row_calls

  module _ (k : ℕ) (there : k < length (hop_in (hops_in m l) i).calls) where
    pub hop_there : i < length (rows_in l).hops
    hop_there =
        ⊎_elim
        (λ e. ltb-true i (length (rows_in l).hops) e)
        (λ e. absurd (omega (arith, there, none_past (ltb-false i (length (rows_in l).hops) e))))
        (decided (ltb i (length (rows_in l).hops)))

    pub list_there : (k < x.lists) × (x.first + k < length ts)
    list_there = let e = calls_length hop_there in (omega (arith, there, e), omega (arith, there, e))

    abbrev t : ListRow
    t = get_or ts (x.first + k) (list_row [])

    list_row_law : (f : List ℕ → List ℕ) → get_or (map f (row_hop m ts x).calls) k [] ≡ f (tags_from m t)
    unfolding row_hop
    list_row_law f =
        let those = take x.lists (drop x.first ts) in
        let long : k < length those = omega (arith, length-take x.lists (drop x.first ts), length-drop x.first ts, list_there.0, list_there.1) in
        get_or-map f (map (tags_from m) those) k [] [] (omega (arith, length-map those (tags_from m), long))
        ∙ ap f (get_or-map (tags_from m) those k (list_row []) [] long)
        ∙ ap (λ (r : ListRow). f (tags_from m r)) (get_or-take x.lists (drop x.first ts) k (list_row []) list_there.0 ∙ get_or-drop x.first ts k (list_row []))

    pub told_at_law : told_at (hops_in m l) i k ≡ bytes "hop" ++ field (Number x.source) ++ field (end_field (end_from x)) ++ fields (tag_fields (take 512 (tags_from m t))) ++ (10 ∷ [])
    unfolding told_at told_line hop_line row_hop line
    told_at_law =
        rw (hop_row_law hop_there) (list_row_law (told_line (row_hop m ts x)))
        ∙ line-fields (bytes "hop" ++ field (Number x.source) ++ field (end_field (end_from x))) (tag_fields (take 512 (tags_from m t)))

  pub none_told : (k : ℕ) → length (hop_in (hops_in m l) i).calls ≤ k → told_at (hops_in m l) i k ≡ []
  unfolding told_at
  none_told k h =
      let hop = hop_in (hops_in m l) i in
      get_or-eq_default (map (told_line hop) hop.calls) [] {n = k} (omega (arith, length-map hop.calls (told_line hop)))

pub ruleset counted = (none_past, calls_length)

-- ---- all lines

-- lists that an image's steps may make
pub record Short (hs : List Hop) : Type 0 where
  pub short : (h : Hop) → h ∈ hs → (tags : List ℕ) → tags ∈ h.calls → length tags ≤ 512

all_of : (h : Hop) (ls : List (List ℕ)) → ((tags : List ℕ) → tags ∈ ls → length tags ≤ 512) → table (λ k. get_or (map (told_line h) ls) k []) (length ls) ≡ map (hop_line h) ls
unfolding told_line table
all_of h [] short = refl
all_of h (tags ∷ ls) short =
    table_front (λ k. get_or (map (told_line h) (tags ∷ ls)) k []) (length ls)
    ∙ (λ i. hop_line h (take_all 512 tags (short tags (Memᴰ.head refl)) i) ∷ all_of h ls (λ t e. short t (Memᴰ.tail e)) i)

pub all_told : (hs : List Hop) → Short hs → flat (λ i. table (told_at hs i) (length (hop_in hs i).calls)) (length hs) ≡ hop_lines hs
unfolding hop_lines joined flat told_at
all_told [] s = refl
all_told (h ∷ hs) s =
    flat_front (λ i. table (told_at (h ∷ hs) i) (length (hop_in (h ∷ hs) i).calls)) (length hs)
    ∙ (λ i. all_of h h.calls (s.short h (Memᴰ.head refl)) i ++ all_told hs (record { short = λ x e. s.short x (Memᴰ.tail e) }) i)
