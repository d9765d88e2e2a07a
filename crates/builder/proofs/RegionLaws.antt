-- Regions and handler records, field by field.
--     parent_told, parent_number      a parent, as a region keeps it
--     contains_is                     what is read of the ranges of two handlers
--     parent_in_law, parent_out           one region more: whether it contains region r
--     set-none, set_more, set_same    the blocks from a position on: none, one more, and they hang on f alone
--     block_found                     the block of an address that was looked up
--     region_here, region_on, region_end     the region of a handler: the first draft that has its range
--     draft-below                     a draft is a handler
--     range_known, range_passes       the blocks of a range that was looked up; the range of a handler that passed its check
--     regions_none, handlers_none     a graph with no region, or no handler, before the first store
--     regions_more, handlers_more     a graph with so many of them, and one more
--     regions_whole, regions_keep, both             a graph with its regions, and with its handlers behind them
--     none_stored                     a graph of an image with no handler
-- Assumes nothing.
use mathlib.Core.Path.{◌≡◌, refl, sym, ap, ap₂, ◌∙◌}
use mathlib.Core.Bool.{Bool, true, false, cond, not, ◌&&◌}
use mathlib.Core.List.{List, [], ◌∷◌}
use Prim.Native.Nat.{ℕ, zero, suc, ◌+◌, ◌-◌, ◌<◌, ◌≤◌}
use native.Mathlib.Numerals.{add-one}
use native.Mathlib.Omega.{arith}
use lib.Dec.{leb}
use lib.ListN.{length, get_or, drop, replicate, drop_of_length-le}
use lib.Seq.{drop-cons}
use Rattle.graph.specs.declared.store.Graph.{Graph as Lent}
use Rattle.image.specs.Refusal.{clear, refusal, unless}
use Rattle.image.specs.Image.{Image, table}
use Rattle.image.specs.declared.record.Handler.{Handler}
use Rattle.image.proofs.Checks.{then_left}
use Rattle.graph.specs.Table.{is_start, range_check}
use Rattle.graph.specs.Lookup.{Finds}
use Rattle.graph.specs.Transfer.{table_of}
use Rattle.graph.specs.Blocks.{block_of, block_at}
use Rattle.graph.specs.Edges.{range_first, range_size}
use Rattle.graph.specs.Leaders.{handler_at}
use Rattle.graph.specs.Build.{handler_check}
use Rattle.graph.specs.BlockSet.{including}
use Rattle.graph.specs.Graph.{Graph, Held, held}
use Rattle.graph.specs.Lent.{held_of}
use Rattle.graph.specs.Stored.{with_region, with_handler, Stored}
use Rattle.graph.specs.declared.record.Region.{Region}
use Rattle.graph.specs.declared.record.HandlerRecord.{HandlerRecord}
use Rattle.graph.specs.Regions.{same_range, contains, span, place, is_draft, drafts_below, drafts, draft, smaller, parent_below, set_below, regions_of, region_in, handlers_of}
use Rattle.graph.proofs.FoldLaws.{length-table}
use Rattle.graph.proofs.StoredLaws.{grows_none, untouched_none, stored_then, region-more, handler-more}
use Rattle.graph.proofs.TableLaws.{length-entries}
use Rattle.builder.specs.Emit.{Numbered}
use Rattle.builder.specs.Ranges.{Ranges}
use Rattle.builder.specs.Drafts.{Extents, Whole, with_regions, with_handlers}
use Rattle.builder.specs.declared.ranges.Positions.{Positions}
use Rattle.std.proofs.Common.{Some, Ok}
use Rattle.std.specs.Option.{is_some, unwrap_or, option_to_list}
use Rattle.std.proofs.Common.{Option, None}
use mir.Val.{bool_byte}

pub set_same : (f g : ℕ → ℕ) (n : ℕ) → ((i : ℕ) → i < n → f i ≡ g i) → set_below f n ≡ set_below g n
unfolding set_below
set_same f g zero same = refl
set_same f g (suc n) same = ap₂ including (set_same f g n (λ i h. same i (omega arith))) (same n (omega arith))

module _ (f : ℕ → ℕ) where
  pub set-none : replicate 16 0 ≡ set_below f 0
  unfolding set_below
  set-none = refl

  pub set_more : (k : ℕ) → including (set_below f k) (f k) ≡ set_below f (k + 1)
  unfolding set_below
  set_more k = rw (add-one k)

pub contains_is : {m : Image} {starts ends : List ℕ} → Extents m starts ends → (a b : ℕ) → (not (same_range m a b) && leb (get_or starts a 0) (get_or starts b 0) && leb (get_or ends b 0) (get_or ends a 0)) ≡ contains m a b
unfolding contains
contains_is extents a b = rw (extents.start a, extents.start b, extents.end a, extents.end b)

module _ (m : Image) where
  pub block_found : (blocks : List ℕ) (a p b : ℕ) → Numbered m blocks → Finds (table_of m) a (Some p) → b ≡ get_or blocks p 0 → b ≡ block_at m a
  unfolding block_at
  block_found blocks a p b numbered found e =
      e ∙ numbered.block p (rw (length-entries m.instructions) at found.2) ∙ ap (block_of m) (sym found.1)

  module _ (r k : ℕ) where
    pub parent_in_law : contains m (draft m k) (draft m r) ≡ true → parent_below m r (k + 1) ≡ cond (smaller m (parent_below m r k) k) (k ∷ []) (parent_below m r k)
    unfolding parent_below
    parent_in_law e = rw (add-one k, e)

    pub parent_out : contains m (draft m k) (draft m r) ≡ false → parent_below m r (k + 1) ≡ parent_below m r k
    unfolding parent_below
    parent_out e = rw (add-one k, e)

  module _ (gs : List ℕ) (h k : ℕ) where
    pub region_here : k < length gs → same_range m (get_or gs k 0) h ≡ true → region_in m (drop k gs) h ≡ 0
    unfolding region_in
    region_here lt e = rw (drop-cons gs k 0 lt, e)

    pub region_on : k < length gs → same_range m (get_or gs k 0) h ≡ false → k + region_in m (drop k gs) h ≡ k + 1 + region_in m (drop (k + 1) gs) h
    unfolding region_in
    region_on lt e = rw (drop-cons gs k 0 lt, e, add-one k) (omega arith)

    pub region_end : length gs ≤ k → region_in m (drop k gs) h ≡ 0
    unfolding region_in
    region_end le = rw (drop_of_length-le gs {i = k} le)

  place-below : (n h : ℕ) (gs : List ℕ) → h < n → ((r : ℕ) → r < length gs → get_or gs r 0 < n) → (r : ℕ) → r < length (place m h gs) → get_or (place m h gs) r 0 < n
  unfolding place
  place-below n h [] lt below zero in-r = lt
  place-below n h [] lt below (suc r) in-r = absurd (omega arith)
  place-below n h (g ∷ gs) lt below r in-r = go (leb (span m h) (span m g)) (place-below n h gs lt (λ q l. below (suc q) (omega arith))) r in-r
    where
      go : (b : Bool) → ((r : ℕ) → r < length (place m h gs) → get_or (place m h gs) r 0 < n) → (r : ℕ) → r < length (cond b (g ∷ place m h gs) (h ∷ g ∷ gs)) → get_or (cond b (g ∷ place m h gs) (h ∷ g ∷ gs)) r 0 < n
      go true later zero in-r = below zero (omega arith)
      go true later (suc r) in-r = later r (omega arith)
      go false later zero in-r = lt
      go false later (suc r) in-r = below r (omega arith)

  drafts-below : (n r : ℕ) → r < length (drafts_below m n) → get_or (drafts_below m n) r 0 < n
  unfolding drafts_below
  drafts-below zero r h = absurd (omega arith)
  drafts-below (suc n) r h = go (is_draft m n) (λ q l. omega (arith, drafts-below n q l)) r h
    where
      go : (b : Bool) → ((r : ℕ) → r < length (drafts_below m n) → get_or (drafts_below m n) r 0 < suc n) → (r : ℕ) → r < length (cond b (place m n (drafts_below m n)) (drafts_below m n)) → get_or (cond b (place m n (drafts_below m n)) (drafts_below m n)) r 0 < suc n
      go true before = place-below (suc n) n (drafts_below m n) (omega arith) before
      go false before = before

  pub draft-below : (r : ℕ) → r < length (drafts m) → draft m r < length m.handlers
  unfolding drafts
  draft-below r h = drafts-below (length m.handlers) r h

  pub range_known : (blocks : List ℕ) (h : ℕ) (k : Positions) (a : Handler) → Numbered m blocks → a ≡ handler_at m h → Ranges (table_of m) a.start a.end (Ok k)
      → set_below (λ i. get_or blocks (k.first + i) 0) (k.past - k.first) ≡ set_below (λ i. block_of m (range_first m h + i)) (range_size m h)
  unfolding range_first range_size
  range_known blocks h k a numbered is range =
      let r = rw is at range in
      let size = length-entries m.instructions in
      set_same (λ i. get_or blocks (k.first + i) 0) (λ i. block_of m (k.first + i)) (k.past - k.first) (λ i lt. numbered.block (k.first + i) (omega arith))
      ∙ rw (r.1, r.2)

  module _ (h : ℕ) (passed : handler_check m h ≡ clear) where
    range_clear : range_check (table_of m) (handler_at m h).start (handler_at m h).end ≡ clear
    unfolding handler_check
    range_clear = then_left (range_check (table_of m) (handler_at m h).start (handler_at m h).end) (unless (is_start (table_of m) (handler_at m h).entry) (refusal 13 (handler_at m h).entry 0)) passed

    pub range_passes : (a : Handler) → a ≡ handler_at m h → range_check (table_of m) a.start a.end ≡ clear
    range_passes a is = rw is range_clear

module _ (l : Lent) (whole : Whole l) where
  pub regions_none : (held_of l).graph.regions ≡ [] → Stored l l (held (with_regions (held_of l).graph []))
  regions_none none = record { holds = whole ∙ ap (λ (rs : List Region). held (with_regions (held_of l).graph rs)) none; grows = grows_none l.counts; kept = untouched_none l }

  pub handlers_none : (held_of l).graph.handlers ≡ [] → Stored l l (held (with_handlers (held_of l).graph []))
  handlers_none none = record { holds = whole ∙ ap (λ (hs : List HandlerRecord). held (with_handlers (held_of l).graph hs)) none; grows = grows_none l.counts; kept = untouched_none l }

module _ {l k : Lent} (rs : List Region) (stored : Stored l k (held (with_regions (held_of l).graph rs))) where
  graph_is : (held_of k).graph ≡ with_regions (held_of l).graph rs
  unfolding held
  graph_is = ap (λ (h : Held). h.graph) stored.holds

  pub regions_whole : Whole k
  regions_whole = stored.holds ∙ ap held (sym graph_is)

  pub regions_keep : (held_of l).graph.handlers ≡ [] → (held_of k).graph.handlers ≡ []
  regions_keep none = ap (λ (x : Graph). x.handlers) graph_is ∙ none

  pub both : {n : Lent} (hs : List HandlerRecord) → Stored k n (held (with_handlers (held_of k).graph hs)) → Stored l n (held (with_handlers (with_regions (held_of l).graph rs) hs))
  both hs then = rw graph_is at (stored_then stored then)

no_regions : (m : Image) → length m.handlers ≡ 0 → regions_of m ≡ []
unfolding regions_of drafts drafts_below table
no_regions m none = rw none

no_handlers : (m : Image) → length m.handlers ≡ 0 → handlers_of m ≡ []
unfolding handlers_of table
no_handlers m none = rw none

pub none_stored : (m : Image) (l : Lent) → length m.handlers ≡ 0 → Whole l → (held_of l).graph.regions ≡ [] → (held_of l).graph.handlers ≡ [] → Stored l l (held (with_handlers (with_regions (held_of l).graph (regions_of m)) (handlers_of m)))
none_stored m l none whole no-region no-handler =
    rw (no_regions m none, no_handlers m none) (both [] (regions_none l whole no-region) [] (handlers_none l whole no-handler))

module _ (g : Graph) where
  pub regions_more : (f : ℕ → Region) (r : ℕ) (x : Region) → r < 32 → x ≡ f r → with_region (held (with_regions g (table f r))) x ≡ held (with_regions g (table f (r + 1)))
  unfolding table
  regions_more f r x h e = region-more (with_regions g (table f r)) x (rw (length-table f r) h) ∙ rw (e, add-one r)

  pub handlers_more : (f : ℕ → HandlerRecord) (i : ℕ) (x : HandlerRecord) → i < 32 → x ≡ f i → with_handler (held (with_handlers g (table f i))) x ≡ held (with_handlers g (table f (i + 1)))
  unfolding table
  handlers_more f i x h e = handler-more (with_handlers g (table f i)) x (rw (length-table f i) h) ∙ rw (e, add-one i)

-- ---- the parent, as a region keeps it

pub parent_told : (p : Option ℕ) → bool_byte (is_some p) ≡ length (option_to_list p)
parent_told (Some k) = refl
parent_told None = refl

pub parent_number : (p : Option ℕ) → unwrap_or p 0 ≡ get_or (option_to_list p) 0 0
parent_number (Some k) = refl
parent_number None = refl
