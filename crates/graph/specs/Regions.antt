-- Regions with their handlers. `add_regions`.
use Rattle.std.specs.Prelude.{Bool, true, cond, not, ◌&&◌, List, [], ◌∷◌, ℕ, zero, suc, ◌+◌, ◌-◌, eqb, ltb, leb, length, get_or, replicate}
use Rattle.image.specs.Image.{Image, table}
use Rattle.graph.specs.declared.record.Region.{Region}
use Rattle.graph.specs.declared.record.HandlerRecord.{HandlerRecord}
use Rattle.graph.specs.Fold.{some, count}
use Rattle.graph.specs.Leaders.{handler_at}
use Rattle.graph.specs.BlockSet.{including}
use Rattle.graph.specs.Blocks.{block_of, block_at}
use Rattle.graph.specs.Edges.{range_first, range_size}

-- 'Equal ranges form one region': its draft is the first handler that has the range
unfoldable pub same_range : Image → ℕ → ℕ → Bool
same_range m g h = eqb (handler_at m g).start (handler_at m h).start && eqb (handler_at m g).end (handler_at m h).end

unfoldable pub is_draft : Image → ℕ → Bool
is_draft m h = not (some (λ g. same_range m g h) h)

-- 'Regions stand by falling span, equal spans by first use': a draft goes behind those of no lesser span
unfoldable pub span : Image → ℕ → ℕ
span m h = (handler_at m h).end - (handler_at m h).start

unfoldable pub place : Image → ℕ → List ℕ → List ℕ
place m h [] = h ∷ []
place m h (g ∷ gs) = cond (leb (span m h) (span m g)) (g ∷ place m h gs) (h ∷ g ∷ gs)

unfoldable pub drafts_below : Image → ℕ → List ℕ
drafts_below m zero = []
drafts_below m (suc h) = let before = drafts_below m h in cond (is_draft m h) (place m h before) before

unfoldable pub drafts : Image → List ℕ
drafts m = drafts_below m (length m.handlers)

abbrev pub draft : Image → ℕ → ℕ
draft m r = get_or (drafts m) r 0

-- 'The parent is the smallest strictly containing region; of equal spans, the earlier.' A list of one region, or of none.
unfoldable pub contains : Image → ℕ → ℕ → Bool
contains m g h =
    not (same_range m g h) && leb (handler_at m g).start (handler_at m h).start && leb (handler_at m h).end (handler_at m g).end

unfoldable pub smaller : Image → List ℕ → ℕ → Bool
smaller m [] k = true
smaller m (j ∷ js) k = ltb (span m (draft m k)) (span m (draft m j))

unfoldable pub parent_below : Image → ℕ → ℕ → List ℕ
parent_below m r zero = []
parent_below m r (suc k) =
    let before = parent_below m r k in cond (contains m (draft m k) (draft m r) && smaller m before k) (k ∷ []) before

-- the blocks f 0, f 1, .. below n
unfoldable pub set_below : (ℕ → ℕ) → ℕ → List ℕ
set_below f zero = replicate 16 0
set_below f (suc n) = including (set_below f n) (f n)

unfoldable pub region_at : Image → ℕ → Region
region_at m r =
    let parent = parent_below m r (length (drafts m)) in
    record {
      has_parent = length parent;
      parent = get_or parent 0 0;
      start = (handler_at m (draft m r)).start;
      end = (handler_at m (draft m r)).end;
      handlers = count (same_range m (draft m r)) (length m.handlers);
      protected = set_below (λ i. block_of m (range_first m (draft m r) + i)) (range_size m (draft m r));
    }

unfoldable pub regions_of : Image → List Region
regions_of m = table (region_at m) (length (drafts m))

-- 'handlers in input order': the region of handler h, and its place there
unfoldable pub region_in : Image → List ℕ → ℕ → ℕ
region_in m [] h = 0
region_in m (g ∷ gs) h = cond (same_range m g h) 0 (suc (region_in m gs h))

unfoldable pub handler_record : Image → ℕ → HandlerRecord
handler_record m h =
    record {
      region = region_in m (drafts m) h;
      place = count (λ g. same_range m g h) h;
      entry = block_at m (handler_at m h).entry;
      kind = (handler_at m h).kind;
      filter = (handler_at m h).filter;
    }

unfoldable pub handlers_of : Image → List HandlerRecord
handlers_of m = table (handler_record m) (length m.handlers)
