-- Route edges, as ways want them one after the other.
--     added_runs, hops_join        added edges leave the blocks as they were
--     wants_none, wants_then       nothing, and ways behind others
--     pair_stands                  the hop of an end that is a block
--     hop_few, flags_none          no flag is set
--     want_leave, want_again, want_new     one way: out of the function, wanted before, and new
--     want_next                    one branch more
--     stand_part, stand_front, stand_back, stand_flat     some of the ways that stand
--     ways_stand, stood_way        the ways of the hops that are stored, and the way of a hop
--     edges_stand, ends_stand, record_wants     the ways of a node: of its edges, then of its ends
--     SetWanting, wanting_start, wanting_stands, wanting_next, wanting_end     the blocks of a set
--     out_of, set_ways_law, guard_set, return_set     those of a route, and of a node
--     flat_start, flat_next        one route, or one node, more
--     over_wants                   a node that is over wants nothing
--     place_same, place_copy       where a node has a block
-- Assumes nothing.
use mathlib.Core.Path.{◌≡◌, refl, sym, ap, ap₂, ◌∙◌, subst}
use mathlib.Core.Bool.{Bool, true, false, ◌||◌}
use mathlib.Core.List.Memᴰ
use mathlib.Core.List.{List, [], ◌∷◌, ◌++◌, map, append-nil, append_assoc, map-append}
use Prim.Native.Nat.{Ordering}
use Prim.Native.Nat.{ℕ, zero, suc, ◌+◌, ◌≤◌, ◌<◌}
use native.Mathlib.Decide.{ℕ_discrete}
use native.Mathlib.Numerals.{add-one}
use native.Mathlib.Omega.{arith}
use borrow.Author.Tests.{ne_eqb}
use lib.Dec.{compare_is_eq}
use lib.ListN.{length, get_or, replicate, length-replicate}
use Rattle.graph.specs.declared.store.Graph.{Graph as Lent}
use Rattle.image.specs.Image.{RouteImage, table}
use Rattle.graph.specs.declared.record.Edge.{Edge}
use Rattle.graph.specs.Graph.{Graph, Held}
use Rattle.graph.specs.Lent.{held_of}
use Rattle.graph.specs.Fold.{flat, count}
use Rattle.graph.specs.BlockSet.{member, excluding}
use Rattle.graph.specs.Stored.{with_edge, Stored}
use Rattle.graph.specs.Adding.{adding, mores, Added}
use Rattle.graph.proofs.FoldLaws.{flat-more}
use Rattle.graph.proofs.BlockLaws.{length-excluding}
use Rattle.graph.proofs.SectionLaws.{size_most}
use Rattle.graph.proofs.AddingLaws.{added_none, added_then, edge_added}
use Rattle.unwind.specs.declared.tries.store.NodeRecord.{NodeRecord}
use Rattle.unwind.specs.declared.tries.store.Branch.{Branch}
use Rattle.unwind.specs.declared.hops.HopRow.{HopRow}
use Rattle.addition.specs.Lists.{joined}
use Rattle.addition.specs.Order.{sorted}
use Rattle.addition.specs.Blocks.{first_of, last_of}
use Rattle.unwind.specs.Nodes.{branch_in, record_in}
use Rattle.unwind.specs.Placed.{set_at}
use Rattle.unwind.specs.Clones.{list_of}
use Rattle.addition.specs.Walk.{◌∈◌}
use Rattle.addition.specs.Ways.{HopEnd, block, leave, Way, Leap, leap, compare_leaps, lists_of, hops_of, wanted, route_edge, edge_to, route_edges}
use Rattle.unwind.specs.Sources.{Exit, leap_of}
use Rattle.unwind.specs.Entries.{end_in}
use Rattle.unwind.specs.Gather.{exit_to, edge_exits, end_number, end_exits, record_exits}
use Rattle.unwind.specs.HopWords.{hop_rows, hop_row, rows_in, row_hop, row_hops, hops_in}
use Rattle.unwind.specs.Wanted.{way_of, place_in, record_ways, guard_ways, return_ways}
use Rattle.unwind.specs.Flags.{pair, leap_to, way_to, row_leap, leap_at, HopsRise, HopIs, HopStands, HopsJoin, WaysStand, Flags, FlagSet, seen_with, SameRuns, EdgesWanted, place_of, set_ways, Over}
use Rattle.addition.proofs.Lists.{or_left, none_in, mem_map, map_mem, mem_joined, mem_flat, mem_get_or}
use Rattle.addition.proofs.Order.{exact_leaps, mem_sorted, sorted_mem}
use Rattle.unwind.proofs.Rising.{Rising, rising_sorted, total_leaps}
use Rattle.unwind.proofs.EntryLaws.{table_mem}
use Rattle.unwind.proofs.HopLaws.{hops_number}
use Rattle.unwind.proofs.ChainLaws.{list_none, list_front}
use Rattle.unwind.proofs.TrieKeys.{joined_append}
use Rattle.unwind.proofs.FindLaws.{one_hop}
use Rattle.unwind.proofs.FlagLaws.{flag-none}

-- ---- the blocks are as they were

same_runs : (g : Graph) → SameRuns g g
same_runs g = record { table = refl; blocks = refl }

pub added_runs : {l l' : Lent} {es : List Edge} → Added l l' es [] [] → SameRuns (held_of l).graph (held_of l').graph
unfolding adding mores
added_runs a = record { table = ap (λ (h : Held). h.graph.table) a.stored.holds; blocks = ap (λ (h : Held). h.graph.blocks) a.stored.holds }

module _ {g g' : Graph} (k : SameRuns g g') where
  pub hops_join : {l : List ℕ} → HopsJoin l g → HopsJoin l g'
  hops_join j = record { runs = record { fits = λ b. rw (k.table, k.blocks) (j.runs.fits b) }; joins = λ s t h. rw (k.table, k.blocks) (j.joins s t h) }

  first_same : (b : ℕ) → first_of g' b ≡ first_of g b
  unfolding first_of
  first_same b = rw (k.table, k.blocks)

  last_same : (b : ℕ) → last_of g' b ≡ last_of g b
  unfolding last_of
  last_same b = rw (k.table, k.blocks)

  edge_same : (r s t : ℕ) → route_edge g' r s t ≡ route_edge g r s t
  unfolding route_edge
  edge_same r s t = rw (first_same t, last_same s)

  to_same : (seen : List Leap) (w : Way) (e : HopEnd) → edge_to g' seen w e ≡ edge_to g seen w e
  unfolding edge_to
  to_same seen w (block t) = rw (edge_same w.route w.source t)
  to_same seen w leave = refl

  edges_same : (seen : List Leap) (ws : List Way) → route_edges g' seen ws ≡ route_edges g seen ws
  unfolding route_edges
  edges_same seen [] = refl
  edges_same seen (w ∷ ws) = ap₂ (λ (x y : List Edge). x ++ y) (to_same seen w w.end) (edges_same (leap w ∷ seen) ws)

-- ---- ways behind others

edges_then : (g : Graph) (seen : List Leap) (ws vs : List Way) → route_edges g seen (ws ++ vs) ≡ route_edges g seen ws ++ route_edges g (seen_with ws seen) vs
unfolding route_edges seen_with
edges_then g seen [] vs = refl
edges_then g seen (w ∷ ws) vs =
    ap (λ (k : List Edge). edge_to g seen w w.end ++ k) (edges_then g (leap w ∷ seen) ws vs)
    ∙ sym (append_assoc (edge_to g seen w w.end) (route_edges g (leap w ∷ seen) ws) (route_edges g (seen_with ws (leap w ∷ seen)) vs))

seen_then : (seen : List Leap) (ws vs : List Way) → seen_with (ws ++ vs) seen ≡ seen_with vs (seen_with ws seen)
unfolding seen_with
seen_then seen [] vs = refl
seen_then seen (w ∷ ws) vs = seen_then (leap w ∷ seen) ws vs

pub wants_none : (h : List ℕ) (g : Lent) (done : List ℕ) → EdgesWanted h g done [] g done
unfolding route_edges seen_with
wants_none h g done = record { runs = same_runs (held_of g).graph; added = λ seen f. added_none g; flags = λ seen f. f }

pub wants_then : {h : List ℕ} {g g₁ g₂ : Lent} {done done₁ done₂ : List ℕ} {ws vs : List Way} → EdgesWanted h g done ws g₁ done₁ → EdgesWanted h g₁ done₁ vs g₂ done₂ → EdgesWanted h g done (ws ++ vs) g₂ done₂
wants_then {h} {g} {g₁} {g₂} {done} {done₁} {done₂} {ws} {vs} a b =
    record {
      runs = record { table = b.runs.table ∙ a.runs.table; blocks = b.runs.blocks ∙ a.runs.blocks };
      added = λ seen f.
          rw (edges_then (held_of g).graph seen ws vs)
          (added_then (a.added seen f) (rw (edges_same a.runs (seen_with ws seen) vs) at (b.added (seen_with ws seen) (a.flags seen f))));
      flags = λ seen f. rw (seen_then seen ws vs) (b.flags (seen_with ws seen) (a.flags seen f));
    }

-- ---- one way

seen_it : (s t : ℕ) (seen : List Leap) → wanted s t (pair s t ∷ seen) ≡ true
unfolding wanted
seen_it s t seen = or_left {a = compare_is_eq (compare_leaps (pair s t) (pair s t))} (wanted s t seen) (exact_leaps.self (pair s t))

seen_other : (s t : ℕ) (x : Leap) (seen : List Leap) → (pair s t ≡ x → ⊥) → wanted s t (x ∷ seen) ≡ wanted s t seen
unfolding wanted
seen_other s t x seen ne = go (compare_is_eq (compare_leaps (pair s t) x)) refl
  where
    go : (b : Bool) → compare_is_eq (compare_leaps (pair s t) x) ≡ b → (b || wanted s t seen) ≡ wanted s t seen
    go true e = absurd (ne (exact_leaps.tells (pair s t) x e))
    go false e = refl

end_block : (t : ℕ) → (t ≡ 65535 → ⊥) → end_in t ≡ block t
unfolding end_in
end_block t ne = rw (ne_eqb t 65535 ne)

pub pair_stands : (h : List ℕ) (b t : ℕ) → (t ≡ 65535 → ⊥) → HopStands h (leap_to b t) → HopStands h (pair b t)
pair_stands h b t ne s = subst (λ (e : HopEnd). HopStands h (record { source = b; end = e })) (end_block t ne) s

-- a hop's number
hop_few : {h : List ℕ} {x : Leap} {k : ℕ} → HopIs h x k → k < 2048
hop_few {h} p = omega (arith, p.stands, hops_number h, size_most hop_rows h)

pub flags_none : (h : List ℕ) → Flags h (replicate 33 0) []
unfolding wanted
flags_none h = record { long = length-replicate {A = ℕ} 33 0; tells = λ k s t p. flag-none k (hop_few p) }

module _ (h : List ℕ) (g : Lent) (done : List ℕ) (r b t : ℕ) where
  pub want_leave : t ≡ 65535 → (calls : List ℕ) → EdgesWanted h g done (way_to r b t calls ∷ []) g done
  unfolding route_edges edge_to seen_with end_in
  want_leave e calls =
      rw e
      record {
        runs = same_runs (held_of g).graph;
        added = λ seen f. added_none g;
        flags = λ seen f.
            record {
              long = f.long;
              tells = λ k s u p. f.tells k s u p ∙ sym (seen_other s u (record { source = b; end = leave }) seen (λ q. absurd (not_leave u (ap (λ (x : Leap). x.end) q))));
            };
      }
    where
      not_leave : (u : ℕ) → block u ≡ leave → ⊥
      not_leave u q = let z : ◌≡◌ {A = ℕ} 0 1 = cc in omega arith

  module _ (ne : t ≡ 65535 → ⊥) (k : ℕ) (rises : HopsRise h) (here : HopIs h (pair b t) k) where
    way_is : (calls : List ℕ) → way_to r b t calls ≡ record { source = b; route = r; calls = calls; end = block t }
    way_is calls = λ i. record { source = b; route = r; calls = calls; end = end_block t ne i }

    -- the flag of another hop tells what it told
    other : (seen : List Leap) (f : Flags h done seen) (j s u : ℕ) → HopIs h (pair s u) j → (j ≡ k → ⊥) → member done j ≡ wanted s u (pair b t ∷ seen)
    other seen f j s u p d =
        f.tells j s u p
        ∙ sym (seen_other s u (pair b t) seen (λ q. d (one_hop h rises (pair b t) j k (record { stands = p.stands; is = p.is ∙ q }) here)))

    -- and that of this one
    this : (seen : List Leap) (j s u : ℕ) → HopIs h (pair s u) j → j ≡ k → wanted s u (pair b t ∷ seen) ≡ true
    this seen j s u p e =
        let same : pair s u ≡ pair b t = sym p.is ∙ ap (leap_at h) e ∙ here.is in
        subst (λ (x : Leap). wanted s u (x ∷ seen) ≡ true) same (seen_it s u seen)

    module _ (done' : List ℕ) (put : FlagSet done k done') where
      flags : (seen : List Leap) → Flags h done seen → Flags h done' (pair b t ∷ seen)
      flags seen f = record { long = put.long ∙ f.long; tells = λ j s u p. told j s u p (ℕ_discrete j k) }
        where
          told : (j s u : ℕ) → HopIs h (pair s u) j → Dec (j ≡ k) → member done' j ≡ wanted s u (pair b t ∷ seen)
          told j s u p (yes e) = ap (member done') e ∙ put.this f.long ∙ sym (this seen j s u p e)
          told j s u p (no d) = put.others f.long j (hop_few p) d ∙ other seen f j s u p d

      pub want_again : member done k ≡ true → (calls : List ℕ) → EdgesWanted h g done (way_to r b t calls ∷ []) g done'
      unfolding route_edges edge_to seen_with
      want_again was calls =
          rw (way_is calls)
          record {
            runs = same_runs (held_of g).graph;
            added = λ seen f. rw (sym (f.tells k b t here) ∙ was) (added_none g);
            flags = flags;
          }

      pub want_new : member done k ≡ false → (g' : Lent) (e : Edge) → e ≡ route_edge (held_of g).graph r b t → Stored g g' (with_edge (held_of g) e) → (calls : List ℕ) → EdgesWanted h g done (way_to r b t calls ∷ []) g' done'
      unfolding route_edges edge_to seen_with
      want_new was g' e is st calls =
          let one : Added g g' (route_edge (held_of g).graph r b t ∷ []) [] [] = edge_added (route_edge (held_of g).graph r b t) (rw is at st) in
          rw (way_is calls)
          record {
            runs = added_runs one;
            added = λ seen f. rw (sym (f.tells k b t here) ∙ was) one;
            flags = flags;
          }

-- one branch more
pub want_next : {h : List ℕ} {g₀ g g' : Lent} {done₀ done done' : List ℕ} (m : RouteImage) (r b : ℕ) (e : ℕ → Branch) (n : ℕ → ℕ) (k t : ℕ) → t ≡ n k
    → EdgesWanted h g₀ done₀ (map (way_of r) (table (λ j. exit_to m b (e j) (n j)) k)) g done → ((calls : List ℕ) → EdgesWanted h g done (way_to r b t calls ∷ []) g' done')
    → EdgesWanted h g₀ done₀ (map (way_of r) (table (λ j. exit_to m b (e j) (n j)) (k + 1))) g' done'
unfolding table
want_next {h} {g₀} {g} {g'} {done₀} {done} {done'} m r b e n k t is a one =
    let x : Exit = exit_to m b (e k) (n k) in
    let last : EdgesWanted h g done (way_of r x ∷ []) g' done' = rw is at (one x.calls) in
    rw (add-one k, map-append (way_of r) (table (λ j. exit_to m b (e j) (n j)) k) (x ∷ [])) (wants_then a last)

-- ---- ways that stand

pub stand_part : {h : List ℕ} (ws vs : List Way) → ((w : Way) → w ∈ vs → w ∈ ws) → WaysStand h ws → WaysStand h vs
stand_part ws vs part s = record { rises = s.rises; stands = λ w i. s.stands w (part w i) }

pub stand_front : {h : List ℕ} (ws vs : List Way) → WaysStand h (ws ++ vs) → WaysStand h ws
stand_front ws vs s = stand_part (ws ++ vs) ws (λ w i. Memᴰ.append_left vs i) s

pub stand_back : {h : List ℕ} (ws vs : List Way) → WaysStand h (ws ++ vs) → WaysStand h vs
stand_back ws vs s = stand_part (ws ++ vs) vs (λ w i. Memᴰ.append_right ws i) s

pub stand_flat : {h : List ℕ} (f : ℕ → List Way) (n i : ℕ) → i < n → WaysStand h (flat f n) → WaysStand h (f i)
stand_flat f n i lt s = stand_part (flat f n) (f i) (λ w k. mem_flat f n i lt k) s

stand_table : {h : List ℕ} (m : RouteImage) (r b : ℕ) (e : ℕ → Branch) (n : ℕ → ℕ) (c : ℕ) → WaysStand h (map (way_of r) (table (λ j. exit_to m b (e j) (n j)) c)) → (j : ℕ) → j < c → HopStands h (leap_to b (n j))
stand_table m r b e n c s j lt = s.stands (way_of r (exit_to m b (e j) (n j))) (mem_map (way_of r) (table_mem (λ j. exit_to m b (e j) (n j)) c j lt))

-- ---- the hops that are stored

rows_leap : (m : RouteImage) (l : List ℕ) → map leap_of (hops_in m l) ≡ map row_leap (rows_in l).hops
unfolding row_hops row_hop
rows_leap m l = go (rows_in l).hops
  where
    go : (rs : List HopRow) → map leap_of (map (row_hop m (rows_in l).lists) rs) ≡ map row_leap rs
    go [] = refl
    go (x ∷ rs) = ap (λ (t : List Leap). row_leap x ∷ t) (go rs)

hops_leap : (ws : List Way) → map leap_of (hops_of ws) ≡ sorted compare_leaps (map leap ws)
unfolding hops_of
hops_leap ws = go (sorted compare_leaps (map leap ws))
  where
    go : (l : List Leap) → map leap_of (map (λ (k : Leap). record { source = k.source; end = k.end; calls = lists_of ws k }) l) ≡ l
    go [] = refl
    go (x ∷ l) = ap (λ (t : List Leap). x ∷ t) (go l)

leaps_rise : (l : List HopRow) → Rising compare_leaps (map row_leap l) → (i j : ℕ) → i < j → j < length l → compare_leaps (row_leap (get_or l i (hop_row []))) (row_leap (get_or l j (hop_row []))) ≡ Ordering.lt
unfolding Rising
leaps_rise [] r i j h k = absurd (omega arith)
leaps_rise (x ∷ l) r zero zero h k = absurd (omega arith)
leaps_rise (x ∷ l) r zero (suc j) h k = r.0 (row_leap (get_or l j (hop_row []))) (mem_map row_leap (mem_get_or l j (hop_row []) (omega arith)))
leaps_rise (x ∷ l) r (suc i) zero h k = absurd (omega arith)
leaps_rise (x ∷ l) r (suc i) (suc j) h k = leaps_rise l r.1 i j (omega arith) (omega arith)

leap_stands : (l : List HopRow) (x : Leap) → x ∈ map row_leap l → (k : ℕ) × (k < length l) × (row_leap (get_or l k (hop_row [])) ≡ x)
leap_stands [] x i = absurd (none_in i)
leap_stands (y ∷ l) x (Memᴰ.head e) = (0, omega arith, sym e)
leap_stands (y ∷ l) x (Memᴰ.tail i) = let k = leap_stands l x i in (suc k.0, omega (arith, k.1), k.2)

module _ (m : RouteImage) (h : List ℕ) (ws : List Way) (e : hops_in m h ≡ hops_of ws) where
  all_leaps : map row_leap (rows_in h).hops ≡ sorted compare_leaps (map leap ws)
  all_leaps = sym (rows_leap m h) ∙ ap (map leap_of) e ∙ hops_leap ws

  pub ways_stand : WaysStand h ws
  ways_stand =
      record {
        rises = record { rise = leaps_rise (rows_in h).hops (rw all_leaps (rising_sorted compare_leaps total_leaps (map leap ws))) };
        stands = λ w i.
            let k = leap_stands (rows_in h).hops (leap w) (rw all_leaps (mem_sorted compare_leaps exact_leaps (mem_map leap i))) in
            record { hop = k.0; makes = record { stands = k.1; is = k.2 } };
      }

  pub stood_way : (x : Leap) → HopStands h x → (w : Way) × (w ∈ ws) × (x ≡ leap w)
  stood_way x s =
      let here : x ∈ map row_leap (rows_in h).hops = Memᴰ.cast (sym s.makes.is) (mem_map row_leap (mem_get_or (rows_in h).hops s.hop (hop_row []) s.makes.stands)) in
      map_mem leap ws (sorted_mem compare_leaps (map leap ws) (rw all_leaps at here))

-- ---- a node

module _ (m : RouteImage) (nodes edges ends heads landings : List ℕ) (r b : ℕ) where
  abbrev edge_ways : NodeRecord → List Way
  edge_ways x = map (way_of r) (edge_exits m b edges heads x.first_edge x.edges)

  abbrev end_ways : NodeRecord → List Way
  end_ways x = map (way_of r) (end_exits m b ends landings x.first_end x.ends)

  both_ways : (x : NodeRecord) → record_ways m nodes edges ends heads landings r b x ≡ edge_ways x ++ end_ways x
  unfolding record_ways record_exits
  both_ways x = map-append (way_of r) (edge_exits m b edges heads x.first_edge x.edges) (end_exits m b ends landings x.first_end x.ends)

  module _ {h : List ℕ} (x x' : NodeRecord) (is : x ≡ x') where
    module _ (s : WaysStand h (record_ways m nodes edges ends heads landings r b x')) where
      own : WaysStand h (edge_ways x ++ end_ways x)
      own = rw (both_ways x) at (subst (λ (z : NodeRecord). WaysStand h (record_ways m nodes edges ends heads landings r b z)) (sym is) s)

      pub edges_stand : (j : ℕ) → j < x.edges → HopStands h (leap_to b (get_or heads (branch_in edges (x.first_edge + j)).what 0))
      unfolding edge_exits
      edges_stand =
          stand_table m r b (λ j. branch_in edges (x.first_edge + j)) (λ j. get_or heads (branch_in edges (x.first_edge + j)).what 0) x.edges
          (stand_front (edge_ways x) (end_ways x) own)

      pub ends_stand : (j : ℕ) → j < x.ends → HopStands h (leap_to b (end_number b landings (x.first_end + j)))
      unfolding end_exits
      ends_stand =
          stand_table m r b (λ j. branch_in ends (x.first_end + j)) (λ j. end_number b landings (x.first_end + j)) x.ends
          (stand_back (edge_ways x) (end_ways x) own)

    pub record_wants : {g g₁ g₂ : Lent} {done done₁ done₂ : List ℕ} → EdgesWanted h g done (map (way_of r) (edge_exits m b edges heads x.first_edge x.edges)) g₁ done₁ → EdgesWanted h g₁ done₁ (map (way_of r) (end_exits m b ends landings x.first_end x.ends)) g₂ done₂ → EdgesWanted h g done (record_ways m nodes edges ends heads landings r b x') g₂ done₂
    record_wants {g} {g₁} {g₂} {done} {done₁} {done₂} a c =
        subst (λ (z : NodeRecord). EdgesWanted h g done (record_ways m nodes edges ends heads landings r b z) g₂ done₂) is
        (rw (both_ways x) (wants_then a c))

-- ---- the blocks of a set

pub record SetWanting (h : List ℕ) (f : ℕ → List Way) (w : List ℕ) (g₀ : Lent) (done₀ left : List ℕ) (g : Lent) (done : List ℕ) : Type 0 where
  pub long : length left ≡ 16
  pub taken : List ℕ
  pub rest : taken ++ list_of left ≡ list_of w
  pub wants : EdgesWanted h g₀ done₀ (joined f taken) g done

pub wanting_start : (h : List ℕ) (f : ℕ → List Way) (w : List ℕ) (g : Lent) (done : List ℕ) → length w ≡ 16 → SetWanting h f w g done w g done
unfolding joined
wanting_start h f w g done long = record { long = long; taken = []; rest = refl; wants = wants_none h g done }

module _ {h : List ℕ} (f : ℕ → List Way) {w : List ℕ} {g₀ : Lent} {done₀ left : List ℕ} {g : Lent} {done : List ℕ} (p : SetWanting h f w g₀ done₀ left g done) where
  pub wanting_end : ((c : ℕ) → member left c ≡ false) → EdgesWanted h g₀ done₀ (joined f (list_of w)) g done
  wanting_end none = rw (sym p.rest ∙ ap (λ (k : List ℕ). p.taken ++ k) (list_none left none) ∙ append-nil p.taken) p.wants

  module _ (o : ℕ) (low : (o < 1024) × (member left o ≡ true) × ((c : ℕ) → c < o → member left c ≡ false)) where
    front : list_of left ≡ o ∷ list_of (excluding left o)
    front = list_front left o p.long low.0 low.1 low.2

    pub wanting_stands : WaysStand h (joined f (list_of w)) → WaysStand h (f o)
    wanting_stands s =
        let here : o ∈ list_of left = rw front (Memᴰ.head refl) in
        let there : o ∈ list_of w = rw p.rest at (Memᴰ.append_right p.taken here) in
        stand_part (joined f (list_of w)) (f o) (λ v k. mem_joined f there k) s

    pub wanting_next : {g' : Lent} {done' : List ℕ} → EdgesWanted h g done (f o) g' done' → SetWanting h f w g₀ done₀ (excluding left o) g' done'
    unfolding joined
    wanting_next a =
        record {
          long = length-excluding left o ∙ p.long;
          taken = p.taken ++ (o ∷ []);
          rest = append_assoc p.taken (o ∷ []) _ ∙ ap (λ (k : List ℕ). p.taken ++ k) (sym front) ∙ p.rest;
          wants = rw (joined_append f p.taken (o ∷ []) ∙ ap (λ (k : List Way). joined f p.taken ++ k) (append-nil (f o))) (wants_then p.wants a);
        }

-- ---- routes and nodes

module _ (m : RouteImage) (nodes edges ends heads landings : List ℕ) where
  abbrev pub out_of : ℕ → ℕ → ℕ → List ℕ → ℕ → List Way
  out_of i r base part o = record_ways m nodes edges ends heads landings r (place_of base part o) (record_in nodes i)

  pub set_ways_law : (i r base : ℕ) (part w : List ℕ) → set_ways m nodes edges ends heads landings i r base part w ≡ joined (out_of i r base part) (list_of w)
  unfolding set_ways
  set_ways_law i r base part w = refl

  pub guard_set : (roots guards : List ℕ) (i r : ℕ) (part w : List ℕ) → i ≡ get_or roots r 0 → w ≡ set_at guards r → guard_ways m nodes edges ends heads landings roots guards r ≡ set_ways m nodes edges ends heads landings i r 0 part w
  unfolding guard_ways set_ways place_of
  guard_set roots guards i r part w p q = rw (p, q)

  pub return_set : (bases parts returns : List ℕ) (i r base : ℕ) (part w : List ℕ) → r ≡ (record_in nodes i).route → base ≡ get_or bases i 0 → part ≡ set_at parts i → w ≡ set_at returns i → return_ways m nodes edges ends heads landings bases parts returns i ≡ set_ways m nodes edges ends heads landings i r base part w
  unfolding return_ways set_ways place_of place_in
  return_set bases parts returns i r base part w p q s u = rw (p, q, s, u)

module _ {h : List ℕ} {g₀ : Lent} {done₀ : List ℕ} (f : ℕ → List Way) where
  pub flat_start : EdgesWanted h g₀ done₀ (flat f 0) g₀ done₀
  unfolding flat
  flat_start = wants_none h g₀ done₀

  pub flat_next : {g g' : Lent} {done done' : List ℕ} (k : ℕ) → EdgesWanted h g₀ done₀ (flat f k) g done → EdgesWanted h g done (f k) g' done' → EdgesWanted h g₀ done₀ (flat f (k + 1)) g' done'
  flat_next k a b = rw (flat-more f k) (wants_then a b)

-- ---- a node that is over

module _ (h : List ℕ) (g : Lent) (done : List ℕ) where
  none-joined : (f : ℕ → List Way) → ((o : ℕ) → EdgesWanted h g done (f o) g done) → (l : List ℕ) → EdgesWanted h g done (joined f l) g done
  unfolding joined
  none-joined f none [] = wants_none h g done
  none-joined f none (o ∷ l) = wants_then (none o) (none-joined f none l)

  module _ (m : RouteImage) (nodes edges ends heads landings : List ℕ) (i : ℕ) (over : Over nodes landings i) where
    abbrev node : NodeRecord
    node = record_in nodes i

    over_edges : (r b : ℕ) → EdgesWanted h g done (map (way_of r) (edge_exits m b edges heads node.first_edge node.edges)) g done
    unfolding edge_exits table
    over_edges r b = rw over.edgeless (wants_none h g done)

    over_number : (b k : ℕ) → k < node.ends → end_number b landings (node.first_end + k) ≡ 65535
    unfolding end_number
    over_number b k lt = rw (over.leaves k lt)

    -- its first k ends
    over_ends : (r b k : ℕ) → k ≤ node.ends → EdgesWanted h g done (map (way_of r) (end_exits m b ends landings node.first_end k)) g done
    unfolding end_exits table
    over_ends r b zero le = wants_none h g done
    over_ends r b (suc k) le =
        rw (add-one k) at
        (want_next m r b (λ j. branch_in ends (node.first_end + j)) (λ j. end_number b landings (node.first_end + j)) k 65535
        (sym (over_number b k (omega arith)))
        (over_ends r b k (omega arith))
        (want_leave h g done r b 65535 refl))

    pub over_wants : (bases parts returns : List ℕ) → EdgesWanted h g done (return_ways m nodes edges ends heads landings bases parts returns i) g done
    unfolding return_ways
    over_wants bases parts returns =
        none-joined (λ o. record_ways m nodes edges ends heads landings node.route (place_in bases parts i o) node)
        (λ o. let b = place_in bases parts i o in record_wants m nodes edges ends heads landings node.route b node node refl (over_edges node.route b) (over_ends node.route b node.ends (omega arith)))
        (list_of (set_at returns i))

-- ---- where a node has a block

module _ (base : ℕ) (part : List ℕ) (o : ℕ) where
  pub place_same : base ≡ 0 → o ≡ place_of base part o
  unfolding place_of
  place_same e = rw e

  pub place_copy : (base ≡ 0 → ⊥) → base + count (member part) o ≡ place_of base part o
  unfolding place_of
  place_copy ne = rw (ne_eqb base 0 ne)
