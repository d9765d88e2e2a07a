-- The routes of an image pass their checks against the graph that is built of it: its leaders' marks put a block at each
-- instruction that a route protects.
--     own_built                    all blocks of a graph just built are built
--     route_leader                 what a route marks leads its block
--     led_clear                    a leader is found where it stands
--     entries_clear                the build's check 14 of a route is clear
--     own_passed                   10 to 12, 15 and 17 refuse none of the image's routes
-- Assumes nothing.
use mathlib.Core.Path.{◌≡◌, refl, sym, ◌∙◌, ap}
use mathlib.Core.Logic.{⊎_elim, inl, inr}
use mathlib.Core.Bool.{Bool, true, not, ◌||◌}
use mathlib.Core.List.Memᴰ
use mathlib.Core.List.{List, [], ◌∷◌, ◌++◌}
use Prim.Native.Nat.{ℕ, zero, suc, ◌+◌, ◌-◌, ◌≤◌, ◌<◌}
use native.Mathlib.Decide.{ℕ_discrete}
use native.Mathlib.Omega.{arith}
use borrow.Author.Tests.{eq-eqb, lt-ltb, le-leb, leb-true, ltb-true}
use lib.Dec.{eqb, ltb, leb}
use lib.ListN.{length, get_or, length-append, get_or-append}
use lib.Seq.{get_or-append_seam}
use Rattle.image.specs.Refusal.{refusal, Check, clear, ◌then◌, unless}
use Rattle.image.specs.Image.{Image}
use Rattle.image.specs.Deal.{UnwindRoute, routes_of}
use Rattle.image.proofs.Checks.{then_left, then_right, unless_clear}
use Rattle.graph.specs.declared.record.TableEntry.{TableEntry}
use Rattle.graph.specs.declared.record.Block.{Block}
use Rattle.graph.specs.Graph.{Graph, block}
use Rattle.graph.specs.Fold.{flat, among, checks, check_each, sum}
use Rattle.graph.specs.Table.{entry_at, is_start, below, range_check}
use Rattle.graph.specs.Transfer.{table_of, size, address_at}
use Rattle.graph.specs.Route.{route_at, resumes_late, entries, route_check as image_check}
use Rattle.graph.specs.Leaders.{entry_mark, sequence_mark, flow_mark, exceptional_mark, range_mark, handler_mark, routes, route_mark, is_leader}
use Rattle.graph.specs.Blocks.{is_terminator, first_of as begin_of, block_end, blocks_of}
use Rattle.graph.specs.Build.{build_check, graph_from}
use Rattle.graph.specs.WellFormed.{filled, is_built, Built}
use Rattle.graph.proofs.FoldLaws.{decided, some_at}
use Rattle.graph.proofs.TableLaws.{length-entries, start_at, below_at}
use Rattle.graph.proofs.RangeLaws.{rising, below_less}
use Rattle.graph.proofs.CheckLaws.{checks_clear, checks_at}
use Rattle.graph.proofs.RuleLaws.{filled_le, filled_more, built_all, runs}
use Rattle.graph.proofs.BuiltChecks.{Parts, parts, input_clear}
use Rattle.graph.proofs.BuiltBlocks.{no_blocks, all_blocks, leads_next, last_ends, ended_one, ended_none}
use Rattle.graph.proofs.BuiltRuns.{none-empty}
use Rattle.addition.specs.Lists.{keep, head}
use Rattle.addition.specs.Blocks.{built_blocks, first_of, leading_by, leading, within}
use Rattle.addition.specs.Add.{lead_found, lead_check, range_leads, route_check}
use Rattle.addition.specs.Walk.{◌∈◌, Begins}
use Rattle.addition.proofs.Lists.{and_both, and_true, or_left, or_right, none_in, mem_keep, mem_flat, mem_at, at_lt, at_get_or}
use Rattle.addition.proofs.After.{sum_same}
use Rattle.addition.proofs.Accepted.{mem_built}

-- ---- the runs of a build hold no more than the table

-- how many instructions the runs of a list hold
abbrev in_runs : List Block → ℕ
in_runs l = sum (λ (i : ℕ). (get_or l i (record { first = 0; count = 0 })).count) (length l)

runs_more : (l : List Block) (x : Block) → in_runs (l ++ (x ∷ [])) ≡ in_runs l + x.count
unfolding sum
runs_more l x =
    let d : Block = record { first = 0; count = 0 } in
    let longer : length (l ++ (x ∷ [])) ≡ suc (length l) = omega (arith, length-append l (x ∷ [])) in
    rw (longer, get_or-append_seam l x [] d)
    (ap (λ (n : ℕ). n + x.count)
    (sum_same (λ (i : ℕ). (get_or (l ++ (x ∷ [])) i d).count) (λ (i : ℕ). (get_or l i d).count) (length l)
    (λ i h. ap (λ (y : Block). y.count) (get_or-append l (x ∷ []) d i h))))

module _ (m : Image) where
  -- the blocks that end before p
  abbrev ended : ℕ → List Block
  ended p = flat (λ q. block_end m q) p

  -- they hold what stands before the block of p
  abbrev Before : ℕ → Type 0
  Before p = (in_runs (ended p) ≡ begin_of m p) × (begin_of m p ≤ p)

  before_end : (p : ℕ) → is_terminator m p ≡ true → Before p → in_runs (ended (suc p)) ≡ suc p
  before_end p e so =
      ap in_runs (ended_one m p e) ∙ omega (arith, so.0, so.1, runs_more (ended p) (record { first = begin_of m p; count = suc p - begin_of m p }))

  before : (p : ℕ) → p < size m → Before p
  unfolding flat begin_of sum
  before zero h = (refl, omega arith)
  before (suc p) h =
      let so = before p (omega arith) in
      ⊎_elim
      (λ e. rw e (before_end p (leads_next m p h ∙ e) so, omega arith))
      (λ e. rw (ended_none m p (leads_next m p h ∙ e), e) (so.0, omega (arith, so.1)))
      (decided (is_leader m (suc p)))

  all_held : in_runs (blocks_of m) ≡ size m
  unfolding sum
  all_held =
      elim (ℕ_discrete (size m) 0) [
        | yes none ↦ rw (no_blocks m none) (sym none)
        | no ne ↦
            let last : suc (size m - 1) ≡ size m = omega arith in
            ap in_runs (all_blocks m ne ∙ ap ended (sym last)) ∙ before_end (size m - 1) (last_ends m (size m - 1) last) (before (size m - 1) (omega arith)) ∙ last
      ]

  full : filled (graph_from m) (length (graph_from m).blocks) ≡ length (graph_from m).table
  unfolding filled graph_from
  full = all_held ∙ sym (length-entries m.instructions)

  all_built : (b : ℕ) → b < length (graph_from m).blocks → is_built (graph_from m) b ≡ true
  all_built b h =
      elim (ℕ_discrete b 0) [
        | yes none ↦ built_all (graph_from m) b (inl none) b (omega arith)
        | no ne ↦ built_all (graph_from m) b
            (inr (omega (arith, full, filled_more (graph_from m) b, filled_le (graph_from m) (b + 1) (length (graph_from m).blocks) (omega arith), runs (graph_from m) (none-empty m) (omega arith) b h)))
            b (omega arith)
      ]

  pub own_built : Built (graph_from m) (length (graph_from m).blocks)
  own_built = (omega arith, λ b h. all_built b h ∙ sym (lt-ltb b (length (graph_from m).blocks) h))

  -- ---- a leader leads its block

  pub route_leader : (p : ℕ) → route_mark m p ≡ true → is_leader m p ≡ true
  unfolding is_leader
  route_leader p e = or_left _ (or_right (entry_mark m p || sequence_mark m p || flow_mark m p || exceptional_mark m p || handler_mark m p) e)

  begin_led : (p : ℕ) → is_leader m p ≡ true → begin_of m p ≡ p
  unfolding begin_of
  begin_led zero e = refl
  begin_led (suc p) e = rw e

  -- the block of p ends, k instructions on at most
  ends_later : (k p : ℕ) → suc (p + k) ≡ size m → (q : ℕ) × (q < size m) × (is_terminator m q ≡ true) × (begin_of m q ≡ begin_of m p)
  unfolding begin_of
  ends_later zero p h = (p, omega arith, last_ends m p (omega arith), refl)
  ends_later (suc k) p h =
      ⊎_elim
      (λ e. (p, omega arith, leads_next m p (omega arith) ∙ e, refl))
      (λ e. let r = ends_later k (suc p) (omega arith) in (r.0, r.1, r.2, r.3 ∙ rw e))
      (decided (is_leader m (suc p)))

  block_led : (p : ℕ) → p < size m → is_leader m p ≡ true → (b : ℕ) × (b < length (graph_from m).blocks) × ((block (graph_from m) b).first ≡ p)
  unfolding graph_from
  block_led p h e =
      let r = ends_later (size m - 1 - p) p (omega arith) in
      let x : Block = record { first = begin_of m r.0; count = suc r.0 - begin_of m r.0 } in
      let ends : x ∈ block_end m r.0 = rw r.2 (Memᴰ.head refl) in
      let stands : x ∈ blocks_of m = rw (all_blocks m (λ none. omega arith)) (mem_flat (λ q. block_end m q) (size m) r.0 r.1 ends) in
      let i = mem_at stands in
      (i.0, at_lt (blocks_of m) i.0 i.1, ap (λ (y : Block). y.first) (at_get_or (blocks_of m) i.0 _ i.1) ∙ r.3 ∙ begin_led p e)

-- an instruction that starts at a, and a built block that begins there
lead_clear : (g : Graph) (a b : ℕ) → Begins g a b → is_start g.table a ≡ true → lead_check g a ≡ clear
unfolding lead_check leading lead_found leading_by head
lead_clear g a b begins starts = rw starts (go (keep here (built_blocks g)) (mem_keep here (mem_built g b begins.built) (eq-eqb _ a begins.address)))
  where
    here : ℕ → Bool
    here c = eqb (first_of g c).address a

    go : (l : List ℕ) → b ∈ l → lead_found a (leading_by (head l) true) ≡ clear
    go [] k = absurd (none_in k)
    go (c ∷ l) k = refl

module _ (m : Image) (clears : build_check m ≡ clear) where
  abbrev t : List TableEntry
  t = table_of m

  abbrev address : ℕ → ℕ
  address p = (entry_at t p).address

  passed : Parts m
  passed = parts m (input_clear m clears)

  pub led_clear : (p : ℕ) → p < length t → is_leader m p ≡ true → lead_check (graph_from m) (address p) ≡ clear
  unfolding first_of graph_from
  led_clear p h e =
      let r = block_led m p (rw (← (length-entries m.instructions)) h) e in
      lead_clear (graph_from m) (address p) r.0
      (record { built = record { exists = r.1; original = all_built m r.0 r.1 }; address = ap address r.2 })
      (start_at t (address p) p h refl)

  -- ---- what a route protects

  module _ (k : ℕ) (h : k < length (routes m)) where
    abbrev own : UnwindRoute
    own = route_at (routes m) k

    route_clear : image_check t (routes m) k ≡ clear
    route_clear = checks_at (image_check t (routes m)) (length (routes m)) k passed.routed h

    -- 10 to 12 and 15
    abbrev ranged : Check
    ranged = range_check t own.start own.end then unless (not (resumes_late own)) (refusal 15 k 0)

    range_clear : ranged ≡ clear
    unfolding image_check
    range_clear = then_left ranged _ route_clear

    pub entries_clear : check_each (λ a. unless (is_start t a) (refusal 14 a 0)) (entries own) ≡ clear
    unfolding image_check
    entries_clear = then_right ranged _ route_clear

    start_starts : is_start t own.start ≡ true
    unfolding range_check
    start_starts =
        let range = then_left (range_check t own.start own.end) _ range_clear in
        let first = unless (ltb own.start own.end) (refusal 10 own.start own.end) in
        let second = unless (is_start t own.start) (refusal 11 own.start 0) in
        unless_clear _ _ (then_right first second (then_left (first then second) _ range))

    module _ (p : ℕ) (lt : p < length t) (in_range : within own (address p) ≡ true) where
      place : below t (address p) ≡ p
      place = below_at t (rising t passed.table) p lt

      from_start : below t own.start ≤ p
      unfolding within
      from_start =
          let low = leb-true own.start (address p) (and_both (leb own.start (address p)) _ in_range).0 in
          elim (ℕ_discrete own.start (address p)) [
            | yes same ↦ omega (arith, ap (below t) same, place)
            | no ne ↦ omega (arith, below_less t own.start (address p) start_starts (omega arith), place)
          ]

      to_end : p ≤ below t own.end
      unfolding within
      to_end =
          let high = ltb-true (address p) own.end (and_both (leb own.start (address p)) _ in_range).1 in
          omega (arith, below_less t (address p) own.end (start_at t (address p) p lt refl) high, place)

      marked : range_mark m own.start own.end p ≡ true
      unfolding range_mark
      marked = and_true (le-leb (below t own.start) p from_start) (le-leb p (below t own.end) to_end)

      route_marked : route_mark m p ≡ true
      unfolding route_mark
      route_marked =
          some_at _ (length (routes m)) k h (or_left (among (entries own) (address_at m p)) marked)

    range_leads_law : (p : ℕ) → p < length t → range_leads (graph_from m) own p ≡ clear
    unfolding range_leads graph_from
    range_leads_law p lt =
        ⊎_elim (λ e. rw e (led_clear p lt (route_leader m p (route_marked p lt e)))) (λ e. rw e) (decided (within own (address p)))

    own_clear : route_check (graph_from m) (routes m) k ≡ clear
    unfolding route_check graph_from
    own_clear = rw range_clear (checks_clear (range_leads (graph_from m) own) (length t) range_leads_law)

  pub own_passed : checks (route_check (graph_from m) (routes_of m.routes)) (length (routes_of m.routes)) ≡ clear
  unfolding routes
  own_passed = checks_clear (route_check (graph_from m) (routes m)) (length (routes m)) own_clear
