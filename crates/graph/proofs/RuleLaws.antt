-- Rule 21.
--     passes-checks                a row of checks passes if each does
--     passes_first, passes_next    entry 0, and an entry behind another
--     sum_more, sum_le             one number more, and a sum grows
--     rest-none                    nothing is left of a whole
--     built_all, built_stop        blocks up to one that is built are; none is behind the one that fills the table
--     filled_le, filled_more       what is filled grows
--     some_from, all_from          what holds of none, or each, below k and from k on
--     both_true, both_hold         two tests that hold
--     in_place, place_test, place_fits     a built block begins where those before it end, and stays in the table
--     covers_not, covers_full, covers_end     a block out of place, the one that fills the table, and none does
--     covers_place, runs, first_is, rises     where the blocks of a graph that passes begin
--     is_run, runs_built, copies_only     a block is built or repeats one that is; a copy repeats one
--     Between, go_left, go_right, repeats_here, repeats_nowhere     a search by halving for the built run that a copy repeats
--     Stands, stands, stands_so    each phrase of a graph that the rule lets pass, and back
-- Assumes nothing.
use mathlib.Core.Path.{◌≡◌, refl, sym, ap, ◌∙◌}
use mathlib.Core.Bool.{Bool, true, false, not, ◌&&◌, ◌||◌, and-true, and-false, or-true, false≢true}
use mathlib.Core.List.{List}
use mathlib.Core.Logic.{◌⊎◌, ⊎_elim}
use Prim.Native.Nat.{ℕ, zero, suc, ◌+◌, ◌-◌, ◌≤◌, ◌<◌}
use native.Mathlib.Nat.{eq-or-lt_of_le, le_of_suc-le-suc}
use native.Mathlib.Numerals.{add-one}
use native.Mathlib.Decide.{ℕ_discrete, dec_lt}
use native.Mathlib.Omega.{arith}
use borrow.Author.Tests.{eq-eqb, ne_eqb, eqb-true, lt-ltb, le-ltb, ltb-true, lt-leb, le-leb, leb-true}
use lib.Dec.{eqb, ltb, leb}
use lib.ListN.{length}
use Rattle.image.specs.Refusal.{Refusal, refusal, Check, clear, refused, ◌then◌, unless}
use Rattle.graph.specs.declared.record.TableEntry.{TableEntry}
use Rattle.graph.specs.declared.record.Block.{Block}
use Rattle.graph.specs.Graph.{Graph, Held, block}
use Rattle.graph.specs.Fold.{some, all, checks, sum}
use Rattle.graph.specs.Table.{entry_at}
use Rattle.graph.specs.Build.{order_check, instruction_check, table_check}
use Rattle.graph.specs.WellFormed.{within_limits, passes, is_block, edge_ends_exist, region_blocks_exist, parents_exist, references_match, in_sets, filled, is_built, Built, covers_table, repeats, copies_repeat, none_empty, well_formed}
use Rattle.graph.proofs.FoldLaws.{decided, all_same, all_behind, all_fails, some_at}

-- ---- the table

passes_then : (a b : Check) → passes (a then b) ≡ (passes a && passes b)
passes_then clear b = refl
passes_then (refused r) b = refl

passes-unless : (b : Bool) (r : Refusal) → passes (unless b r) ≡ b
passes-unless true r = refl
passes-unless false r = refl

pub passes-checks : (f : ℕ → Check) (n : ℕ) → passes (checks f n) ≡ all (λ (i : ℕ). passes (f i)) n
unfolding checks all
passes-checks f zero = refl
passes-checks f (suc n) = passes_then (checks f n) (f n) ∙ ap (λ (b : Bool). b && passes (f n)) (passes-checks f n)

alone : (a b : Bool) (r s : Refusal) (c : Check) → passes (unless a r then unless b s then c) ≡ ((a && b) && passes c)
alone true true r s c = refl
alone true false r s c = refl
alone false b r s c = refl

module _ (t : List TableEntry) where
  pub passes_first : passes (instruction_check t 0) ≡ (eqb (entry_at t 0).has_end 1 && ltb (entry_at t 0).address (entry_at t 0).end)
  unfolding instruction_check order_check
  passes_first = alone (eqb (entry_at t 0).has_end 1) (ltb (entry_at t 0).address (entry_at t 0).end) _ _ clear ∙ and-true _

  pub passes_next : (p : ℕ) → passes (instruction_check t (suc p)) ≡ ((eqb (entry_at t (suc p)).has_end 1 && ltb (entry_at t (suc p)).address (entry_at t (suc p)).end) && ltb (entry_at t p).address (entry_at t (suc p)).address)
  unfolding instruction_check order_check
  passes_next p =
      alone (eqb (entry_at t (suc p)).has_end 1) (ltb (entry_at t (suc p)).address (entry_at t (suc p)).end) _ _ (order_check t (suc p))
      ∙ ap (λ (b : Bool). (eqb (entry_at t (suc p)).has_end 1 && ltb (entry_at t (suc p)).address (entry_at t (suc p)).end) && b) (passes-unless (ltb (entry_at t p).address (entry_at t (suc p)).address) (refusal 5 (entry_at t p).address (entry_at t (suc p)).address))

-- ---- sums

pub sum_more : (f : ℕ → ℕ) (n : ℕ) → sum f (n + 1) ≡ sum f n + f n
unfolding sum
sum_more f n = rw add-one refl

pub sum_le : (f : ℕ → ℕ) (n m : ℕ) → n ≤ m → sum f n ≤ sum f m
unfolding sum
sum_le f n zero h = let none : n ≡ 0 = omega arith in rw none (omega arith)
sum_le f n (suc m) h =
    ⊎_elim
    (λ same. rw same (omega arith))
    (λ lt. omega (arith, sum_le f n m (le_of_suc-le-suc lt)))
    (eq-or-lt_of_le h)

pub rest-none : (a left n : ℕ) → a + left ≡ n → eqb left 0 ≡ eqb a n
rest-none a zero n e = sym (eq-eqb a n (omega arith))
rest-none a (suc left) n e = ne_eqb (suc left) 0 (omega arith) ∙ sym (ne_eqb a n (omega arith))

pub some_from : (f : ℕ → Bool) (k n : ℕ) → k ≤ n → some f k ≡ false → ((i : ℕ) → k ≤ i → i < n → f i ≡ false) → some f n ≡ false
unfolding some
some_from f k zero h none rest = let start : k ≡ 0 = omega arith in rw start at none
some_from f k (suc n) h none rest =
    ⊎_elim
    (λ same. rw same at none)
    (λ lt. let before = some_from f k n (le_of_suc-le-suc lt) none (λ i le l. rest i le (omega arith)) in rw (before, rest n (le_of_suc-le-suc lt) (omega arith)) refl)
    (eq-or-lt_of_le h)

pub all_from : (f : ℕ → Bool) (k n : ℕ) → k ≤ n → all f k ≡ true → ((i : ℕ) → k ≤ i → i < n → f i ≡ true) → all f n ≡ true
unfolding all
all_from f k zero h each rest = let start : k ≡ 0 = omega arith in rw start at each
all_from f k (suc n) h each rest =
    ⊎_elim
    (λ same. rw same at each)
    (λ lt. let before = all_from f k n (le_of_suc-le-suc lt) each (λ i le l. rest i le (omega arith)) in rw (before, rest n (le_of_suc-le-suc lt) (omega arith)) refl)
    (eq-or-lt_of_le h)

pub both_true : (x y : Bool) → (x && y) ≡ true → (x ≡ true) × (y ≡ true)
both_true true y h = (refl, h)
both_true false y h = absurd (false≢true h)

pub both_hold : (x y : Bool) → x ≡ true → y ≡ true → (x && y) ≡ true
both_hold x y hx hy = rw (hx, hy)

all_each : (f : ℕ → Bool) (n i : ℕ) → all f n ≡ true → i < n → f i ≡ true
all_each f n i e h = ⊎_elim (λ yes. yes) (λ out. absurd (false≢true (sym (all_fails f n i h out) ∙ e))) (decided (f i))

-- ---- built blocks

module _ (g : Graph) where
  built_yes : (b : ℕ) → filled g b < length g.table → is_built g b ≡ true
  unfolding is_built
  built_yes b h = rw (lt-ltb (filled g b) (length g.table) h) (or-true (eqb b 0))

  built_no : (b : ℕ) → (b ≡ 0 → ⊥) → length g.table ≤ filled g b → is_built g b ≡ false
  unfolding is_built
  built_no b ne h = rw (ne_eqb b 0 ne, le-ltb (filled g b) (length g.table) h) refl

  built_first : is_built g 0 ≡ true
  unfolding is_built
  built_first = refl

  pub filled_le : (a b : ℕ) → a ≤ b → filled g a ≤ filled g b
  unfolding filled
  filled_le a b h = sum_le (λ (k : ℕ). (block g k).count) a b h

  pub filled_more : (b : ℕ) → filled g (b + 1) ≡ filled g b + (block g b).count
  unfolding filled
  filled_more b = sum_more (λ (k : ℕ). (block g k).count) b

  pub built_all : (i : ℕ) → (i ≡ 0) ⊎ (filled g i < length g.table) → (b : ℕ) → b ≤ i → is_built g b ≡ true
  built_all i c b h =
      ⊎_elim
      (λ none. let first : b ≡ 0 = omega arith in rw first built_first)
      (λ lt. built_yes b (omega (arith, filled_le b i h)))
      c

  pub built_stop : (i : ℕ) → (i ≡ 0) ⊎ (filled g i < length g.table) → length g.table ≤ filled g (i + 1) → (b : ℕ) → is_built g b ≡ ltb b (i + 1)
  built_stop i c full b =
      elim (dec_lt b (i + 1)) [
        | yes lt ↦ built_all i c b (omega arith) ∙ sym (lt-ltb b (i + 1) lt)
        | no le ↦ built_no b (omega arith) (omega (arith, filled_le (i + 1) b (omega arith))) ∙ sym (le-ltb b (i + 1) (omega arith))
      ]

  -- ---- the table covered

  abbrev pub in_place : ℕ → Bool
  in_place b = not (is_built g b) || (eqb (block g b).first (filled g b) && leb (filled g (suc b)) (length g.table))

  filled-suc : (b : ℕ) → filled g (suc b) ≡ filled g b + (block g b).count
  unfolding filled sum
  filled-suc b = refl

  -- a run that ends in the table is no longer than what is left of it
  fits : (b : ℕ) → filled g b ≤ length g.table → leb (filled g (suc b)) (length g.table) ≡ not (ltb (length g.table - filled g b) (block g b).count)
  fits b h =
      elim (dec_lt (length g.table - filled g b) (block g b).count) [
        | yes lt ↦ rw (lt-ltb (length g.table - filled g b) (block g b).count lt) (lt-leb (filled g (suc b)) (length g.table) (omega (arith, filled-suc b)))
        | no le ↦ rw (le-ltb (length g.table - filled g b) (block g b).count (omega arith)) (le-leb (filled g (suc b)) (length g.table) (omega (arith, filled-suc b)))
      ]

  -- a built block, tested by what it holds and what is filled
  pub place_test : (b : ℕ) (x : Block) (run n : ℕ) (out : Bool) → x ≡ block g b → run ≡ filled g b → n ≡ length g.table → is_built g b ≡ true → run ≤ n
      → (not (eqb x.first run) || ltb (n - run) x.count) ≡ out → in_place b ≡ not out
  place_test b x run n out is so_far whole built h e =
      rw (built, fits b (rw (← so_far, ← whole) h)) (both (eqb (block g b).first (filled g b)) (ltb (length g.table - filled g b) (block g b).count) ∙ ap not (rw (is, so_far, whole) at e))
    where
      both : (x y : Bool) → (x && not y) ≡ not (not x || y)
      both true y = refl
      both false y = refl

  pub place_fits : (b : ℕ) → is_built g b ≡ true → in_place b ≡ true → filled g (b + 1) ≤ length g.table
  place_fits b is h = rw add-one (leb-true (filled g (suc b)) (length g.table) (both_true (eqb (block g b).first (filled g b)) _ (rw is at h)).1)

  -- the block is in place, and what is filled then
  pub place_stays : (b : ℕ) (x : Block) (run n : ℕ) → x ≡ block g b → run ≡ filled g b → n ≡ length g.table → is_built g b ≡ true → run ≤ n
      → (not (eqb x.first run) || ltb (n - run) x.count) ≡ false → (in_place b ≡ true) × (run + x.count ≡ filled g (b + 1)) × (filled g (b + 1) ≤ length g.table)
  place_stays b x run n is so_far whole built h e =
      let stays = place_test b x run n false is so_far whole built h e in
      (stays, rw (is, so_far) (sym (filled_more b)), place_fits b built stays)

  pub covers_not : (b : ℕ) → b < length g.blocks → in_place b ≡ false → covers_table g ≡ false
  unfolding covers_table
  covers_not b h out = rw (all_fails in_place (length g.blocks) b h out)

  pub covers_full : (i : ℕ) → i < length g.blocks → all in_place (i + 1) ≡ true → filled g (i + 1) ≡ length g.table → covers_table g ≡ true
  unfolding covers_table
  covers_full i h each full =
      rw (all_from in_place (i + 1) (length g.blocks) (omega arith) each (λ b le lt. rw (built_no b (omega arith) (omega (arith, filled_le (i + 1) b le)))))
      (le-leb (length g.table) (filled g (length g.blocks)) (omega (arith, filled_le (i + 1) (length g.blocks) (omega arith))))

  pub covers_end : all in_place (length g.blocks) ≡ true → filled g (length g.blocks) ≤ length g.table → eqb (filled g (length g.blocks)) (length g.table) ≡ covers_table g
  unfolding covers_table
  covers_end each h =
      rw each
      (elim (dec_lt (filled g (length g.blocks)) (length g.table)) [
        | yes lt ↦ ne_eqb (filled g (length g.blocks)) (length g.table) (omega arith) ∙ sym (lt-leb (length g.table) (filled g (length g.blocks)) lt)
        | no le ↦ eq-eqb (filled g (length g.blocks)) (length g.table) (omega arith) ∙ sym (le-leb (length g.table) (filled g (length g.blocks)) (omega arith))
      ])

  -- ---- copies

  abbrev pub is_run : ℕ → Bool
  is_run b = is_built g b || some (repeats g b) (length g.blocks)

  module _ (n : ℕ) (built : Built g n) where
    pub runs_built : all is_run n ≡ true
    unfolding all
    runs_built = all_from is_run 0 n (omega arith) refl (λ b le h. rw (built.1 b (omega (arith, built.0)) ∙ lt-ltb b n h))

    pub run_copy : (b : ℕ) → n ≤ b → b < length g.blocks → is_run b ≡ some (repeats g b) (length g.blocks)
    run_copy b le h = rw (built.1 b h ∙ le-ltb b n le)

    -- the built ones need not be asked
    pub copies_only : all (λ (i : ℕ). some (repeats g (n + i)) (length g.blocks)) (length g.blocks - n) ≡ copies_repeat g
    unfolding copies_repeat
    copies_only =
        all_same _ (λ (i : ℕ). is_run (n + i)) (length g.blocks - n) (λ i h. sym (run_copy (n + i) (omega arith) (omega arith)))
        ∙ all_behind is_run n (length g.blocks) built.0 runs_built

  -- ---- built blocks rise

  place_first : (b : ℕ) → is_built g b ≡ true → in_place b ≡ true → (block g b).first ≡ filled g b
  place_first b is h = eqb-true (block g b).first (filled g b) (both_true _ _ (rw is at h)).0

  pub covers_place : covers_table g ≡ true → (b : ℕ) → b < length g.blocks → in_place b ≡ true
  unfolding covers_table
  covers_place e b h = all_each in_place (length g.blocks) b (both_true _ _ e).0 h

  -- with two blocks no block is empty
  pub runs : none_empty g ≡ true → 1 < length g.blocks → (b : ℕ) → b < length g.blocks → 0 < (block g b).count
  unfolding none_empty
  runs e two b h =
      elim (ℕ_discrete (length g.table) 0) [
        | yes z ↦ absurd (omega (arith, eqb-true (length g.blocks) 1 (rw (eq-eqb (length g.table) 0 z) at e)))
        | no ne ↦ ltb-true 0 (block g b).count (all_each (λ (k : ℕ). ltb 0 (block g k).count) (length g.blocks) b (rw (ne_eqb (length g.table) 0 ne) at e) h)
      ]

  -- one of the first n blocks that begins as b does can only stand from lo on and before hi
  abbrev pub Between : ℕ → ℕ → ℕ → ℕ → Type 0
  Between b n lo hi = (k : ℕ) → k < n → (block g k).first ≡ (block g b).first → (lo ≤ k) × (k < hi)

  module _ (covers : covers_table g ≡ true) (none : none_empty g ≡ true) (n : ℕ) (built : Built g n) where
    pub first_is : (b : ℕ) → b < n → (block g b).first ≡ filled g b
    first_is b h = place_first b (built.1 b (omega (arith, built.0)) ∙ lt-ltb b n h) (covers_place covers b (omega (arith, built.0)))

    pub rises : (a b : ℕ) → a < b → b < n → (block g a).first < (block g b).first
    rises a b lt h =
        omega (arith, first_is a (omega arith), first_is b h, filled_le (a + 1) b (omega arith), filled_more a, runs none (omega (arith, built.0)) a (omega (arith, built.0)))

    -- of two built blocks the lower first comes first
    before : (a b : ℕ) → a < n → (block g a).first < (block g b).first → a < b
    before a b h lt =
        elim (dec_lt a b) [
          | yes less ↦ less
          | no more ↦ elim (ℕ_discrete a b) [ yes e ↦ omega (arith, ap (λ (k : ℕ). (block g k).first) e) | no ne ↦ omega (arith, rises b a (omega arith) h) ]
        ]

    module _ (b : ℕ) where
      module _ (lo hi mid : ℕ) (left : Between b n lo hi) (h : mid < n) where
        pub go_right : (block g mid).first < (block g b).first → Between b n (mid + 1) hi
        go_right lt k hk e = (omega (arith, before mid k h (omega arith)), (left k hk e).1)

        pub go_left : (block g b).first < (block g mid).first → Between b n lo mid
        go_left lt k hk e = ((left k hk e).0, before k mid hk (omega arith))

      repeats_other : (a : ℕ) → (((block g a).first ≡ (block g b).first) → ((block g a).count ≡ (block g b).count) → ⊥) → repeats g b a ≡ false
      unfolding repeats
      repeats_other a ne =
          elim (ℕ_discrete (block g a).first (block g b).first) [
            | yes e ↦ rw (ne_eqb (block g a).count (block g b).count (ne e)) (and-false (is_built g a && eqb (block g a).first (block g b).first))
            | no other ↦ rw (ne_eqb (block g a).first (block g b).first other, and-false (is_built g a))
          ]

      repeats_past : (a : ℕ) → n ≤ a → a < length g.blocks → repeats g b a ≡ false
      unfolding repeats
      repeats_past a le lt = rw (built.1 a lt ∙ le-ltb a n le)

      never : ((a : ℕ) → a < n → repeats g b a ≡ false) → some (repeats g b) (length g.blocks) ≡ false
      unfolding some
      never out = some_from (repeats g b) n (length g.blocks) built.0 (some_from (repeats g b) 0 n (omega arith) refl (λ a le. out a)) repeats_past

      repeats_is : (a : ℕ) → a < n → (block g a).first ≡ (block g b).first → (block g a).count ≡ (block g b).count → repeats g b a ≡ true
      unfolding repeats
      repeats_is a h first e = rw (built.1 a (omega (arith, built.0)) ∙ lt-ltb a n h, eq-eqb (block g a).first (block g b).first first, eq-eqb (block g a).count (block g b).count e)

      pub repeats_nowhere : (lo hi : ℕ) → Between b n lo hi → hi ≤ lo → some (repeats g b) (length g.blocks) ≡ false
      repeats_nowhere lo hi left h = never (λ a lt. repeats_other a (λ e same. omega (arith, left a lt e)))

      pub repeats_here : (mid : ℕ) → mid < n → (block g mid).first ≡ (block g b).first → eqb (block g mid).count (block g b).count ≡ some (repeats g b) (length g.blocks)
      repeats_here mid h first =
          elim (ℕ_discrete (block g mid).count (block g b).count) [
            | yes e ↦ eq-eqb (block g mid).count (block g b).count e ∙ sym (some_at (repeats g b) (length g.blocks) mid (omega (arith, built.0)) (repeats_is mid h first e))
            | no ne ↦ ne_eqb (block g mid).count (block g b).count ne ∙ sym (never (λ a lt. repeats_other a (alone ne a lt)))
          ]
        where
          alone : ((block g mid).count ≡ (block g b).count → ⊥) → (a : ℕ) → a < n → (block g a).first ≡ (block g b).first → (block g a).count ≡ (block g b).count → ⊥
          alone ne a lt e same =
              elim (ℕ_discrete a mid) [
                | yes it ↦ ne (ap (λ (k : ℕ). (block g k).count) (sym it) ∙ same)
                | no other ↦ elim (dec_lt a mid) [ yes less ↦ omega (arith, rises a mid less h) | no more ↦ omega (arith, rises mid a (omega arith) lt) ]
              ]

-- ---- the whole rule

pub record Stands (h : Held) : Type 0 where
  pub limits : within_limits h.counts ≡ true
  pub table : passes (table_check h.graph.table) ≡ true
  pub entry : is_block h.graph h.graph.entry ≡ true
  pub edges : edge_ends_exist h.graph ≡ true
  pub regions : region_blocks_exist h.graph ≡ true
  pub parents : parents_exist h.graph ≡ true
  pub references : references_match h.graph ≡ true
  pub sets : in_sets h.graph ≡ true
  pub covers : covers_table h.graph ≡ true
  pub copies : copies_repeat h.graph ≡ true
  pub runs : none_empty h.graph ≡ true

pub stands : (h : Held) → well_formed h ≡ true → Stands h
unfolding well_formed
stands h e =
    let p10 = both_true _ _ e in
    let p9 = both_true _ _ p10.0 in
    let p8 = both_true _ _ p9.0 in
    let p7 = both_true _ _ p8.0 in
    let p6 = both_true _ _ p7.0 in
    let p5 = both_true _ _ p6.0 in
    let p4 = both_true _ _ p5.0 in
    let p3 = both_true _ _ p4.0 in
    let p2 = both_true _ _ p3.0 in
    let p1 = both_true _ _ p2.0 in
    record { limits = p1.0; table = p1.1; entry = p2.1; edges = p3.1; regions = p4.1; parents = p5.1; references = p6.1; sets = p7.1; covers = p8.1; copies = p9.1; runs = p10.1 }

pub stands_so : (h : Held) → Stands h → well_formed h ≡ true
unfolding well_formed
stands_so h s = search both_hold depth 12
