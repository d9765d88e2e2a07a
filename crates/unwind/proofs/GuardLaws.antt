-- The blocks that a route guards are some of those that start in its range.
--     start_below, below_start     a start is below an address if its position is below the address's
--     Guarding, guarding_none, guarding_put, guarding_skip     the set, one block more
--     guards_empty                 without instructions there are none
--     guards_are                   the set of all blocks from the start's position on and before the end
-- Assumes nothing.
use mathlib.Core.Path.{◌≡◌, refl, sym, ap, ◌∙◌}
use mathlib.Core.Bool.{true, ◌||◌, false≢true}
use mathlib.Core.Logic.{◌⊎◌, inl, inr}
use mathlib.Core.List.{List}
use Prim.Native.Nat.{ℕ, ◌+◌, ◌≤◌, ◌<◌}
use native.Mathlib.Decide.{dec_lt, ℕ_discrete}
use native.Mathlib.Omega.{arith}
use borrow.Author.Tests.{eq-eqb, eqb-true, lt-ltb, ltb-true}
use lib.Dec.{eqb}
use lib.ListN.{length, get_or-eq_default}
use Rattle.image.specs.Deal.{UnwindRoute}
use Rattle.graph.specs.declared.record.TableEntry.{TableEntry}
use Rattle.graph.specs.Graph.{Graph, block}
use Rattle.graph.specs.Fold.{among}
use Rattle.graph.specs.BlockSet.{member, none, including}
use Rattle.graph.specs.Table.{entry_at, below}
use Rattle.graph.specs.WellFormed.{Built}
use Rattle.graph.proofs.BlockLaws.{member-none, member-including, length-including}
use Rattle.addition.specs.Blocks.{first_of, guarded}
use Rattle.unwind.specs.Stands.{Stands, Before, Guards, route_of}
use Rattle.addition.proofs.Lists.{both_ways, mem_among, among_mem, or_either, or_left, or_right}
use Rattle.addition.proofs.Accepted.{mem_guarded, guarded_mem}
use Rattle.unwind.proofs.Standing.{table_rises, below_test, built_is, is-built, block_rises, first_lt}

module _ (g : Graph) (s : Stands g) where
  pub start_below : (a k : ℕ) → k < length g.table → (entry_at g.table k).address < a → k < below g.table a
  start_below a k h lt = ltb-true k _ (sym (below_test g.table (table_rises g s) a k h) ∙ lt-ltb _ a lt)

  pub below_start : (a k : ℕ) → k < length g.table → k < below g.table a → (entry_at g.table k).address < a
  below_start a k h lt = ltb-true _ a (below_test g.table (table_rises g s) a k h ∙ lt-ltb k _ lt)

-- the set with the blocks from first on and before b that keep their exception edge, if all these start below `end`
pub record Guarding (g : Graph) (end first b : ℕ) (w : List ℕ) : Type 0 where
  pub long : length w ≡ 16
  pub under : (k : ℕ) → first ≤ k → k < b → (first_of g k).address < end
  pub inside : (k : ℕ) → member w k ≡ true → (first ≤ k) × (k < b) × ((first_of g k).keeps ≡ 1)
  pub all : (k : ℕ) → first ≤ k → k < b → (first_of g k).keeps ≡ 1 → member w k ≡ true

module _ (g : Graph) (end first : ℕ) where
  pub guarding_none : Guarding g end first first none
  guarding_none = record { long = refl; under = λ k le lt. absurd (omega arith); inside = λ k m. absurd (false≢true (sym (member-none k) ∙ m)); all = λ k le lt e. absurd (omega arith) }

  module _ (b : ℕ) (w : List ℕ) (h : first ≤ b) (x : Guarding g end first b w) (low : (first_of g b).address < end) where
    next_under : (k : ℕ) → first ≤ k → k < b + 1 → (first_of g k).address < end
    next_under k le lt = elim (ℕ_discrete b k) [ yes same ↦ rw (← same) low | no ne ↦ x.under k le (omega arith) ]

    pub guarding_put : b < 1024 → (first_of g b).keeps ≡ 1 → Guarding g end first (b + 1) (including w b)
    guarding_put few keeps =
        record {
          long = length-including w b ∙ x.long;
          under = next_under;
          inside = λ k m. go k (or_either (eqb b k) (member w k) (sym (has k) ∙ m));
          all = λ k le lt e. has k ∙ elim (ℕ_discrete b k) [ yes same ↦ or_left (member w k) (eq-eqb b k same) | no ne ↦ or_right (eqb b k) (x.all k le (omega arith) e) ];
        }
      where
        has : (k : ℕ) → member (including w b) k ≡ (eqb b k || member w k)
        has = member-including w x.long b few

        go : (k : ℕ) → (eqb b k ≡ true) ⊎ (member w k ≡ true) → (first ≤ k) × (k < b + 1) × ((first_of g k).keeps ≡ 1)
        go k (inl e) = let same : b ≡ k = eqb-true b k e in (omega arith, omega arith, rw (← same) keeps)
        go k (inr m) = let i = x.inside k m in (i.0, omega (arith, i.1), i.2)

    pub guarding_skip : ((first_of g b).keeps ≡ 1 → ⊥) → Guarding g end first (b + 1) w
    guarding_skip out =
        record {
          long = x.long;
          under = next_under;
          inside = λ k m. let i = x.inside k m in (i.0, omega (arith, i.1), i.2);
          all = λ k le lt e. elim (ℕ_discrete b k) [ yes same ↦ absurd (out (rw same e)) | no ne ↦ x.all k le (omega arith) e ];
        }

-- a block that keeps its exception edge has an instruction
keeps_some : (g : Graph) (k : ℕ) → (first_of g k).keeps ≡ 1 → 0 < length g.table
unfolding first_of entry_at
keeps_some g k e =
    elim (dec_lt 0 (length g.table)) [
      | yes lt ↦ lt
      | no ge ↦ absurd (omega (arith, ap (λ (x : TableEntry). x.keeps) (get_or-eq_default g.table (record { address = 0; end = 0; has_end = 0; keeps = 0; flow = 0 }) {n = (block g k).first} (omega arith))))
    ]

pub guards_empty : (g : Graph) (start end : ℕ) → length g.table ≡ 0 → Guards g start end none
guards_empty g start end empty ps k =
    both_ways _ _ (λ m. absurd (false≢true (sym (member-none k) ∙ m))) (λ m. absurd (omega (arith, empty, keeps_some g k (guarded_mem g (route_of start end ps) k (among_mem _ k m)).1)))

pub guards_are : (g : Graph) (s : Stands g) (n : ℕ) → Built g n → (start end first b : ℕ) → Before g n (below g.table start) first → b ≤ n → (b < n → end ≤ (first_of g b).address)
    → (w : List ℕ) → Guarding g end first b w → Guards g start end w
unfolding first_of
guards_are g s n built start end first b low most high w x ps k = both_ways _ _ forth back
  where
    u : UnwindRoute
    u = route_of start end ps

    lt : (k : ℕ) → (first_of g k).keeps ≡ 1 → k < n → (block g k).first < length g.table
    lt k e h = first_lt g s n built k (keeps_some g k e) h

    forth : member w k ≡ true → among (guarded g (route_of start end ps)) k ≡ true
    forth m =
        let i = x.inside k m in
        let kn : k < n = omega (arith, i.1) in
        mem_among (mem_guarded g u k (record { exists = omega (arith, built.0); original = built_is g s n built k kn }) i.2
        (record {
          from = elim (dec_lt (entry_at g.table (block g k).first).address start) [
            | yes less ↦ absurd (omega (arith, start_below g s start (block g k).first (lt k i.2 kn) less, low.behind k i.0 kn))
            | no ge ↦ omega arith
          ];
          before = x.under k i.0 i.1;
        }))

    back : among (guarded g (route_of start end ps)) k ≡ true → member w k ≡ true
    back m =
        let y = guarded_mem g u k (among_mem _ k m) in
        let kn = is-built g s n built k y.0 in
        let at = lt k y.1 kn in
        let from : first ≤ k = elim (dec_lt k first) [
          | yes less ↦ absurd (omega (arith, below_start g s start (block g k).first at (low.before k less), y.2.from))
          | no ge ↦ omega arith
        ] in
        let to : k < b = elim (dec_lt k b) [
          | yes less ↦ less
          | no ge ↦ elim (ℕ_discrete b k) [
            | yes same ↦ absurd (omega (arith, y.2.before, rw same at (high (omega arith))))
            | no ne ↦ absurd (omega (arith, y.2.before, high (omega arith), table_rises g s (block g b).first (block g k).first (block_rises g s n built b k (omega arith) kn) at))
          ]
        ] in
        x.all k from (omega arith) y.1
