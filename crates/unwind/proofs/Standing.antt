-- A graph that 21 lets pass: its table, its built blocks, and the block that an address starts.
--     stands_of                    what is used of 21
--     less_point                   of numbers that rise, those that are less than one stand before the others
--     table_rises                  the addresses of its table rise
--     below-cut, below_test, start_nowhere     how many starts are below an address, and whether one is there
--     built_is, is-built           the first n blocks are the built ones
--     block_first, block_rises, first_lt       where built blocks begin
--     block_in, run_fits           the run of any block lies in the table, and that past the last
--     none_begins                  no built block begins at a position but the one found
--     built_some, begins_one       how many are built, and that one begins at an address
--     leads_here, leads_none, leads_absent     the block that an address starts
--     leads_first                  a built block whose first instruction starts at an address is the one
-- Assumes nothing.
use mathlib.Core.Path.{◌≡◌, refl, sym, ap, ◌∙◌}
use mathlib.Core.Bool.{Bool, true, false, cond, ◌&&◌, ◌||◌, false≢true}
use mathlib.Core.Logic.{◌⊎◌, inl, inr, ⊎_elim}
use mathlib.Core.List.Memᴰ
use mathlib.Core.List.{List, [], ◌∷◌}
use mathlib.Core.Option.{Option, none, some}
use Prim.Native.Nat.{ℕ, zero, suc, ◌+◌, ◌≤◌, ◌<◌}
use native.Mathlib.Nat.{not-suc-le-zero}
use native.Mathlib.Decide.{dec_lt, ℕ_discrete}
use native.Mathlib.Omega.{arith}
use borrow.Author.Tests.{eq-eqb, ne_eqb, eqb-true, lt-ltb, le-ltb, ltb-true}
use Rattle.std.proofs.lemmas.Bool.{ltb-false}
use lib.Dec.{eqb, ltb}
use lib.ListN.{length, get_or, get_or-eq_default}
use Rattle.std.specs.List.Sorted.{IsPartitionedBy, IsPartitionPoint}
use Rattle.std.proofs.lemmas.List.Sorted.{IsPartitionedBy-ltb, IsNonDecreasingBy-from_default}
use Rattle.image.specs.Refusal.{Check, clear, refused}
use Rattle.graph.specs.declared.record.TableEntry.{TableEntry}
use Rattle.graph.specs.Graph.{Graph, Held, block}
use Rattle.graph.specs.Fold.{some as any, sum}
use Rattle.graph.specs.Table.{entry_at, is_start, below}
use Rattle.graph.specs.Lookup.{Rising}
use Rattle.graph.specs.Build.{table_check}
use Rattle.graph.specs.WellFormed.{passes, filled, is_built, Built, repeats, copies_repeat, none_empty, well_formed}
use Rattle.graph.proofs.FoldLaws.{decided, some_where}
use Rattle.graph.proofs.TableLaws.{start_at, start_none, start_has, start_place, below_at}
use Rattle.graph.proofs.RangeLaws.{rising}
use Rattle.graph.proofs.RuleLaws as rule
use Rattle.addition.specs.Lists.{keep, head}
use Rattle.addition.specs.Blocks.{leads, inside, absent, built_blocks, first_of, leading_by, leading}
use Rattle.unwind.specs.Stands.{Stands, Before}
use Rattle.addition.specs.Walk.{◌∈◌, Built as BuiltBlock, Begins}
use Rattle.addition.proofs.Lists.{and_both, or_either, none_in}
use Rattle.addition.proofs.Sound.{all_at}
use Rattle.addition.proofs.Accepted.{built_mem, mem_built}

pub stands_of : (h : Held) → well_formed h ≡ true → Stands h.graph
stands_of h e =
    let s = rule.stands h e in
    record { table = passed (table_check h.graph.table) s.table; ends = record { entry = s.entry; edges = s.edges }; covers = s.covers; copies = s.copies; runs = s.runs }
  where
    passed : (c : Check) → passes c ≡ true → c ≡ clear
    passed clear e = refl
    passed (refused r) e = absurd (false≢true e)

-- ---- numbers that rise, against one

-- those that are less than t stand before the others
pub less_point : {A : Type 0} (f : A → ℕ) (l : List A) (d : A) (t r : ℕ) → ((i j : ℕ) → i < j → j < length l → f (get_or l i d) < f (get_or l j d))
    → (IsPartitionedBy (λ x. ltb (f x) t) l → IsPartitionPoint (λ x. ltb (f x) t ≡ true) (λ x. ltb (f x) t ≡ false) l r)
    → ((k : ℕ) → k < r → f (get_or l k d) < t) × ((k : ℕ) → r ≤ k → k < length l → t ≤ f (get_or l k d))
less_point f l d t r rise found =
    let point = found (IsPartitionedBy-ltb f l t (IsNonDecreasingBy-from_default f l d up)) in
    (λ k h. ltb-true _ _ (point.0 k d (omega arith) h), λ k le h. ltb-false _ _ (point.1 k d le h))
  where
    up : (i j : ℕ) → i ≤ j → j < length l → f (get_or l i d) ≤ f (get_or l j d)
    up i j le h = elim (ℕ_discrete i j) [ yes e ↦ rw e (omega arith) | no ne ↦ omega (arith, rise i j (omega arith) h) ]

-- ---- the first of the kept

module _ {A : Type 0} (f : A → Bool) where
  head-none : (l : List A) → ((x : A) → x ∈ l → f x ≡ false) → head (keep f l) ≡ none
  unfolding head keep
  head-none [] out = refl
  head-none (x ∷ l) out = rw (out x (Memᴰ.head refl)) (head-none l (λ y m. out y (Memᴰ.tail m)))

  head_one : (l : List A) (b : A) → b ∈ l → f b ≡ true → ((x : A) → x ∈ l → f x ≡ true → x ≡ b) → head (keep f l) ≡ some b
  unfolding head keep
  head_one [] b m is only = absurd (none_in m)
  head_one (x ∷ l) b m is only = go (f x) refl m (λ k. head_one l b k is (λ y my. only y (Memᴰ.tail my)))
    where
      go : (t : Bool) → f x ≡ t → b ∈ x ∷ l → (b ∈ l → head (keep f l) ≡ some b) → head (cond t (x ∷ keep f l) (keep f l)) ≡ some b
      go true e k rest = ap some (only x (Memᴰ.head refl) e)
      go false e (Memᴰ.head p) rest = absurd (false≢true (sym e ∙ ap f (sym p) ∙ is))
      go false e (Memᴰ.tail k) rest = rest k

-- ---- the table

pub below-cut : (t : List TableEntry) (a r : ℕ) → r ≤ length t → ((k : ℕ) → k < r → (entry_at t k).address < a) → ((k : ℕ) → r ≤ k → k < length t → a ≤ (entry_at t k).address) → below t a ≡ r
unfolding below entry_at
below-cut [] a r h less more = omega arith
below-cut (x ∷ t) a zero h less more =
    rw (le-ltb x.address a (more zero (omega arith) (omega arith)))
    (below-cut t a zero (omega arith) (λ k lt. absurd (not-suc-le-zero lt)) (λ k le lt. more (suc k) (omega arith) (omega arith)))
below-cut (x ∷ t) a (suc r) h less more =
    rw (lt-ltb x.address a (less zero (omega arith)))
    (ap suc (below-cut t a r (omega arith) (λ k lt. less (suc k) (omega arith)) (λ k le lt. more (suc k) (omega arith) (omega arith))))

filled_none : (g : Graph) → filled g 0 ≡ 0
unfolding filled sum
filled_none g = refl

-- how many blocks are built
pub built_some : (g : Graph) → (n : ℕ) × Built g n
unfolding is_built
built_some g = let all = up_to (length g.blocks) (omega arith) in (all.0, (all.1, all.2))
  where
    up_to : (m : ℕ) → m ≤ length g.blocks → (n : ℕ) × (n ≤ m) × ((b : ℕ) → b < m → is_built g b ≡ ltb b n)
    up_to zero h = (0, omega arith, λ b lt. absurd (not-suc-le-zero lt))
    up_to (suc m) h = go (up_to m (omega arith)) (decided (is_built g m))
      where
        go : (n : ℕ) × (n ≤ m) × ((b : ℕ) → b < m → is_built g b ≡ ltb b n) → (is_built g m ≡ true) ⊎ (is_built g m ≡ false) → (n : ℕ) × (n ≤ suc m) × ((b : ℕ) → b < suc m → is_built g b ≡ ltb b n)
        go before (inl is) =
            let last : (m ≡ 0) ⊎ (filled g m < length g.table) =
            ⊎_elim (λ e. inl (eqb-true m 0 e)) (λ e. inr (ltb-true _ _ e)) (or_either (eqb m 0) (ltb (filled g m) (length g.table)) is) in
            (suc m, omega arith, λ b lt. rule.built_all g m last b (omega arith) ∙ sym (lt-ltb b (suc m) lt))
        go before (inr out) = (
          before.0,
          omega (arith, before.1),
          λ b lt. elim (ℕ_discrete b m) [
            | yes same ↦ rw same (out ∙ sym (le-ltb m before.0 before.1))
            | no ne ↦ before.2 b (omega arith)
          ],
        )

below-zero : (t : List TableEntry) (a : ℕ) → ((k : ℕ) → k < length t → a ≤ (entry_at t k).address) → below t a ≡ 0
below-zero t a h = below-cut t a 0 (omega arith) (λ k lt. absurd (not-suc-le-zero lt)) (λ k le lt. h k lt)

one_up : (m n : ℕ) → ltb m n ≡ ltb (suc m) (suc n)
one_up m n = elim (dec_lt m n) [ yes lt ↦ lt-ltb m n lt ∙ sym (lt-ltb (suc m) (suc n) (omega arith)) | no ge ↦ le-ltb m n (omega arith) ∙ sym (le-ltb (suc m) (suc n) (omega arith)) ]

-- in a table that rises the starts below an address are the first ones
pub below_test : (t : List TableEntry) → Rising t → (a k : ℕ) → k < length t → ltb (entry_at t k).address a ≡ ltb k (below t a)
unfolding below entry_at
below_test [] rise a k h = absurd (not-suc-le-zero h)
below_test (x ∷ t) rise a k h =
    elim (dec_lt x.address a) [
      | yes lt ↦ rw (lt-ltb x.address a lt) (first k h (λ i. below_test t (λ i j l m. rise (suc i) (suc j) (omega arith) (omega arith)) a i) lt)
      | no ge ↦
          let none_below : below t a ≡ 0 = below-zero t a (λ i l. let r = rise zero (suc i) (omega arith) (omega arith) in omega arith) in
          rw (le-ltb x.address a (omega arith), none_below) (none k h ge ∙ sym (le-ltb k 0 (omega arith)))
    ]
  where
    first : (k : ℕ) → k < suc (length t) → ((i : ℕ) → i < length t → ltb (entry_at t i).address a ≡ ltb i (below t a)) → x.address < a → ltb (entry_at (x ∷ t) k).address a ≡ ltb k (suc (below t a))
    first zero h rest lt = lt-ltb x.address a lt ∙ sym (lt-ltb 0 (suc (below t a)) (omega arith))
    first (suc i) h rest lt = rest i (omega arith) ∙ one_up i (below t a)

    none : (k : ℕ) → k < suc (length t) → (x.address < a → ⊥) → ltb (entry_at (x ∷ t) k).address a ≡ false
    none zero h ge = le-ltb x.address a (omega arith)
    none (suc i) h ge = le-ltb (entry_at t i).address a (let r = rise zero (suc i) (omega arith) (omega arith) in omega arith)

module _ (g : Graph) (s : Stands g) where
  pub table_rises : Rising g.table
  table_rises = rising g.table s.table

  -- what stands at the position of an address
  pub start_nowhere : (a : ℕ) → ((below g.table a < length g.table) → (entry_at g.table (below g.table a)).address ≡ a → ⊥) → is_start g.table a ≡ false
  start_nowhere a out =
      start_none g.table a
      (λ k h e. let at : below g.table a ≡ k = rw e at (below_at g.table table_rises k h) in out (rw at h) (rw at e))

  -- ---- built blocks

  module _ (n : ℕ) (built : Built g n) where
    pub built_is : (b : ℕ) → b < n → is_built g b ≡ true
    built_is b h = built.1 b (omega (arith, built.0)) ∙ lt-ltb b n h

    pub is-built : (b : ℕ) → BuiltBlock g b → b < n
    is-built b x = ltb-true b n (sym (built.1 b x.exists) ∙ x.original)

    pub block_first : (b : ℕ) → b < n → (block g b).first ≡ filled g b
    block_first = rule.first_is g s.covers s.runs n built

    pub block_rises : (a b : ℕ) → a < b → b < n → (block g a).first < (block g b).first
    block_rises = rule.rises g s.covers s.runs n built

    pub first_lt : (b : ℕ) → 0 < length g.table → b < n → (block g b).first < length g.table
    unfolding is_built
    first_lt b nonempty h = go (or_either (eqb b 0) (ltb (filled g b) (length g.table)) (built_is b h))
      where
        go : (eqb b 0 ≡ true) ⊎ (ltb (filled g b) (length g.table) ≡ true) → (block g b).first < length g.table
        go (inl z) = let e : b ≡ 0 = eqb-true b 0 z in omega (arith, block_first b h, rule.filled_le g b 0 (omega arith), filled_none g)
        go (inr lt) = omega (arith, block_first b h, ltb-true (filled g b) (length g.table) lt)

    -- the run of a built block
    run_in : (b : ℕ) → b < n → (block g b).first + (block g b).count ≤ length g.table
    run_in b h =
        omega (arith, block_first b h, rule.filled_more g b, rule.place_fits g b (built_is b h) (rule.covers_place g s.covers b (omega (arith, built.0))))

    pub block_in : (b : ℕ) → b < length g.blocks → (block g b).first + (block g b).count ≤ length g.table
    unfolding copies_repeat repeats
    block_in b h =
        elim (dec_lt b n) [
          | yes lt ↦ run_in b lt
          | no ge ↦ copy (or_either (is_built g b) (any (repeats g b) (length g.blocks)) (all_at (λ (k : ℕ). is_built g k || any (repeats g k) (length g.blocks)) (length g.blocks) b s.copies h)) (omega arith)
        ]
      where
        original : (a : ℕ) → a < length g.blocks → repeats g b a ≡ true → (block g b).first + (block g b).count ≤ length g.table
        original a lt e =
            let x = and_both (is_built g a && eqb (block g a).first (block g b).first) (eqb (block g a).count (block g b).count) e in
            let y = and_both (is_built g a) (eqb (block g a).first (block g b).first) x.0 in
            omega (arith, run_in a (is-built a (record { exists = lt; original = y.0 })), eqb-true (block g a).first (block g b).first y.1, eqb-true (block g a).count (block g b).count x.1)

        copy : (is_built g b ≡ true) ⊎ (any (repeats g b) (length g.blocks) ≡ true) → n ≤ b → (block g b).first + (block g b).count ≤ length g.table
        copy (inl is) ge = absurd (omega (arith, is-built b (record { exists = h; original = is })))
        copy (inr found) ge = let x = some_where (repeats g b) (length g.blocks) found in original x.0 x.1 x.2

    -- no built block begins at p but the one found
    pub none_begins : (p r : ℕ) → Before g n p r → (r < n → (block g r).first ≡ p → ⊥) → (b : ℕ) → b < n → (block g b).first ≡ p → ⊥
    none_begins p r c out b h is =
        elim (dec_lt b r) [
          | yes less ↦ omega (arith, c.before b less)
          | no ge ↦ elim (ℕ_discrete b r) [ yes same ↦ out (rw same at h) (rw same at is) | no ne ↦ omega (arith, c.behind r (omega arith) (omega arith), block_rises r b (omega arith) h) ]
        ]

    -- ---- the block that an address starts

    module _ (a p : ℕ) (start : is_start g.table a ≡ true) (at : below g.table a ≡ p) where
      starts : ℕ → Bool
      starts b = eqb (first_of g b).address a

      -- a built block starts at a if it begins at the position of a
      same_start : (b : ℕ) → b < n → starts b ≡ eqb (block g b).first p
      unfolding starts first_of
      same_start b h =
          let k = start_has g.table a start in
          sym (start_place g.table table_rises a p (block g b).first start at (first_lt b (omega (arith, k.1)) h))

      pub leads_here : (b : ℕ) → b < n → (block g b).first ≡ p → leading g a ≡ leads b
      unfolding leading leading_by starts
      leads_here b h is = rw (head_one starts (built_blocks g) b (mem_built g b (record { exists = omega (arith, built.0); original = built_is b h })) (same_start b h ∙ eq-eqb _ p is) only, start)
        where
          only : (c : ℕ) → c ∈ built_blocks g → starts c ≡ true → c ≡ b
          only c m e =
              let lt = is-built c (built_mem g c m) in
              let here : (block g c).first ≡ p = eqb-true _ p (sym (same_start c lt) ∙ e) in
              elim (ℕ_discrete c b) [
                | yes same ↦ same
                | no ne ↦ elim (dec_lt c b) [ yes less ↦ absurd (omega (arith, block_rises c b less h)) | no more ↦ absurd (omega (arith, block_rises b c (omega arith) lt)) ]
              ]

      pub leads_none : ((b : ℕ) → b < n → (block g b).first ≡ p → ⊥) → leading g a ≡ inside
      unfolding leading leading_by starts
      leads_none out = rw (head-none starts (built_blocks g) (λ c m. same_start c (is-built c (built_mem g c m)) ∙ ne_eqb _ p (out c (is-built c (built_mem g c m)))), start)

    pub leads_first : (a b : ℕ) → b < n → (block g b).first < length g.table → (first_of g b).address ≡ a → leading g a ≡ leads b
    unfolding first_of
    leads_first a b h fits is =
        let p = (block g b).first in
        leads_here a p (start_at g.table a p fits is) (rw is at (below_at g.table table_rises p fits)) b h refl

  pub leads_absent : (a : ℕ) → is_start g.table a ≡ false → leading g a ≡ absent
  unfolding leading leading_by
  leads_absent a none-there = rw none-there (go (head (keep (λ (b : ℕ). eqb (first_of g b).address a) (built_blocks g))))
    where
      go : (o : Option ℕ) → leading_by o false ≡ absent
      go none = refl
      go (some b) = refl

  -- the run of any number
  pub run_fits : (b : ℕ) → (block g b).first + (block g b).count ≤ length g.table
  run_fits b =
      elim (dec_lt b (length g.blocks)) [
        | yes lt ↦ block_in (built_some g).0 (built_some g).1 b lt
        | no ge ↦ let past : block g b ≡ record { first = 0; count = 0 } = get_or-eq_default g.blocks _ (omega arith) in rw past (omega arith)
      ]

  -- one built block begins at an address
  pub begins_one : (a b c : ℕ) → Begins g a b → Begins g a c → b ≡ c
  unfolding first_of none_empty
  begins_one a b c x y =
      elim (dec_lt 0 (length g.table)) [
        | yes some_there ↦ go some_there
        | no none-there ↦
            let z : length g.table ≡ 0 = omega arith in
            let one : length g.blocks ≡ 1 = eqb-true (length g.blocks) 1 (rw (eq-eqb (length g.table) 0 z) at s.runs) in
            omega (arith, x.built.exists, y.built.exists)
      ]
    where
      n : ℕ
      n = (built_some g).0

      built : Built g n
      built = (built_some g).1

      -- where an address rises, so does the place
      same : 0 < length g.table → (block g b).first ≡ (block g c).first
      same h =
          let p = first_lt n built b h (is-built n built b x.built) in
          let q = first_lt n built c h (is-built n built c y.built) in
          let e : (entry_at g.table (block g b).first).address ≡ (entry_at g.table (block g c).first).address = x.address ∙ sym y.address in
          elim (dec_lt (block g b).first (block g c).first) [
            | yes less ↦ absurd (omega (arith, table_rises (block g b).first (block g c).first less q))
            | no more ↦ elim (dec_lt (block g c).first (block g b).first) [ yes less ↦ absurd (omega (arith, table_rises (block g c).first (block g b).first less p)) | no eq ↦ omega arith ]
          ]

      go : 0 < length g.table → b ≡ c
      go h =
          let p = is-built n built b x.built in
          let q = is-built n built c y.built in
          let e = same h in
          elim (dec_lt b c) [
            | yes less ↦ absurd (omega (arith, block_rises n built b c less q))
            | no more ↦ elim (dec_lt c b) [ yes less ↦ absurd (omega (arith, block_rises n built c b less p)) | no eq ↦ omega arith ]
          ]
