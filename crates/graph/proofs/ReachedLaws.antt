-- The reached blocks by computing are the least set: as many rounds as blocks reach everything, since each round takes in a block
-- or changes nothing.
--     listed, listed_reached     the computed list has the reached blocks and no other
--     size_listed                and as many
-- Assumes nothing.
use mathlib.Core.Path.{◌≡◌, refl, sym, ap, ◌∙◌}
use mathlib.Core.Bool.{Bool, true, false, cond, not, ◌&&◌, or-true, or-false, true≢false, false≢true}
use mathlib.Core.Logic.{◌⊎◌, inl, inr, ⊎_elim}
use mathlib.Core.List.{List, [], ◌∷◌}
use Prim.Native.Nat.{ℕ, zero, suc, ◌+◌, ◌-◌, ◌≤◌, ◌<◌}
use native.Mathlib.Nat.{add-zero}
use native.Mathlib.Decide.{ℕ_discrete}
use native.Mathlib.Omega.{arith}
use borrow.Author.Tests.{eq-eqb, ne_eqb, eqb-true}
use lib.Dec.{eqb}
use lib.ListN.{length, get_or, length-append}
use Rattle.graph.specs.Fold.{flat, count, among}
use Rattle.graph.specs.Graph.{Graph, no_edge}
use Rattle.graph.specs.BlockSet.{member, size_of}
use Rattle.graph.specs.Reached.{Reached, start, step, along, rounds, reached_blocks}
use Rattle.graph.specs.Search.{Finds, Ends}
use Rattle.graph.specs.declared.record.Edge.{Edge}
use Rattle.graph.proofs.FoldLaws.{decided, some_at, some_where, among-flat, count_same, count_none, count_add, count_le, count_one, count_yes, count_no}
use Rattle.graph.proofs.SearchLaws.{entry_lt, target_lt, reached_lt}

both_ways : (x y : Bool) → (x ≡ true → y ≡ true) → (y ≡ true → x ≡ true) → x ≡ y
both_ways true y on back = sym (on refl)
both_ways false true on back = back refl
both_ways false false on back = refl

-- ---- one edge

-- what a set becomes by an edge: its target comes in, or there is nothing to do
data Taken (s : List ℕ) (e : Edge) : List ℕ → Type 0 where
  more : among s e.source ≡ true → among s e.target ≡ false → Taken s e (e.target ∷ s)
  same : (among s e.source ≡ true → among s e.target ≡ true) → Taken s e s

taken : (s : List ℕ) (e : Edge) → Taken s e (cond (among s e.source && not (among s e.target)) (e.target ∷ s) s)
taken s e = go (among s e.source) refl (among s e.target) refl
  where
    go : (a : Bool) → among s e.source ≡ a → (b : Bool) → among s e.target ≡ b → Taken s e (cond (a && not b) (e.target ∷ s) s)
    go true ea true eb = same (λ is. eb)
    go true ea false eb = more ea eb
    go false ea b eb = same (λ is. absurd (false≢true (sym ea ∙ is)))

-- ---- all edges in turn

-- each edge from the set leads into it
abbrev Closed : List Edge → List ℕ → Type 0
Closed es s = (i : ℕ) → i < length es → among s (get_or es i no_edge).source ≡ true → among s (get_or es i no_edge).target ≡ true

module _ (n : ℕ) (P : ℕ → Type 0) where
  -- what is in the set has P, and none is in it twice
  record Holds (s : List ℕ) : Type 0 where
    each : (b : ℕ) → among s b ≡ true → P b
    once : length s ≡ count (among s) n

  holds_more : (s : List ℕ) (t : ℕ) → P t → t < n → among s t ≡ false → Holds s → Holds (t ∷ s)
  unfolding among
  holds_more s t p h out w =
      record {
        each = λ b is. elim (ℕ_discrete t b) [ yes e ↦ rw (← e) p | no ne ↦ w.each b (rw (ne_eqb t b ne) at is) ];
        once = omega (arith, w.once, count_one (among s) (among (t ∷ s)) n t h out (rw (eq-eqb t t refl) refl) (λ k lt ne. rw (ne_eqb t k (λ e. ne (sym e))) refl));
      }

  along_holds : (es : List Edge) (s : List ℕ)
      → ((i : ℕ) → i < length es → P (get_or es i no_edge).source → P (get_or es i no_edge).target × ((get_or es i no_edge).target < n))
      → Holds s → Holds (along es s)
  unfolding along
  along_holds [] s on w = w
  along_holds (e ∷ es) s on w = along_holds es _ (λ i h. on (suc i) (omega arith)) (go _ (taken s e))
    where
      go : (s' : List ℕ) → Taken s e s' → Holds s'
      go _ (more is out) = let p = on 0 (omega arith) (w.each e.source is) in holds_more s e.target p.0 p.1 out w
      go _ (same k) = w

among-more : (s : List ℕ) (t b : ℕ) → among s b ≡ true → among (t ∷ s) b ≡ true
unfolding among
among-more s t b is = rw is (or-true (eqb t b))

along_keeps : (es : List Edge) (s : List ℕ) (b : ℕ) → among s b ≡ true → among (along es s) b ≡ true
unfolding along
along_keeps [] s b is = is
along_keeps (e ∷ es) s b is = along_keeps es _ b (go _ (taken s e))
  where
    go : (s' : List ℕ) → Taken s e s' → among s' b ≡ true
    go _ (more a out) = among-more s e.target b is
    go _ (same k) = is

along_le : (es : List Edge) (s : List ℕ) → length s ≤ length (along es s)
unfolding along
along_le [] s = omega arith
along_le (e ∷ es) s = go _ (taken s e) (along_le es _)
  where
    go : (s' : List ℕ) → Taken s e s' → length s' ≤ length (along es s') → length s ≤ length (along es s')
    go _ (more a out) h = omega arith
    go _ (same k) h = h

closed_first : (e : Edge) (es : List Edge) (s : List ℕ) → (among s e.source ≡ true → among s e.target ≡ true) → Closed es s → Closed (e ∷ es) s
closed_first e es s k c zero h = k
closed_first e es s k c (suc i) h = c i (omega arith)

along_closed : (es : List Edge) (s : List ℕ) → Closed es s → along es s ≡ s
unfolding along
along_closed [] s c = refl
along_closed (e ∷ es) s c = go _ (taken s e) (along_closed es s (λ i h. c (suc i) (omega arith)))
  where
    go : (s' : List ℕ) → Taken s e s' → along es s ≡ s → along es s' ≡ s
    go _ (more a out) rest = absurd (true≢false (sym (c 0 (omega arith) a) ∙ out))
    go _ (same k) rest = rest

along_or : (es : List Edge) (s : List ℕ) → (Closed es s × (along es s ≡ s)) ⊎ (length s < length (along es s))
unfolding along
along_or [] s = inl (λ i h. absurd (omega arith), refl)
along_or (e ∷ es) s = go _ (taken s e) (along_or es s)
  where
    go : (s' : List ℕ) → Taken s e s' → (Closed es s × (along es s ≡ s)) ⊎ (length s < length (along es s)) → (Closed (e ∷ es) s × (along es s' ≡ s)) ⊎ (length s < length (along es s'))
    go _ (more a out) rest = inr (omega (arith, along_le es (e.target ∷ s)))
    go _ (same k) (inl c) = inl (closed_first e es s k c.0, c.1)
    go _ (same k) (inr grows) = inr grows

-- ---- a list by a test, in rising order

module _ (f : ℕ → Bool) where
  abbrev picked : ℕ → List ℕ
  picked b = cond (f b) (b ∷ []) []

  picked_in : (b n : ℕ) → b < n → f b ≡ true → among (flat picked n) b ≡ true
  unfolding among
  picked_in b n h is = among-flat b picked n ∙ some_at (λ k. among (picked k) b) n b h (rw (is, eq-eqb b b refl) refl)

  picked_is : (b n : ℕ) → among (flat picked n) b ≡ true → f b ≡ true
  unfolding among
  picked_is b n is =
      let k = some_where (λ k. among (picked k) b) n (sym (among-flat b picked n) ∙ is) in
      go (f k.0) k.0 refl k.2
    where
      go : (x : Bool) (k : ℕ) → f k ≡ x → among (cond x (k ∷ []) []) b ≡ true → f b ≡ true
      go true k e is = rw (← eqb-true k b (sym (or-false (eqb k b)) ∙ is)) e
      go false k e is = absurd (false≢true is)

  one_picked : (n k : ℕ) → length (picked n) ≡ k → length (flat picked (suc n)) ≡ length (flat picked n) + k
  unfolding flat
  one_picked n k e = length-append (flat picked n) (picked n) ∙ ap (λ (m : ℕ). length (flat picked n) + m) e

  length_picked : (n : ℕ) → length (flat picked n) ≡ count f n
  unfolding flat count
  length_picked zero = refl
  length_picked (suc n) =
      ⊎_elim
      (λ e. omega (arith, length_picked n, count_yes f n e, one_picked n 1 (rw e)))
      (λ e. omega (arith, length_picked n, count_no f n e, one_picked n 0 (rw e)))
      (decided (f n))

-- ---- the rounds of a graph

module _ (g : Graph) (ends : Ends g) where
  abbrev size : ℕ
  size = length g.blocks

  holds_none : Holds size (Reached g) []
  unfolding among
  holds_none = record { each = λ b is. absurd (false≢true is); once = sym (count_none (among []) size (λ k h. refl)) }

  rounds_hold : (n : ℕ) → Holds size (Reached g) (rounds g n)
  unfolding rounds among
  rounds_hold zero = holds_more size (Reached g) [] g.entry start (entry_lt g ends) refl holds_none
  rounds_hold (suc n) = along_holds size (Reached g) g.edges (rounds g n) (λ e h r. (step e h r, target_lt g ends e h)) (rounds_hold n)

  entry_in : (n : ℕ) → among (rounds g n) g.entry ≡ true
  unfolding rounds among
  entry_in zero = rw (eq-eqb g.entry g.entry refl)
  entry_in (suc n) = along_keeps g.edges (rounds g n) g.entry (entry_in n)

  closed_or_many : (n : ℕ) → Closed g.edges (rounds g n) ⊎ (n < length (rounds g n))
  unfolding rounds
  closed_or_many zero = inr (omega arith)
  closed_or_many (suc n) =
      ⊎_elim
      (λ c. inl (rw (along_closed g.edges (rounds g n) c) c))
      (λ many. ⊎_elim (λ c. inl (rw c.1 c.0)) (λ grows. inr (omega arith)) (along_or g.edges (rounds g n)))
      (closed_or_many n)

  closed : Closed g.edges (rounds g size)
  closed = ⊎_elim (λ c. c) (λ many. absurd (omega (arith, (rounds_hold size).once, count_le (among (rounds g size)) size))) (closed_or_many size)

  in_rounds : {b : ℕ} → Reached g b → among (rounds g size) b ≡ true
  in_rounds start = entry_in size
  in_rounds (step e h r) = closed e h (in_rounds r)

  pub listed : (b : ℕ) → Reached g b → among (reached_blocks g) b ≡ true
  unfolding reached_blocks
  listed b r = picked_in (among (rounds g size)) b size (reached_lt g ends r) (in_rounds r)

  pub listed_reached : (b : ℕ) → among (reached_blocks g) b ≡ true → Reached g b
  unfolding reached_blocks
  listed_reached b is = (rounds_hold size).each b (picked_is (among (rounds g size)) b size is)

  length_listed : length (reached_blocks g) ≡ count (among (rounds g size)) size
  unfolding reached_blocks
  length_listed = length_picked (among (rounds g size)) size

  -- ---- a set that has them

  module _ (w : List ℕ) (f : Finds g w) where
    pub size_listed : size ≤ 1024 → size_of w ≡ length (reached_blocks g)
    size_listed h =
        let whole : 1024 ≡ size + (1024 - size) = omega arith in
        ap (count (member w)) whole
        ∙ count_add (member w) size (1024 - size)
        ∙ ap (λ (k : ℕ). count (member w) size + k) (count_none (λ k. member w (size + k)) (1024 - size) (λ k lt. past (size + k) (omega arith)))
        ∙ add-zero (count (member w) size)
        ∙ count_same (member w) (among (rounds g size)) size (λ b lt. both_ways _ _ (λ is. in_rounds (f.sound b is)) (λ is. f.complete b ((rounds_hold size).each b is)))
        ∙ sym length_listed
      where
        past : (b : ℕ) → size ≤ b → member w b ≡ false
        past b le = ⊎_elim (λ is. absurd (omega (arith, reached_lt g ends (f.sound b is)))) (λ out. out) (decided (member w b))
