-- Sets of blocks, and the rising lists that they have: the numbers below n of which a test holds.
--     keep_append, kept_more, none_kept     a list more, a number more, and none
--     among_kept, length_kept, rank_kept       which numbers, how many, and how many stand before one
--     keep_kept                    the kept ones of a rising list
--     Rises, part_kept, keep_rises, guarded_kept     parts, what is kept of them, and guarded blocks are such lists
--     returns_has                  the set of those that return has the kept list
--     has_lt, below_has, size_has, rank_has   a set that has such a list: as many blocks, and as many below one
-- Assumes nothing.
use mathlib.Core.Path.{◌≡◌, refl, sym, ap, ◌∙◌}
use mathlib.Core.Bool.{Bool, true, false, cond, ◌&&◌, ◌||◌, false≢true, and-false, or-false}
use mathlib.Core.Logic.{⊎_elim}
use mathlib.Core.List.{List, [], ◌∷◌, ◌++◌}
use Prim.Native.Nat.{ℕ, zero, suc, ◌+◌, ◌-◌, ◌≤◌, ◌<◌}
use native.Mathlib.Nat.{not-suc-le-zero}
use native.Mathlib.Decide.{dec_lt, ℕ_discrete}
use native.Mathlib.Omega.{arith}
use borrow.Author.Tests.{eq-eqb, ne_eqb, lt-ltb, le-ltb, ltb-true}
use lib.Dec.{eqb, ltb}
use lib.ListN.{length, length-append}
use Rattle.image.specs.Deal.{UnwindRoute}
use Rattle.graph.specs.Graph.{Graph}
use Rattle.graph.specs.Fold.{count, among}
use Rattle.graph.specs.BlockSet.{member, size_of}
use Rattle.graph.specs.WellFormed.{is_built}
use Rattle.graph.proofs.FoldLaws.{decided, among_append, count_yes, count_no, count_same, count_none, count_add}
use Rattle.addition.specs.Lists.{keep, upto, rank}
use Rattle.addition.specs.Blocks.{built_blocks, guarded}
use Rattle.addition.specs.Part.{onward, round, rounds, part, returning}
use Rattle.unwind.specs.Stands.{Has}
use Rattle.unwind.specs.PartSearch.{Returns}
use Rattle.addition.proofs.Lists.{and_both, and_true, both_ways, mem_keep, keep_mem, mem_among, among_mem}

module _ {A : Type 0} where
  pub keep_append : (f : A → Bool) (l m : List A) → keep f (l ++ m) ≡ keep f l ++ keep f m
  unfolding keep
  keep_append f [] m = refl
  keep_append f (x ∷ l) m = go (f x) (keep_append f l m)
    where
      go : (t : Bool) → keep f (l ++ m) ≡ keep f l ++ keep f m → cond t (x ∷ keep f (l ++ m)) (keep f (l ++ m)) ≡ cond t (x ∷ keep f l) (keep f l) ++ keep f m
      go true rest = ap (λ (r : List A). x ∷ r) rest
      go false rest = rest

  pub keep_kept : (f p : A → Bool) (l : List A) → keep f (keep p l) ≡ keep (λ (x : A). p x && f x) l
  unfolding keep
  keep_kept f p [] = refl
  keep_kept f p (x ∷ l) = go (p x) (f x) refl (keep_kept f p l)
    where
      go : (a b : Bool) → f x ≡ b → keep f (keep p l) ≡ keep (λ (x : A). p x && f x) l → keep f (cond a (x ∷ keep p l) (keep p l)) ≡ cond (a && b) (x ∷ keep (λ (x : A). p x && f x) l) (keep (λ (x : A). p x && f x) l)
      go true true e rest = rw e (ap (λ (r : List A). x ∷ r) rest)
      go true false e rest = rw e rest
      go false b e rest = rest

  pub none_kept : (l : List A) → keep (λ (x : A). false) l ≡ []
  unfolding keep
  none_kept [] = refl
  none_kept (x ∷ l) = none_kept l

module _ (p : ℕ → Bool) where
  abbrev pub kept : ℕ → List ℕ
  kept n = keep p (upto n)

  pub kept_more : (n : ℕ) → kept (suc n) ≡ kept n ++ cond (p n) (n ∷ []) []
  unfolding upto keep
  kept_more n = keep_append p (upto n) (n ∷ [])

  -- the last number
  one_more : (n b : ℕ) → among (cond (p n) (n ∷ []) []) b ≡ (eqb n b && p n)
  unfolding among
  one_more n b = go (p n)
    where
      go : (t : Bool) → among (cond t (n ∷ []) []) b ≡ (eqb n b && t)
      go true = or-false (eqb n b) ∙ sym (and_right (eqb n b))
        where
          and_right : (x : Bool) → (x && true) ≡ x
          and_right true = refl
          and_right false = refl
      go false = sym (and-false (eqb n b))

  pub among_kept : (n b : ℕ) → among (kept n) b ≡ (ltb b n && p b)
  unfolding upto keep among
  among_kept zero b = rw (le-ltb b 0 (omega arith))
  among_kept (suc n) b =
      ap (λ (l : List ℕ). among l b) (kept_more n) ∙ among_append b (kept n) _ ∙ rw (among_kept n b, one_more n b) (go (ℕ_discrete n b))
    where
      go : Dec (n ≡ b) → ((ltb b n && p b) || (eqb n b && p n)) ≡ (ltb b (suc n) && p b)
      go (yes e) = rw (← e, le-ltb n n (omega arith), eq-eqb n n refl, lt-ltb n (suc n) (omega arith))
      go (no ne) =
          rw (ne_eqb n b ne)
          (elim (dec_lt b n) [
            | yes lt ↦ rw (lt-ltb b n lt, lt-ltb b (suc n) (omega arith)) (or-false (p b))
            | no ge ↦ rw (le-ltb b n (omega arith), le-ltb b (suc n) (omega arith))
          ])

  length_more : (n k : ℕ) → length (cond (p n) (n ∷ []) []) ≡ k → length (kept (suc n)) ≡ length (kept n) + k
  length_more n k e = ap length (kept_more n) ∙ length-append (kept n) _ ∙ ap (λ (m : ℕ). length (kept n) + m) e

  pub length_kept : (n : ℕ) → length (kept n) ≡ count p n
  unfolding upto keep count
  length_kept zero = refl
  length_kept (suc n) =
      ⊎_elim
      (λ e. omega (arith, length_kept n, count_yes p n e, length_more n 1 (rw e)))
      (λ e. omega (arith, length_kept n, count_no p n e, length_more n 0 (rw e)))
      (decided (p n))

  rank_front : (b : ℕ) (l m : List ℕ) → among l b ≡ true → rank b (l ++ m) ≡ rank b l
  unfolding among rank
  rank_front b [] m e = absurd (false≢true e)
  rank_front b (x ∷ l) m e =
      elim (ℕ_discrete b x) [
        | yes same ↦ rw (eq-eqb b x same)
        | no ne ↦ rw (ne_eqb b x ne) (ap suc (rank_front b l m (rw (ne_eqb x b (λ q. ne (sym q))) at e)))
      ]

  rank-behind : (b : ℕ) (l m : List ℕ) → among l b ≡ false → rank b (l ++ (b ∷ m)) ≡ length l
  unfolding among rank
  rank-behind b [] m e = rw (eq-eqb b b refl)
  rank-behind b (x ∷ l) m e =
      elim (ℕ_discrete b x) [
        | yes same ↦ absurd (false≢true (sym e ∙ rw (eq-eqb x b (sym same))))
        | no ne ↦ rw (ne_eqb b x ne) (ap suc (rank-behind b l m (rw (ne_eqb x b (λ q. ne (sym q))) at e)))
      ]

  pub rank_kept : (n b : ℕ) → b < n → p b ≡ true → rank b (kept n) ≡ count p b
  rank_kept zero b h is = absurd (not-suc-le-zero h)
  rank_kept (suc n) b h is =
      elim (ℕ_discrete b n) [
        | yes e ↦
            rw e (ap (rank n) (kept_more n ∙ rw (rw e at is) refl) ∙ rank-behind n (kept n) [] (among_kept n n ∙ rw (le-ltb n n (omega arith))) ∙ length_kept n)
        | no ne ↦
            ap (rank b) (kept_more n)
            ∙ rank_front b (kept n) _ (among_kept n b ∙ rw (lt-ltb b n (omega arith)) is)
            ∙ rank_kept n b (omega arith) is
      ]

-- ---- which lists are such

-- a list of numbers below n that rise
pub record Rises (n : ℕ) (l : List ℕ) : Type 0 where
  pub test : ℕ → Bool
  pub is : l ≡ keep test (upto n)

pub part_kept : (g : Graph) (fs : List ℕ) (f e : ℕ) → Rises (length g.blocks) (part g fs f e)
unfolding part rounds round
part_kept g fs f e = go (length g.blocks)
  where
    go : (k : ℕ) → Rises (length g.blocks) (rounds g fs f e k)
    go zero = record { test = λ b. false; is = sym (none_kept (upto (length g.blocks))) }
    go (suc k) = record { test = λ b. eqb b e || among (rounds g fs f e k) b || among (onward g fs f (rounds g fs f e k)) b; is = refl }

pub keep_rises : (n : ℕ) (l : List ℕ) (f : ℕ → Bool) → Rises n l → Rises n (keep f l)
keep_rises n l f r = record { test = λ b. r.test b && f b; is = ap (keep f) r.is ∙ keep_kept f r.test (upto n) }

pub guarded_kept : (g : Graph) (r : UnwindRoute) → Rises (length g.blocks) (guarded g r)
unfolding guarded built_blocks
guarded_kept g r = keep_rises (length g.blocks) _ _ (record { test = is_built g; is = refl })

-- ---- a set that has a list

among-keep : (f : ℕ → Bool) (l : List ℕ) (b : ℕ) → among (keep f l) b ≡ (among l b && f b)
among-keep f l b =
    both_ways _ _
    (λ e. let x = keep_mem f l (among_mem (keep f l) b e) in and_true (mem_among x.0) x.1)
    (λ e. let x = and_both (among l b) (f b) e in mem_among (mem_keep f (among_mem l b x.0) x.1))

pub returns_has : (g : Graph) (l w r : List ℕ) → Has w l → Returns g w r → Has r (keep (returning g) l)
returns_has g l w r has x b = x.those b ∙ rw (has b) (sym (among-keep (returning g) l b))

module _ (n : ℕ) (few : n ≤ 1024) (l : List ℕ) (r : Rises n l) (w : List ℕ) (has : Has w l) where
  member_is : (b : ℕ) → member w b ≡ (ltb b n && r.test b)
  member_is b = has b ∙ ap (λ (k : List ℕ). among k b) r.is ∙ among_kept r.test n b

  pub has_lt : (b : ℕ) → member w b ≡ true → b < n
  has_lt b m = ltb-true b n (and_both (ltb b n) (r.test b) (sym (member_is b) ∙ m)).0

  pub below_has : count (member w) n ≡ length l
  below_has = count_same (member w) r.test n (λ b h. member_is b ∙ rw (lt-ltb b n h)) ∙ sym (length_kept r.test n) ∙ ap length (sym r.is)

  pub size_has : size_of w ≡ length l
  size_has =
      let rest : 1024 ≡ n + (1024 - n) = omega arith in
      omega (
        arith,
        ap (count (member w)) rest,
        count_add (member w) n (1024 - n),
        count_none (λ (k : ℕ). member w (n + k)) (1024 - n) (λ k h. member_is (n + k) ∙ rw (le-ltb (n + k) n (omega arith))),
        below_has,
      )

  pub rank_has : (b : ℕ) → member w b ≡ true → count (member w) b ≡ rank b l
  rank_has b m =
      let x = and_both (ltb b n) (r.test b) (sym (member_is b) ∙ m) in
      let h = ltb-true b n x.0 in
      count_same (member w) r.test b (λ k lt. member_is k ∙ rw (lt-ltb k n (omega arith)))
      ∙ sym (ap (rank b) r.is ∙ rank_kept r.test n b h x.1)
