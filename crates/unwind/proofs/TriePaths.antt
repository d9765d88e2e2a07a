-- Runs of the steps of a route image: what a path is, what is left of it, and where it is cut.
--     tags_more, tags_append, length_tags            one tag more; two runs
--     steps_more, steps_next, steps_end, steps_append, length_steps     the same of steps
--     path_steps                                     the steps of a path
--     same_next, same_end, same_start                two runs compared from place i on
--     same_step_law, codes_differ, values_differ, steps_agree     two steps by their numbers
--     strip_short, strip-same, strip_other           what is left of a run that another begins; same_run
--     Called, cut_start, cut_on, key_steps_law, cut_enters, cut_over     a run cut from place i on
-- Assumes nothing.
use mathlib.Core.Path.{◌≡◌, refl, sym, ap, ap₂, ◌∙◌}
use mathlib.Core.Bool.{Bool, true, false, cond, ◌&&◌, false≢true}
use mathlib.Core.List.{List, [], ◌∷◌, ◌++◌, map, map-append}
use mathlib.Core.Option.{none, some}
use Prim.Native.Nat.{ℕ, zero, suc, ◌+◌, ◌-◌, ◌≤◌, ◌<◌}
use native.Mathlib.Nat.{add-zero, sub-zero}
use native.Mathlib.Decide.{ℕ_discrete}
use native.Mathlib.Omega.{arith}
use borrow.Author.Tests.{eq-eqb, ne_eqb, eqb-true}
use lib.Dec.{eqb}
use lib.ListN.{length, get_or}
use lib.Seq.{ext_get_or}
use Rattle.image.specs.Image.{RouteImage}
use Rattle.image.specs.Deal.{UnwindStep, funclet, call, step_of}
use Rattle.image.specs.Accepted.{AcceptedRoutes}
use Rattle.image.specs.declared.record.Step.{Step}
use Rattle.graph.specs.Route.{steps_before, path_in}
use Rattle.graph.proofs.RouteLaws.{steps_of, step_of_law}
use Rattle.addition.specs.Trie.{Cut, over, enters, behind, cut}
use Rattle.unwind.specs.Nodes.{step_in, path_record, tags_in}
use Rattle.unwind.specs.Interning.{same_step, strip, steps_in, same_steps}
use Rattle.addition.proofs.Lists.{and_both}

-- ---- two steps by their numbers

module _ (x z : Step) where
  pub codes_differ : x.code ≤ 1 → z.code ≤ 1 → (x.code ≡ z.code → ⊥) → same_step (step_of x) (step_of z) ≡ false
  unfolding step_of
  codes_differ h k ne = go (ℕ_discrete x.code 0) (ℕ_discrete z.code 0)
    where
      go : Dec (x.code ≡ 0) → Dec (z.code ≡ 0) → same_step (step_of x) (step_of z) ≡ false
      go (yes a) (yes b) = absurd (ne (omega arith))
      go (yes a) (no b) = rw (eq-eqb x.code 0 a, ne_eqb z.code 0 b)
      go (no a) (yes b) = rw (ne_eqb x.code 0 a, eq-eqb z.code 0 b)
      go (no a) (no b) = absurd (ne (omega arith))

  same_code : x.code ≡ z.code → same_step (step_of x) (step_of z) ≡ eqb x.value z.value
  unfolding step_of
  same_code e = rw e (go (eqb z.code 0))
    where
      go : (b : Bool) → same_step (cond b (funclet x.value) (call x.value)) (cond b (funclet z.value) (call z.value)) ≡ eqb x.value z.value
      go true = refl
      go false = refl

  pub values_differ : x.code ≡ z.code → (x.value ≡ z.value → ⊥) → same_step (step_of x) (step_of z) ≡ false
  values_differ e ne = same_code e ∙ ne_eqb x.value z.value ne

  pub steps_agree : x.code ≡ z.code → x.value ≡ z.value → same_step (step_of x) (step_of z) ≡ true
  steps_agree e f = same_code e ∙ eq-eqb x.value z.value f

pub same_step_law : (x y : UnwindStep) → same_step x y ≡ true → x ≡ y
same_step_law (funclet a) (funclet b) e = ap funclet (eqb-true a b e)
same_step_law (funclet a) (call b) e = absurd (false≢true e)
same_step_law (call a) (funclet b) e = absurd (false≢true e)
same_step_law (call a) (call b) e = ap call (eqb-true a b e)

-- ---- cuts behind calls

abbrev upon : List ℕ → Cut → Cut
upon [] k = k
upon (c ∷ l) k = behind c (upon l k)

upon_behind : (l : List ℕ) (c : ℕ) (k : Cut) → upon (l ++ (c ∷ [])) k ≡ upon l (behind c k)
upon_behind [] c k = refl
upon_behind (d ∷ l) c k = ap (behind d) (upon_behind l c k)

upon_over : (l : List ℕ) → upon l (over []) ≡ over l
unfolding behind
upon_over [] = refl
upon_over (c ∷ l) = rw (upon_over l)

upon_enters : (l : List ℕ) (f : ℕ) (s : List UnwindStep) → upon l (enters [] f s) ≡ enters l f s
unfolding behind
upon_enters [] f s = refl
upon_enters (c ∷ l) f s = rw (upon_enters l f s)

module _ (m : RouteImage) where
  -- ---- runs

  pub tags_append : (a n k : ℕ) → tags_in m a (n + k) ≡ tags_in m a n ++ tags_in m (a + n) k
  unfolding tags_in
  tags_append a zero k = let e : 0 + k ≡ k = omega arith in let f : a + 0 ≡ a = omega arith in rw (e, f)
  tags_append a (suc n) k =
      let e : suc n + k ≡ suc (n + k) = omega arith in
      let f : a + suc n ≡ suc a + n = omega arith in
      rw (e, f) (ap (λ (t : List ℕ). (step_in m a).value ∷ t) (tags_append (suc a) n k))

  pub length_tags : (a n : ℕ) → length (tags_in m a n) ≡ n
  unfolding tags_in
  length_tags a zero = refl
  length_tags a (suc n) = ap suc (length_tags (suc a) n)

  pub tags_more : (a i : ℕ) → tags_in m a (i + 1) ≡ tags_in m a i ++ ((step_in m (a + i)).value ∷ [])
  unfolding tags_in
  tags_more a i = tags_append a i 1

  pub steps_append : (a n k : ℕ) → steps_in m a (n + k) ≡ steps_in m a n ++ steps_in m (a + n) k
  unfolding steps_in
  steps_append a zero k = let e : 0 + k ≡ k = omega arith in let f : a + 0 ≡ a = omega arith in rw (e, f)
  steps_append a (suc n) k =
      let e : suc n + k ≡ suc (n + k) = omega arith in
      let f : a + suc n ≡ suc a + n = omega arith in
      rw (e, f) (ap (λ (t : List UnwindStep). step_of (step_in m a) ∷ t) (steps_append (suc a) n k))

  pub steps_more : (a i : ℕ) → steps_in m a (i + 1) ≡ steps_in m a i ++ (step_of (step_in m (a + i)) ∷ [])
  unfolding steps_in
  steps_more a i = steps_append a i 1

  pub length_steps : (a n : ℕ) → length (steps_in m a n) ≡ n
  unfolding steps_in
  length_steps a zero = refl
  length_steps a (suc n) = ap suc (length_steps (suc a) n)

  get_or_steps : (a n i : ℕ) (d : UnwindStep) → i < n → get_or (steps_in m a n) i d ≡ step_of (step_in m (a + i))
  unfolding steps_in
  get_or_steps a zero i d h = absurd (omega arith)
  get_or_steps a (suc n) zero d h = let e : a + 0 ≡ a = omega arith in rw e
  get_or_steps a (suc n) (suc i) d h = let e : a + suc i ≡ suc a + i = omega arith in rw e (get_or_steps (suc a) n i d (omega arith))

  -- ---- from place i on

  module _ (a n i : ℕ) where
    pub steps_next : i < n → steps_in m (a + i) (n - i) ≡ step_of (step_in m (a + i)) ∷ steps_in m (a + (i + 1)) (n - (i + 1))
    unfolding steps_in
    steps_next h =
        let size : n - i ≡ suc (n - (i + 1)) = omega arith in
        let next : a + (i + 1) ≡ suc (a + i) = omega arith in
        rw (size, next)

    pub steps_end : n ≤ i → steps_in m (a + i) (n - i) ≡ []
    unfolding steps_in
    steps_end h = let none : n - i ≡ 0 = omega arith in rw none

  module _ (a b n i : ℕ) where
    pub same_next : i < n → same_steps m (a + i) (b + i) (n - i) ≡ (same_step (step_of (step_in m (a + i))) (step_of (step_in m (b + i))) && same_steps m (a + (i + 1)) (b + (i + 1)) (n - (i + 1)))
    unfolding same_steps
    same_next h =
        let size : n - i ≡ suc (n - (i + 1)) = omega arith in
        let next : a + (i + 1) ≡ suc (a + i) = omega arith in
        let next' : b + (i + 1) ≡ suc (b + i) = omega arith in
        rw (size, next, next')

    pub same_end : n ≤ i → same_steps m (a + i) (b + i) (n - i) ≡ true
    unfolding same_steps
    same_end h = let none : n - i ≡ 0 = omega arith in rw none

  pub same_start : (a b n : ℕ) → same_steps m (a + 0) (b + 0) (n - 0) ≡ same_steps m a b n
  same_start a b n = simp (add-zero, sub-zero)

  -- ---- what is left of a run that another begins

  pub same_run : (a b n : ℕ) → same_steps m a b n ≡ true → steps_in m b n ≡ steps_in m a n
  unfolding same_steps steps_in
  same_run a b zero e = refl
  same_run a b (suc n) e =
      let p = and_both _ (same_steps m (suc a) (suc b) n) e in
      ap₂ ◌∷◌ (sym (same_step_law _ _ p.0)) (same_run (suc a) (suc b) n p.1)

  pub strip_short : (a b d n : ℕ) → n < d → strip (steps_in m a d) (steps_in m b n) ≡ none
  unfolding strip steps_in
  strip_short a b zero n h = absurd (omega arith)
  strip_short a b (suc d) zero h = refl
  strip_short a b (suc d) (suc n) h = go (same_step (step_of (step_in m a)) (step_of (step_in m b))) (strip_short (suc a) (suc b) d n (omega arith))
    where
      go : (t : Bool) → strip (steps_in m (suc a) d) (steps_in m (suc b) n) ≡ none → cond t (strip (steps_in m (suc a) d) (steps_in m (suc b) n)) none ≡ none
      go true e = e
      go false e = refl

  pub strip-same : (a b d n : ℕ) → d ≤ n → same_steps m a b d ≡ true → strip (steps_in m a d) (steps_in m b n) ≡ some (steps_in m (b + d) (n - d))
  unfolding strip steps_in same_steps
  strip-same a b zero n h e = simp (add-zero, sub-zero)
  strip-same a b (suc d) zero h e = absurd (omega arith)
  strip-same a b (suc d) (suc n) h e =
      let p = and_both (same_step (step_of (step_in m a)) (step_of (step_in m b))) (same_steps m (suc a) (suc b) d) e in
      let f : b + suc d ≡ suc b + d = omega arith in
      let g : suc n - suc d ≡ n - d = omega arith in
      rw (p.0, f, g) (strip-same (suc a) (suc b) d n (omega arith) p.1)

  pub strip_other : (a b d n : ℕ) → d ≤ n → same_steps m a b d ≡ false → strip (steps_in m a d) (steps_in m b n) ≡ none
  unfolding strip steps_in same_steps
  strip_other a b zero n h e = absurd (false≢true (sym e))
  strip_other a b (suc d) zero h e = absurd (omega arith)
  strip_other a b (suc d) (suc n) h e = go (same_step (step_of (step_in m a)) (step_of (step_in m b))) e (strip_other (suc a) (suc b) d n (omega arith))
    where
      go : (t : Bool) → (t && same_steps m (suc a) (suc b) d) ≡ false → (same_steps m (suc a) (suc b) d ≡ false → strip (steps_in m (suc a) d) (steps_in m (suc b) n) ≡ none) → cond t (strip (steps_in m (suc a) d) (steps_in m (suc b) n)) none ≡ none
      go true e below = below e
      go false e below = refl

  -- ---- a run cut from place i on: those before it are calls

  module _ (a n : ℕ) where
    pub record Called (i : ℕ) : Type 0 where
      pub cuts : cut (steps_in m a n) ≡ upon (tags_in m a i) (cut (steps_in m (a + i) (n - i)))
      pub calls : steps_in m a i ≡ map call (tags_in m a i)

    pub cut_start : Called 0
    unfolding steps_in tags_in
    cut_start = record { cuts = simp (add-zero, sub-zero); calls = refl }

    module _ (i : ℕ) (h : i < n) (so_far : Called i) where
      pub cut_on : ((step_in m (a + i)).code ≡ 0 → ⊥) → Called (i + 1)
      unfolding cut step_of
      cut_on ne =
          let is_call : step_of (step_in m (a + i)) ≡ call (step_in m (a + i)).value = rw (ne_eqb (step_in m (a + i)).code 0 ne) in
          record {
            cuts =
                so_far.cuts
                ∙ rw (steps_next a n i h, is_call, tags_more a i)
                (sym (upon_behind (tags_in m a i) (step_in m (a + i)).value (cut (steps_in m (a + (i + 1)) (n - (i + 1))))));
            calls =
                steps_more a i
                ∙ rw (is_call, so_far.calls, tags_more a i) (sym (map-append call (tags_in m a i) ((step_in m (a + i)).value ∷ [])));
          }

      is_funclet : (step_in m (a + i)).code ≡ 0 → step_of (step_in m (a + i)) ≡ funclet (step_in m (a + i)).value
      unfolding step_of
      is_funclet e = rw (eq-eqb (step_in m (a + i)).code 0 e)

      pub cut_enters : (step_in m (a + i)).code ≡ 0 → cut (steps_in m a n) ≡ enters (tags_in m a i) (step_in m (a + i)).value (steps_in m (a + i + 1) (n - (i + 1)))
      unfolding cut
      cut_enters e =
          let next : a + i + 1 ≡ a + (i + 1) = omega arith in
          so_far.cuts
          ∙ rw (steps_next a n i h, is_funclet e, next)
          (upon_enters (tags_in m a i) (step_in m (a + i)).value (steps_in m (a + (i + 1)) (n - (i + 1))))

      pub key_steps_law : (step_in m (a + i)).code ≡ 0 → steps_in m a (i + 1) ≡ map call (tags_in m a i) ++ funclet (step_in m (a + i)).value ∷ []
      key_steps_law e = steps_more a i ∙ rw (is_funclet e, so_far.calls)

    pub cut_over : (i : ℕ) → n ≤ i → i ≤ n → Called i → cut (steps_in m a n) ≡ over (tags_in m a n)
    unfolding cut
    cut_over i h k so_far = let e : i ≡ n = omega arith in so_far.cuts ∙ rw (steps_end a n i h, e) (upon_over (tags_in m a n))

  -- ---- the steps of a path

  module _ (ok : AcceptedRoutes m) where
    pub path_steps : (p : ℕ) → p < length m.paths → (path_in m p).steps ≡ steps_in m (steps_before m p) (path_record m p).steps
    path_steps p h =
        let size = steps_of m ok p h in
        ext_get_or (call 0) _ _ (size ∙ sym (length_steps (steps_before m p) (path_record m p).steps))
        (λ i lt. let k : i < (path_record m p).steps = omega arith in step_of_law m ok p h i k ∙ sym (get_or_steps (steps_before m p) (path_record m p).steps i (call 0) k))
