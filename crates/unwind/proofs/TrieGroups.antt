-- What is left of a group's paths behind the calls and the funclet of a key, and how much the rest may still store.
--     strip_append, strip_key          steps that begin with others, one behind the other; with those of a key
--     flat-part                        lists one behind the other of which the first and the last ones are empty
--     rest-left, rest_paths            the group behind a key has the paths that are left
--     sum_of, ahead, steps_ahead, paths_ahead     how many steps and paths there are whose key comes after `last`
--     steps_start, paths_start, steps_step, paths_step     none is passed, and one key more
--     rest_some, paths_few             something is left of a key's paths; a group has no more paths than it counts
-- Assumes nothing.
use mathlib.Core.Path.{◌≡◌, refl, sym, ap, ap₂, ◌∙◌}
use mathlib.Core.Bool.{Bool, true, false, cond}
use mathlib.Core.List.{List, [], ◌∷◌, ◌++◌, map, append-nil}
use mathlib.Core.Logic.{◌⊎◌, inl, inr, ⊎_elim}
use mathlib.Core.Option.{Option, none, some}
use Prim.Native.Nat.{ℕ, zero, suc, ◌+◌, ◌-◌, ◌≤◌, ◌<◌, compare, Ordering}
use native.Mathlib.Decide.{dec_lt}
use native.Mathlib.Omega.{arith}
use lib.Dec.{eqb, compare_is_eq}
use lib.ListN.{length, length-append}
use Rattle.image.specs.Image.{RouteImage}
use Rattle.image.specs.Deal.{UnwindStep, funclet, call, UnwindEnd, UnwindPath}
use Rattle.graph.specs.Fold.{flat}
use Rattle.graph.specs.Route.{path_in}
use Rattle.graph.proofs.FoldLaws.{flat-none, flat-same}
use Rattle.unwind.specs.declared.tries.paths.Group.{Group}
use Rattle.unwind.specs.declared.tries.keys.Key.{Key}
use Rattle.addition.specs.Lists.{joined}
use Rattle.addition.specs.Order.{Tagged, tagged, ◌and_then◌, compare_tags, compare_tagged}
use Rattle.addition.specs.Trie.{Cut, over, enters, behind, cut, end_on, group_on, groups, rest_on, rest}
use Rattle.addition.specs.Walk.{◌∈◌}
use Rattle.unwind.specs.Interning.{is_lt, after, same_step, strip, left_with, steps_in, left_at, paths_of}
use Rattle.unwind.specs.Keys.{key_steps, keys_of, key_in, Stands, Spans}
use Rattle.unwind.specs.Laid.{ends_list}
use Rattle.unwind.specs.Interns.{weight, group_behind}
use Rattle.addition.proofs.Lists.{none_in}
use Rattle.addition.proofs.Order.{mem_sorted}
use Rattle.addition.proofs.Paths.{exact_key, enters_path, groups_mem}
use Rattle.unwind.proofs.TrieOrder.{total_key, self_eq, eq_same, is_lt_law}
use Rattle.unwind.proofs.TriePaths.{steps_append}
use Rattle.unwind.proofs.TrieKeys.{joined-flat, joined_one}

abbrev order : Tagged ℕ → Tagged ℕ → Ordering
order = compare_tagged compare

-- ---- steps that begin with others

abbrev stripped : List UnwindStep → Option (List UnwindStep) → Option (List UnwindStep)
stripped q none = none
stripped q (some s) = strip q s

pub strip_append : (p q s : List UnwindStep) → strip (p ++ q) s ≡ stripped q (strip p s)
unfolding strip
strip_append [] q s = refl
strip_append (x ∷ p) q [] = refl
strip_append (x ∷ p) q (y ∷ s) = go (same_step x y) (strip_append p q s)
  where
    go : (b : Bool) → strip (p ++ q) s ≡ stripped q (strip p s) → cond b (strip (p ++ q) s) none ≡ stripped q (cond b (strip p s) none)
    go true e = e
    go false e = refl

module _ (f : ℕ) (e : UnwindEnd) where
  left-cond : (b : Bool) (s : List UnwindStep) → cond b (record { steps = s; end = e } ∷ []) [] ≡ left_with e (cond b (some s) none)
  left-cond true s = refl
  left-cond false s = refl

  none-cond : (b : Bool) (o : Option (List UnwindStep)) → left_with e o ≡ [] → [] ≡ left_with e (cond b o none)
  none-cond true o p = sym p
  none-cond false o p = refl

  strip_key : (l : List ℕ) (s : List UnwindStep) → rest_on (tagged l f) (cut s) e ≡ left_with e (strip (key_steps (tagged l f)) s)
  unfolding rest_on cut behind strip compare_tagged compare_tags ◌and_then◌
  strip_key [] [] = refl
  strip_key [] (funclet g ∷ s) = left-cond (eqb f g) s
  strip_key [] (call c ∷ s) = go (cut s)
    where
      go : (k : Cut) → rest_on (tagged [] f) (behind c k) e ≡ []
      go (over l) = refl
      go (enters l g u) = refl
  strip_key (x ∷ l) [] = refl
  strip_key (x ∷ l) (funclet g ∷ s) = refl
  strip_key (x ∷ l) (call c ∷ s) = go (cut s) (compare x c) refl (strip_key l s)
    where
      rest_of : Option (List UnwindStep)
      rest_of = strip (key_steps (tagged l f)) s

      go : (k : Cut) (o : Ordering) → compare x c ≡ o → rest_on (tagged l f) k e ≡ left_with e rest_of → rest_on (tagged (x ∷ l) f) (behind c k) e ≡ left_with e (cond (eqb x c) rest_of none)
      go (over l') o p below = none-cond (eqb x c) rest_of (sym below)
      go (enters l' g u) Ordering.lt p below = rw p
      go (enters l' g u) Ordering.eq p below = rw p below
      go (enters l' g u) Ordering.gt p below = rw p

  pub rest-left : (k : Tagged ℕ) (o : Option (List UnwindStep)) → k.what ≡ f → joined (λ (p : UnwindPath). rest_on k (cut p.steps) p.end) (left_with e o) ≡ left_with e (stripped (key_steps k) o)
  unfolding joined
  rest-left k none w = refl
  rest-left k (some s) w = joined_one (λ (p : UnwindPath). rest_on k (cut p.steps) p.end) _ ∙ rw w (strip_key k.calls s)

-- what is left behind a key of paths that have another, or none
left_others : (e : UnwindEnd) (x : Tagged ℕ) (o : Option (List UnwindStep)) → (keys_of (left_with e o) ≡ x ∷ [] → ⊥) → joined (λ (p : UnwindPath). rest_on x (cut p.steps) p.end) (left_with e o) ≡ []
unfolding keys_of joined group_on rest_on
left_others e x none other = refl
left_others e x (some s) other = rw append-nil (go (cut s) (λ k. other (append-nil (group_on (cut s)) ∙ k)))
  where
    go : (k : Cut) → (group_on k ≡ x ∷ [] → ⊥) → rest_on x k e ≡ []
    go (over l) apart = refl
    go (enters l f u) apart = tell (order x (tagged l f)) refl
      where
        tell : (o : Ordering) → order x (tagged l f) ≡ o → cond {A = List UnwindPath} (compare_is_eq (order x (tagged l f))) (record { steps = u; end = e } ∷ []) [] ≡ []
        tell Ordering.lt q = rw q
        tell Ordering.eq q = absurd (apart (ap (λ (y : Tagged ℕ). y ∷ []) (sym (eq_same order total_key x (tagged l f) q))))
        tell Ordering.gt q = rw q

-- of lists one behind the other, those from b on: the others are empty
flat-part : {A : Type 0} (f : ℕ → List A) (a b n k : ℕ) → a ≤ b → b + k ≤ a + n → ((i : ℕ) → i < n → (a + i < b) ⊎ (b + k ≤ a + i) → f (a + i) ≡ []) → flat (λ i. f (a + i)) n ≡ flat (λ i. f (b + i)) k
unfolding flat
flat-part f a b zero zero low high empty = refl
flat-part f a b zero (suc k) low high empty = absurd (omega arith)
flat-part f a b (suc n) zero low high empty = flat-none (λ i. f (a + i)) (suc n) (λ i h. elim (dec_lt (a + i) b) [
  | yes lt ↦ empty i h (inl lt)
  | no ge ↦ empty i h (inr (omega arith))
])
flat-part {A} f a b (suc n) (suc k) low high empty = elim (dec_lt (b + suc k) (a + suc n)) [
  | yes lt ↦
      rw (empty n (omega arith) (inr (omega arith)))
      (append-nil (flat (λ i. f (a + i)) n) ∙ flat-part f a b n (suc k) low (omega arith) (λ i h. empty i (omega arith)))
  | no ge ↦
      let same : a + n ≡ b + k = omega arith in
      ap₂ (λ (l r : List A). l ++ r) (flat-part f a b n k low (omega arith) (λ i h out. empty i (omega arith) (⊎_elim (λ lt. inl lt) (λ le. inr (omega arith)) out))) (ap f same)
]

-- ---- the group behind a key

module _ (m : RouteImage) (g : Group) (key : Key) (stands : Stands m g key) where
  prefix : steps_in m (group_behind g key).from (group_behind g key).depth ≡ steps_in m g.from g.depth ++ key_steps (key_in m key)
  unfolding group_behind
  prefix =
      let size : g.depth + key.calls + 1 ≡ g.depth + (key.calls + 1) = omega arith in
      let back : key.step - g.depth + g.depth ≡ key.step = omega (arith, stands.behind) in
      rw (size, steps_append m (key.step - g.depth) g.depth (key.calls + 1), back, stands.begins, stands.steps)

  rest_at : (q : ℕ) → joined (λ (p : UnwindPath). rest_on (key_in m key) (cut p.steps) p.end) (left_at m g q) ≡ left_at m (group_behind g key) q
  unfolding left_at
  rest_at q =
      rest-left (key_in m key).what (path_in m q).end (key_in m key) (strip (steps_in m g.from g.depth) (path_in m q).steps) refl
      ∙ rw prefix (ap (left_with (path_in m q).end) (sym (strip_append (steps_in m g.from g.depth) (key_steps (key_in m key)) (path_in m q).steps)))

  -- a path with another key, or none, is not among them
  not_behind : (q : ℕ) → (keys_of (left_at m g q) ≡ key_in m key ∷ [] → ⊥) → left_at m (group_behind g key) q ≡ []
  unfolding left_at
  not_behind q other = sym (rest_at q) ∙ left_others (path_in m q).end (key_in m key) (strip (steps_in m g.from g.depth) (path_in m q).steps) other

  module _ (spans : Spans m g g.count key) where
    pub rest_paths : rest (key_in m key) (paths_of m g) ≡ paths_of m (group_behind g key)
    unfolding rest paths_of group_behind
    rest_paths =
        joined-flat (λ (p : UnwindPath). rest_on (key_in m key) (cut p.steps) p.end) (λ k. left_at m g (g.first + k)) g.count
        ∙ flat-same _ _ g.count (λ k h. rest_at (g.first + k))
        ∙ flat-part (left_at m (group_behind g key)) g.first key.first g.count (key.last - key.first + 1) spans.low (omega (arith, spans.mid, spans.high))
        (λ i h out. not_behind (g.first + i) (λ e. outside i (spans.all i h e) out))
      where
        outside : (i : ℕ) → (key.first ≤ g.first + i) × (g.first + i ≤ key.last) → (g.first + i < key.first) ⊎ (key.first + (key.last - key.first + 1) ≤ g.first + i) → ⊥
        outside i within (inl h) = omega (arith, within.0)
        outside i within (inr h) = omega (arith, within.1, spans.mid)

-- ---- how much the paths behind `last` count for

pub sum_of : (UnwindPath → ℕ) → List UnwindPath → ℕ
sum_of φ [] = 0
sum_of φ (p ∷ ps) = φ p + sum_of φ ps

abbrev ahead_on : Option (Tagged ℕ) → ℕ → Cut → ℕ
ahead_on last n (over l) = 0
ahead_on last n (enters l f s) = cond (after order last (tagged l f)) n 0

pub ahead : (UnwindPath → ℕ) → Option (Tagged ℕ) → List UnwindPath → ℕ
ahead φ last [] = 0
ahead φ last (p ∷ ps) = ahead_on last (φ p) (cut p.steps) + ahead φ last ps

sum_append : (φ : UnwindPath → ℕ) (l k : List UnwindPath) → sum_of φ (l ++ k) ≡ sum_of φ l + sum_of φ k
unfolding sum_of
sum_append φ [] k = omega arith
sum_append φ (p ∷ l) k = omega (arith, sum_append φ l k)

-- what is left of a path counts for no more than the path
abbrev Covers : (UnwindPath → ℕ) → (UnwindPath → ℕ) → Type 0
Covers φ ψ = (p : UnwindPath) (l : List ℕ) (f : ℕ) (s : List UnwindStep) → cut p.steps ≡ enters l f s → ψ (record { steps = s; end = p.end }) ≤ φ p

module _ (φ ψ : UnwindPath → ℕ) (covers : Covers φ ψ) (last : Option (Tagged ℕ)) (x : Tagged ℕ) (behind : after order last x ≡ true) where
  step_one : (p : UnwindPath) (k : Cut) → cut p.steps ≡ k → ahead_on (some x) (φ p) k + sum_of ψ (rest_on x k p.end) ≤ ahead_on last (φ p) k
  unfolding sum_of rest_on
  step_one p (over l) e = omega arith
  step_one p (enters l f s) e = go (order x (tagged l f)) refl
    where
      rest_of : UnwindPath
      rest_of = record { steps = s; end = p.end }

      below : (o : Option (Tagged ℕ)) → after order o x ≡ true → order x (tagged l f) ≡ Ordering.lt → after order o (tagged l f) ≡ true
      below none p q = refl
      below (some k) p q = ap is_lt (total_key.trans k x (tagged l f) (is_lt_law (order k x) p) q)

      go : (o : Ordering) → order x (tagged l f) ≡ o → cond (is_lt (order x (tagged l f))) (φ p) 0 + sum_of ψ (cond (compare_is_eq (order x (tagged l f))) (rest_of ∷ []) []) ≤ cond (after order last (tagged l f)) (φ p) 0
      go Ordering.lt q = rw (below last behind q, q) (omega arith)
      go Ordering.eq q = rw (← eq_same order total_key x (tagged l f) q, behind, self_eq order total_key x) (omega (arith, covers p l f s e))
      go Ordering.gt q = rw q (omega arith)

  ahead_step : (ps : List UnwindPath) → ahead φ (some x) ps + sum_of ψ (rest x ps) ≤ ahead φ last ps
  unfolding ahead rest joined sum_of
  ahead_step [] = omega arith
  ahead_step (p ∷ ps) =
      omega (arith, sum_append ψ (rest_on x (cut p.steps) p.end) (rest x ps), step_one p (cut p.steps) refl, ahead_step ps)

-- ---- steps and paths

abbrev step_count : UnwindPath → ℕ
step_count p = length p.steps

abbrev one : UnwindPath → ℕ
one p = 1

pub steps_ahead : Option (Tagged ℕ) → List UnwindPath → ℕ
steps_ahead last ps = ahead step_count last ps

pub paths_ahead : Option (Tagged ℕ) → List UnwindPath → ℕ
paths_ahead last ps = ahead one last ps

sum_steps : (ps : List UnwindPath) → sum_of (λ (p : UnwindPath). suc (length p.steps)) ps ≡ weight ps + length ps
unfolding sum_of weight
sum_steps [] = refl
sum_steps (p ∷ ps) = omega (arith, sum_steps ps)

sum_paths : (ps : List UnwindPath) → sum_of one ps ≡ length ps
unfolding sum_of
sum_paths [] = refl
sum_paths (p ∷ ps) = omega (arith, sum_paths ps)

pub steps_start : (ps : List UnwindPath) → steps_ahead none ps ≤ weight ps
unfolding steps_ahead ahead weight
steps_start [] = omega arith
steps_start (p ∷ ps) = omega (arith, go (cut p.steps), steps_start ps)
  where
    go : (k : Cut) → ahead_on none (length p.steps) k ≤ length p.steps
    go (over l) = omega arith
    go (enters l f s) = omega arith

pub paths_start : (ps : List UnwindPath) → paths_ahead none ps + length (ends_list ps) ≤ length ps
unfolding paths_ahead ahead ends_list joined end_on
paths_start [] = omega arith
paths_start (p ∷ ps) = omega (arith, length-append (end_on (cut p.steps) p.end) (ends_list ps), go (cut p.steps), paths_start ps)
  where
    go : (k : Cut) → ahead_on none 1 k + length (end_on k p.end) ≤ 1
    go (over l) = omega arith
    go (enters l f s) = omega arith

module _ (last : Option (Tagged ℕ)) (x : Tagged ℕ) (behind : after order last x ≡ true) (ps : List UnwindPath) where
  pub steps_step : steps_ahead (some x) ps + weight (rest x ps) + length (rest x ps) ≤ steps_ahead last ps
  unfolding steps_ahead
  steps_step =
      omega (arith, ahead_step step_count (λ (p : UnwindPath). suc (length p.steps)) fewer last x behind ps, sum_steps (rest x ps))
    where
      fewer : (p : UnwindPath) (l : List ℕ) (f : ℕ) (s : List UnwindStep) → cut p.steps ≡ enters l f s → suc (length s) ≤ length p.steps
      fewer p l f s e = rw (enters_path p.steps l f s e) (omega (arith, length-append (map call l) (funclet f ∷ s)))

  pub paths_step : paths_ahead (some x) ps + length (rest x ps) ≤ paths_ahead last ps
  unfolding paths_ahead
  paths_step = omega (arith, ahead_step one one (λ p l f s e. omega arith) last x behind ps, sum_paths (rest x ps))

pub rest_some : (ps : List UnwindPath) (x : Tagged ℕ) → x ∈ keys_of ps → 1 ≤ length (rest x ps)
unfolding keys_of groups
rest_some ps x m = go (rest x ps) (groups_mem ps x (mem_sorted order exact_key m))
  where
    go : (qs : List UnwindPath) → (q : UnwindPath) × (q ∈ qs) → 1 ≤ length qs
    go [] q = absurd (none_in q.1)
    go (p ∷ qs) q = omega arith

module _ (m : RouteImage) (g : Group) where
  left_few : (q : ℕ) → length (left_at m g q) ≤ 1
  unfolding left_at
  left_few q = go (strip (steps_in m g.from g.depth) (path_in m q).steps)
    where
      go : (o : Option (List UnwindStep)) → length (left_with (path_in m q).end o) ≤ 1
      go none = omega arith
      go (some s) = omega arith

  paths_below : (n : ℕ) → length (flat (λ k. left_at m g (g.first + k)) n) ≤ n
  unfolding flat
  paths_below zero = omega arith
  paths_below (suc n) = omega (arith, length-append (flat (λ k. left_at m g (g.first + k)) n) (left_at m g (g.first + n)), paths_below n, left_few (g.first + n))

  pub paths_few : length (paths_of m g) ≤ g.count
  unfolding paths_of
  paths_few = paths_below g.count
