-- Paths cut at their first funclet: the ends, groups and rests of a node's paths, said in terms of the paths.
--     over_path, enters_path       a cut tells the steps
--     mem_ends, ends_mem           d ∈ ends_of ps: the path of its calls and its end is one of ps
--     mem_rest, rest_mem           q ∈ rest k ps: the path of k's calls, k's funclet and q is one of ps
--     mem_groups, groups_mem       k ∈ groups ps: something is left in its group
use mathlib.Core.Path.{◌≡◌, refl, sym, ◌∙◌, ap}
use mathlib.Core.Bool.{Bool, true, false, cond}
use mathlib.Core.List.Memᴰ
use mathlib.Core.List.{List, [], ◌∷◌, ◌++◌, map}
use Prim.Native.Nat.{ℕ, compare}
use lib.Dec.{compare_is_eq}
use Rattle.image.specs.Deal.{UnwindStep, funclet, call, UnwindEnd, UnwindPath}
use Rattle.addition.specs.Order.{Tagged, tagged, compare_tagged, compare_ends}
use Rattle.addition.specs.Trie.{Cut, over, enters, behind, cut, end_on, ends_of, group_on, groups, rest_on, rest}
use Rattle.addition.specs.Walk.{◌∈◌}
use Rattle.addition.proofs.Lists.{none_in, mem_joined, joined_mem}
use Rattle.addition.proofs.Order.{Exact, exact_number, exact_ends, exact_tagged, mem_sorted, sorted_mem}

abbrev pub path : List UnwindStep → UnwindEnd → UnwindPath
path s e = record { steps = s; end = e }

-- the calls of these tags, then a funclet and more
abbrev pub steps_of : List ℕ → ℕ → List UnwindStep → List UnwindStep
steps_of l f s = map call l ++ funclet f ∷ s

pub exact_key : Exact (compare_tagged compare)
exact_key = exact_tagged compare exact_number

pub exact_end : Exact (compare_tagged compare_ends)
exact_end = exact_tagged compare_ends exact_ends

-- ---- cuts

pub over_path : (s : List UnwindStep) (l : List ℕ) → cut s ≡ over l → s ≡ map call l
unfolding cut behind
over_path [] l e = let p : [] ≡ l = cc in rw (sym p)
over_path (funclet f ∷ s) l e = cc
over_path (call c ∷ s) l e = go (cut s) refl e (over_path s)
  where
    go : (k : Cut) → cut s ≡ k → behind c k ≡ over l → ((m : List ℕ) → cut s ≡ over m → s ≡ map call m) → call c ∷ s ≡ map call l
    go (over m) p q below = let r : c ∷ m ≡ l = cc in rw (sym r) (ap (λ (t : List UnwindStep). call c ∷ t) (below m p))
    go (enters m f t) p q below = cc

pub enters_path : (s : List UnwindStep) (l : List ℕ) (f : ℕ) (t : List UnwindStep) → cut s ≡ enters l f t → s ≡ steps_of l f t
unfolding cut behind
enters_path [] l f t e = cc
enters_path (funclet g ∷ s) l f t e =
    let p : [] ≡ l = cc in
    let q : g ≡ f = cc in
    let r : s ≡ t = cc in
    rw (sym p, q, r)
enters_path (call c ∷ s) l f t e = go (cut s) refl e (enters_path s)
  where
    go : (k : Cut) → cut s ≡ k → behind c k ≡ enters l f t → ((m : List ℕ) (g : ℕ) (u : List UnwindStep) → cut s ≡ enters m g u → s ≡ steps_of m g u) → call c ∷ s ≡ steps_of l f t
    go (over m) p q below = cc
    go (enters m g u) p q below =
        let r : c ∷ m ≡ l = cc in
        let r₁ : g ≡ f = cc in
        let r₂ : u ≡ t = cc in
        rw (sym r, sym r₁, sym r₂) (ap (λ (t : List UnwindStep). call c ∷ t) (below m g u p))

cut_calls : (l : List ℕ) → cut (map call l) ≡ over l
unfolding cut behind
cut_calls [] = refl
cut_calls (c ∷ l) = rw (cut_calls l)

cut_steps : (l : List ℕ) (f : ℕ) (s : List UnwindStep) → cut (steps_of l f s) ≡ enters l f s
unfolding cut behind
cut_steps [] f s = refl
cut_steps (c ∷ l) f s = rw (cut_steps l f s)

-- ---- ends

pub mem_ends : (ps : List UnwindPath) (d : Tagged UnwindEnd) → path (map call d.calls) d.what ∈ ps → d ∈ ends_of ps
unfolding ends_of end_on
mem_ends ps d m =
    mem_sorted (compare_tagged compare_ends) exact_end
    (mem_joined (λ (p : UnwindPath). end_on (cut p.steps) p.end) m (rw (cut_calls d.calls) (Memᴰ.head refl)))

pub ends_mem : (ps : List UnwindPath) (d : Tagged UnwindEnd) → d ∈ ends_of ps → path (map call d.calls) d.what ∈ ps
unfolding ends_of end_on
ends_mem ps d m =
    let j = joined_mem (λ (p : UnwindPath). end_on (cut p.steps) p.end) ps (sorted_mem (compare_tagged compare_ends) _ m) in
    go j.0 j.1 (cut j.0.steps) refl j.2
  where
    go : (p : UnwindPath) → p ∈ ps → (k : Cut) → cut p.steps ≡ k → d ∈ end_on k p.end → path (map call d.calls) d.what ∈ ps
    go p k (over l) e (Memᴰ.head q) =
        let s : p.steps ≡ map call l = over_path p.steps l e in
        Memᴰ.cast (λ i. path ((ap (λ (t : Tagged UnwindEnd). map call t.calls) q ∙ sym s) i) (q i).what) k
    go p k (over l) e (Memᴰ.tail q) = absurd (none_in q)
    go p k (enters l f t) e q = absurd (none_in q)

-- ---- groups and rests

pub mem_rest : (ps : List UnwindPath) (k : Tagged ℕ) (q : UnwindPath) → path (steps_of k.calls k.what q.steps) q.end ∈ ps → q ∈ rest k ps
unfolding rest rest_on
mem_rest ps k q m =
    mem_joined (λ (p : UnwindPath). rest_on k (cut p.steps) p.end) m
    (rw (cut_steps k.calls k.what q.steps, exact_key.self k) (Memᴰ.head refl))

pub rest_mem : (ps : List UnwindPath) (k : Tagged ℕ) (q : UnwindPath) → q ∈ rest k ps → path (steps_of k.calls k.what q.steps) q.end ∈ ps
unfolding rest rest_on
rest_mem ps k q m =
    let j = joined_mem (λ (p : UnwindPath). rest_on k (cut p.steps) p.end) ps m in
    go j.0 j.1 (cut j.0.steps) refl j.2
  where
    pick : (b : Bool) (r : UnwindPath) → q ∈ cond b (r ∷ []) [] → (b ≡ true) × (q ≡ r)
    pick true r (Memᴰ.head e) = (refl, e)
    pick true r (Memᴰ.tail e) = absurd (none_in e)
    pick false r e = absurd (none_in e)

    go : (p : UnwindPath) → p ∈ ps → (c : Cut) → cut p.steps ≡ c → q ∈ rest_on k c p.end → path (steps_of k.calls k.what q.steps) q.end ∈ ps
    go p n (over l) e i = absurd (none_in i)
    go p n (enters l f t) e i =
        let x = pick (compare_is_eq (compare_tagged compare k (tagged l f))) (path t p.end) i in
        let y : k ≡ tagged l f = exact_key.tells k (tagged l f) x.0 in
        let s : p.steps ≡ steps_of l f t = enters_path p.steps l f t e in
        Memᴰ.cast (λ j. path ((ap (λ (u : Tagged ℕ). steps_of u.calls u.what q.steps) y ∙ ap (λ (u : UnwindPath). steps_of l f u.steps) x.1 ∙ sym s) j) (x.1 j).end) n

pub mem_groups : (ps : List UnwindPath) (k : Tagged ℕ) (q : UnwindPath) → path (steps_of k.calls k.what q.steps) q.end ∈ ps → k ∈ groups ps
unfolding groups group_on
mem_groups ps k q m =
    mem_sorted (compare_tagged compare) exact_key
    (mem_joined (λ (p : UnwindPath). group_on (cut p.steps)) m (rw (cut_steps k.calls k.what q.steps) (Memᴰ.head refl)))

pub groups_mem : (ps : List UnwindPath) (k : Tagged ℕ) → k ∈ groups ps → (q : UnwindPath) × (q ∈ rest k ps)
unfolding groups group_on
groups_mem ps k m =
    let j = joined_mem (λ (p : UnwindPath). group_on (cut p.steps)) ps (sorted_mem (compare_tagged compare) _ m) in
    go j.0 j.1 (cut j.0.steps) refl j.2
  where
    go : (p : UnwindPath) → p ∈ ps → (c : Cut) → cut p.steps ≡ c → k ∈ group_on c → (q : UnwindPath) × (q ∈ rest k ps)
    go p n (over l) e i = absurd (none_in i)
    go p n (enters l f t) e (Memᴰ.head x) =
        let s : p.steps ≡ steps_of l f t = enters_path p.steps l f t e in
        (path t p.end, mem_rest ps k (path t p.end) (Memᴰ.cast (λ j. path ((ap (λ (u : Tagged ℕ). steps_of u.calls u.what t) x ∙ sym s) j) p.end) n))
    go p n (enters l f t) e (Memᴰ.tail x) = absurd (none_in x)
