-- The executable part and returning block are those of the statement.
--     on_path_law                      the funclets of a path
--     mem_funclets, funclets_mem   the funclets of the routes
--     barred_other, other_barred   'the built block that starts another funclet'
--     ordinary_kind, kind_ordinary 'without an ExceptionUnwind or Call edge'
--     part_lt, part_reach, reach_part     the blocks of a part are those reached
--     returning_is, is_returning   returning blocks
use mathlib.Core.Path.{◌≡◌, refl, sym, ◌∙◌, ap, subst}
use mathlib.Core.Logic.{◌⊎◌, inl, inr}
use mathlib.Core.Bool.{Bool, true, false, cond, not, ◌&&◌, ◌||◌, false≢true}
use mathlib.Core.List.Memᴰ
use mathlib.Core.List.{List, [], ◌∷◌}
use Prim.Native.Nat.{ℕ, zero, suc, ◌≤◌, ◌<◌}
use native.Mathlib.Decide.{ℕ_discrete}
use native.Mathlib.Omega.{arith}
use borrow.Author.Tests.{eq-eqb, eqb-true}
use lib.Dec.{eqb}
use lib.ListN.{length, get_or, length-append}
use Rattle.image.specs.Deal.{UnwindStep, funclet, call, UnwindPath, UnwindRoute}
use Rattle.graph.specs.declared.record.Edge.{Edge}
use Rattle.graph.specs.Graph.{Graph}
use Rattle.addition.specs.Lists.{keep, joined, upto, is_empty}
use Rattle.graph.specs.Fold.{among}
use Rattle.graph.specs.Flow.{Flow, Kind}
use Rattle.graph.specs.Route.{funclet_of, funclets as on_path}
use Rattle.graph.specs.WellFormed.{is_built}
use Rattle.addition.specs.Blocks.{first_of, last_of}
use Rattle.addition.specs.Part.{funclets, barred, ordinary, outgoing, onward, round, rounds, part, returning}
use Rattle.addition.specs.Walk.{◌∈◌, Funclet, Other, Reach, start, step, Returning, by_return, by_jump}
use Rattle.addition.proofs.Lists.{and_both, and_true, or_either, or_left, or_right, not_so, so_not, none_in, mem_keep, keep_mem, mem_joined, joined_mem, mem_map, map_mem, mem_upto, upto_mem, mem_flat, flat_mem, mem_at, at_lt, lt_at, at_get_or, at_mem, mem_among, among_mem}

-- ---- funclets

pub on_path_law : (a : ℕ) (p : UnwindPath) → funclet a ∈ p.steps → a ∈ on_path p
unfolding on_path
on_path_law a p m =
    let j = mem_at m in
    let is : get_or p.steps j.0 (call 0) ≡ funclet a = at_get_or p.steps j.0 (call 0) j.1 in
    mem_flat (λ (k : ℕ). funclet_of (get_or p.steps k (call 0))) (length p.steps) j.0 (at_lt p.steps j.0 j.1) (rw is (Memᴰ.head refl))

path_on : (a : ℕ) (p : UnwindPath) → a ∈ on_path p → funclet a ∈ p.steps
unfolding on_path
path_on a p m =
    let j = flat_mem (λ (k : ℕ). funclet_of (get_or p.steps k (call 0))) (length p.steps) m in
    let x = lt_at p.steps j.0 j.1 in
    Memᴰ.cast (sym (go (get_or p.steps j.0 (call 0)) j.2) ∙ at_get_or p.steps j.0 (call 0) x.1) (at_mem p.steps j.0 x.1)
  where
    go : (s : UnwindStep) → a ∈ funclet_of s → s ≡ funclet a
    go (funclet f) k = ap funclet (sym (Memᴰ.eq_of_singleton k))
    go (call c) k = absurd (none_in k)

module _ (rs : List UnwindRoute) where
  abbrev of_route : UnwindRoute → List ℕ
  of_route r = joined on_path r.paths

  pub mem_funclets : (a : ℕ) → Funclet rs a → a ∈ funclets rs
  unfolding funclets
  mem_funclets a x = mem_joined of_route x.listed (mem_joined on_path x.written (on_path_law a x.path x.named))

  pub funclets_mem : (a : ℕ) → a ∈ funclets rs → Funclet rs a
  unfolding funclets
  funclets_mem a m =
      let r = joined_mem of_route rs m in
      let p = joined_mem on_path r.0.paths r.2 in
      record { route = r.0; path = p.0; listed = r.1; written = p.1; named = path_on a p.0 p.2 }

  -- ---- barriers

  pub barred_other : (g : Graph) (f b : ℕ) → b < length g.blocks → barred g (funclets rs) f b ≡ true → Other g rs f b
  unfolding barred
  barred_other g f b h e =
      let x = and_both (is_built g b && among (funclets rs) (first_of g b).address) (not (eqb (first_of g b).address f)) e in
      let y = and_both (is_built g b) (among (funclets rs) (first_of g b).address) x.0 in
      record {
        funclet = (first_of g b).address;
        named = funclets_mem _ (among_mem (funclets rs) _ y.1);
        another = λ p. not_so _ x.1 (eq-eqb _ f p);
        begins = record { built = record { exists = h; original = y.0 }; address = refl };
      }

  pub other_barred : (g : Graph) (f b : ℕ) → Other g rs f b → barred g (funclets rs) f b ≡ true
  unfolding barred
  other_barred g f b o =
      let a : (first_of g b).address ≡ o.funclet = o.begins.address in
      and_true
      (and_true o.begins.built.original (rw a (mem_among (mem_funclets o.funclet o.named))))
      (so_not _ (λ p. o.another (sym a ∙ eqb-true _ f p)))

pub ordinary_kind : (d : Edge) → ordinary d ≡ true → (d.kind ≡ Kind.exception_unwind → ⊥) × (d.kind ≡ Kind.call → ⊥)
unfolding ordinary
ordinary_kind d e =
    let x = and_both (not (eqb d.kind Kind.exception_unwind)) (not (eqb d.kind Kind.call)) e in
    (λ p. not_so _ x.0 (eq-eqb _ _ p), λ p. not_so _ x.1 (eq-eqb _ _ p))

pub kind_ordinary : (d : Edge) → (d.kind ≡ Kind.exception_unwind → ⊥) → (d.kind ≡ Kind.call → ⊥) → ordinary d ≡ true
unfolding ordinary
kind_ordinary d u c = and_true (so_not _ (λ p. u (eqb-true _ _ p))) (so_not _ (λ p. c (eqb-true _ _ p)))

-- ---- counting: a list of kept elements that takes in more has more of them

module _ {A : Type 0} where
  keep-none : (l : List A) → keep (λ x. false) l ≡ []
  unfolding keep
  keep-none [] = refl
  keep-none (x ∷ l) = keep-none l

  keep_le : (p : A → Bool) (l : List A) → length (keep p l) ≤ length l
  unfolding keep
  keep_le p [] = omega arith
  keep_le p (x ∷ l) = go (p x) (keep_le p l)
    where
      go : (b : Bool) → length (keep p l) ≤ length l → length (cond b (x ∷ keep p l) (keep p l)) ≤ suc (length l)
      go true h = omega arith
      go false h = omega arith

  keep-more : (p q : A → Bool) (l : List A) → ((x : A) → x ∈ l → p x ≡ true → q x ≡ true) → (keep q l ≡ keep p l) ⊎ (length (keep p l) < length (keep q l))
  unfolding keep
  keep-more p q [] up = inl refl
  keep-more p q (x ∷ l) up = go (p x) refl (q x) refl (keep-more p q l (λ y m. up y (Memᴰ.tail m)))
    where
      go : (a : Bool) → p x ≡ a → (b : Bool) → q x ≡ b → (keep q l ≡ keep p l) ⊎ (length (keep p l) < length (keep q l))
          → (cond b (x ∷ keep q l) (keep q l) ≡ cond a (x ∷ keep p l) (keep p l)) ⊎ (length (cond a (x ∷ keep p l) (keep p l)) < length (cond b (x ∷ keep q l) (keep q l)))
      go true ea true eb (inl e) = inl (ap (λ (t : List A). x ∷ t) e)
      go true ea true eb (inr h) = inr (omega arith)
      go true ea false eb h = absurd (false≢true (sym eb ∙ up x (Memᴰ.head refl) ea))
      go false ea true eb (inl e) = inr (let h : length (keep q l) ≡ length (keep p l) = ap length e in omega arith)
      go false ea true eb (inr h) = inr (omega arith)
      go false ea false eb (inl e) = inl e
      go false ea false eb (inr h) = inr h

length-upto : (n : ℕ) → length (upto n) ≡ n
unfolding upto
length-upto zero = refl
length-upto (suc n) = omega (arith, length-append (upto n) (n ∷ []), length-upto n)

-- ---- parts

module _ (g : Graph) (rs : List UnwindRoute) (f e : ℕ) where
  abbrev fs : List ℕ
  fs = funclets rs

  abbrev all : List ℕ
  all = upto (length g.blocks)

  abbrev wants : List ℕ → ℕ → Bool
  wants l b = eqb b e || among l b || among (onward g fs f l) b

  abbrev nth : ℕ → List ℕ
  nth n = rounds g fs f e n

  -- an ordinary edge from a block of l leads to c
  pub record Onward (l : List ℕ) (c : ℕ) : Type 0 where
    pub edge : Edge
    pub there : edge ∈ g.edges
    pub from : edge.source ∈ l
    pub to : edge.target ≡ c
    pub follows : ordinary edge ≡ true
    pub open' : barred g fs f c ≡ true → ⊥

  onward_mem : (l : List ℕ) (c : ℕ) → c ∈ onward g fs f l → Onward l c
  unfolding onward
  onward_mem l c m =
      let k = keep_mem (λ (t : ℕ). not (barred g fs f t)) _ m in
      let d = map_mem (λ (d : Edge). d.target) _ k.0 in
      let x = keep_mem (λ (d : Edge). ordinary d && among l d.source) g.edges d.1 in
      let y = and_both (ordinary d.0) (among l d.0.source) x.1 in
      record { edge = d.0; there = x.0; from = among_mem l _ y.1; to = sym d.2; follows = y.0; open' = not_so _ k.1 }

  mem_onward : (l : List ℕ) (c : ℕ) → Onward l c → c ∈ onward g fs f l
  unfolding onward
  mem_onward l c o =
      mem_keep (λ (t : ℕ). not (barred g fs f t))
      (Memᴰ.cast (sym o.to) (mem_map (λ (d : Edge). d.target) (mem_keep (λ (d : Edge). ordinary d && among l d.source) o.there (and_true o.follows (mem_among o.from)))))
      (so_not _ o.open')

  -- every block of a round is reached
  sound : (n b : ℕ) → b ∈ nth n → Reach g rs f e b
  unfolding rounds round
  sound zero b m = absurd (none_in m)
  sound (suc n) b m = go (or_either (eqb b e || among (nth n) b) _ (keep_mem (wants (nth n)) all m).1) (sound n)
    where
      near : (eqb b e ≡ true) ⊎ (among (nth n) b ≡ true) → ((c : ℕ) → c ∈ nth n → Reach g rs f e c) → Reach g rs f e b
      near (inl p) below = subst (Reach g rs f e) (sym (eqb-true b e p)) start
      near (inr p) below = below b (among_mem (nth n) b p)

      go : (eqb b e || among (nth n) b ≡ true) ⊎ (among (onward g fs f (nth n)) b ≡ true) → ((c : ℕ) → c ∈ nth n → Reach g rs f e c) → Reach g rs f e b
      go (inl p) below = near (or_either (eqb b e) (among (nth n) b) p) below
      go (inr p) below =
          let o = onward_mem (nth n) b (among_mem _ b p) in
          let k = ordinary_kind o.edge o.follows in
          step (below _ o.from) o.edge o.there refl o.to k.0 k.1 (λ x. o.open' (other_barred rs g f b x))

  -- a round takes in all of the one before, or as many rounds take in as many blocks
  Kept : List ℕ → Type 0
  Kept l = (p : ℕ → Bool) × (l ≡ keep p all)

  kept : (n : ℕ) → Kept (nth n)
  unfolding Kept rounds round
  kept zero = ((λ x. false), sym (keep-none all))
  kept (suc n) = (wants (nth n), refl)

  grows : (l : List ℕ) → Kept l → (round g fs f e l ≡ l) ⊎ (length l < length (round g fs f e l))
  unfolding Kept round
  grows l (k) = go k.0 k.1
    where
      go : (p : ℕ → Bool) → l ≡ keep p all → (keep (wants l) all ≡ l) ⊎ (length l < length (keep (wants l) all))
      go p is =
          subst (λ (t : List ℕ). (keep (wants l) all ≡ t) ⊎ (length t < length (keep (wants l) all))) (sym is)
          (keep-more p (wants l) all (λ x m t. or_left _ (or_right (eqb x e) (mem_among (subst (λ (u : List ℕ). x ∈ u) (sym is) (mem_keep p m t))))))

  still_or_many : (n : ℕ) → (nth (suc n) ≡ nth n) ⊎ (n < length (nth (suc n)))
  unfolding rounds
  still_or_many zero = go (grows (nth 0) (kept 0))
    where
      go : (nth 1 ≡ nth 0) ⊎ (length (nth 0) < length (nth 1)) → (nth 1 ≡ nth 0) ⊎ (0 < length (nth 1))
      go (inl s) = inl s
      go (inr h) = inr (omega arith)
  still_or_many (suc n) = go (still_or_many n) (grows (nth (suc n)) (kept (suc n)))
    where
      go : (nth (suc n) ≡ nth n) ⊎ (n < length (nth (suc n))) → (nth (suc (suc n)) ≡ nth (suc n)) ⊎ (length (nth (suc n)) < length (nth (suc (suc n))))
          → (nth (suc (suc n)) ≡ nth (suc n)) ⊎ (suc n < length (nth (suc (suc n))))
      go (inl s) h = inl (ap (round g fs f e) s)
      go (inr k) (inl s) = inl s
      go (inr k) (inr h) = inr (omega arith)

  -- one round more than there are blocks takes in nothing new
  still : nth (suc (length g.blocks)) ≡ nth (length g.blocks)
  unfolding rounds round
  still = go (still_or_many (length g.blocks))
    where
      n : ℕ
      n = length g.blocks

      go : (nth (suc n) ≡ nth n) ⊎ (n < length (nth (suc n))) → nth (suc n) ≡ nth n
      go (inl s) = s
      go (inr h) = absurd (omega (arith, h, keep_le (wants (nth n)) all, length-upto n))

  pub part_lt : (b : ℕ) → b ∈ part g fs f e → b < length g.blocks
  unfolding part rounds round
  part_lt b m = upto_mem _ (keep_mem (wants (nth (length g.blocks))) all (subst (λ (t : List ℕ). b ∈ t) (sym still) m)).0

  pub part_reach : (b : ℕ) → b ∈ part g fs f e → Reach g rs f e b
  unfolding part
  part_reach b m = sound (length g.blocks) b m

  module _ (targets : (d : Edge) → d ∈ g.edges → d.target < length g.blocks) (exists : e < length g.blocks) where
    taken : (b : ℕ) → b < length g.blocks → wants (part g fs f e) b ≡ true → b ∈ part g fs f e
    unfolding part rounds round
    taken b h t = subst (λ (l : List ℕ). b ∈ l) still (mem_keep (wants (nth (length g.blocks))) (mem_upto _ b h) t)

    pub reach_part : {b : ℕ} → Reach g rs f e b → b ∈ part g fs f e
    reach_part start = taken e exists (or_left _ (or_left _ (eq-eqb e e refl)))
    reach_part (step {b = b} {c = c} r d there from to u k o) =
        let in_c : c < length g.blocks = subst (λ (x : ℕ). x < length g.blocks) to (targets d there) in
        taken c in_c
        (or_right (eqb c e || among (part g fs f e) c) (mem_among (mem_onward (part g fs f e) c
        (record {
          edge = d;
          there = there;
          from = Memᴰ.cast from (reach_part r);
          to = to;
          follows = kind_ordinary d u k;
          open' = λ x. o (barred_other rs g f c in_c x);
        }))))

-- ---- returning blocks

is_empty_law : {A : Type 0} (l : List A) → is_empty l ≡ true → (x : A) → x ∈ l → ⊥
unfolding is_empty
is_empty_law [] e x m = none_in m
is_empty_law (y ∷ l) e x m = false≢true e

empty_is : {A : Type 0} (l : List A) → ((x : A) → x ∈ l → ⊥) → is_empty l ≡ true
unfolding is_empty
empty_is [] out = refl
empty_is (y ∷ l) out = absurd (out y (Memᴰ.head refl))

module _ (g : Graph) (b : ℕ) where
  abbrev goes_on : List Edge
  goes_on = keep ordinary (outgoing g b)

  mem_goes_on : (d : Edge) → d ∈ g.edges → d.source ≡ b → ordinary d ≡ true → d ∈ goes_on
  unfolding outgoing
  mem_goes_on d m s o = mem_keep ordinary (mem_keep (λ (d : Edge). eqb d.source b) m (eq-eqb _ b s)) o

  pub returning_is : returning g b ≡ true → Returning g b
  unfolding returning
  returning_is e = go (or_either (eqb (last_of g b).flow Flow.return) _ e)
    where
      kinds : is_empty goes_on ≡ true → (d : Edge) → d ∈ g.edges → d.source ≡ b → (d.kind ≡ Kind.exception_unwind) ⊎ (d.kind ≡ Kind.call)
      kinds none d m s =
          elim (ℕ_discrete d.kind Kind.exception_unwind) [
            | yes u ↦ inl u
            | no u ↦ elim (ℕ_discrete d.kind Kind.call) [ yes c ↦ inr c | no c ↦ absurd (is_empty_law goes_on none d (mem_goes_on d m s (kind_ordinary d u c))) ]
          ]

      go : (eqb (last_of g b).flow Flow.return ≡ true) ⊎ (eqb (last_of g b).flow Flow.jump && is_empty goes_on ≡ true) → Returning g b
      go (inl p) = by_return (eqb-true _ _ p)
      go (inr p) = let x = and_both (eqb (last_of g b).flow Flow.jump) (is_empty goes_on) p in by_jump (eqb-true _ _ x.0) (kinds x.1)

  pub is_returning : Returning g b → returning g b ≡ true
  unfolding returning outgoing
  is_returning (by_return p) = or_left _ (eq-eqb _ _ p)
  is_returning (by_jump p kinds) = or_right (eqb (last_of g b).flow Flow.return) (and_true (eq-eqb _ _ p) (empty_is goes_on none))
    where
      none : (d : Edge) → d ∈ goes_on → ⊥
      none d m =
          let x = keep_mem ordinary (outgoing g b) m in
          let y = keep_mem (λ (d : Edge). eqb d.source b) g.edges x.0 in
          let k = ordinary_kind d x.1 in
          elim (kinds d y.0 (eqb-true _ b y.1)) [ inl u ↦ k.0 u | inr c ↦ k.1 c ]
