-- The edges out of a block along the links, and the blocks of a set from the lowest on.
--     chain, OnChain               the edges from a link on
--     chain_start, chain_next, chain_none     the first link, the next one, and none
--     list_none, list_front        the blocks of an empty set, and the lowest one apart
--     list_has                     the blocks of a set that has a rising list
-- Assumes nothing.
use mathlib.Core.Path.{◌≡◌, refl, sym, ap, ap₂, ◌∙◌}
use mathlib.Core.Bool.{Bool, true, false, cond, ◌&&◌}
use mathlib.Core.List.{List, [], ◌∷◌, ◌++◌, append-nil}
use Prim.Native.Nat.{ℕ, zero, suc, ◌+◌, ◌-◌, ◌≤◌, ◌<◌}
use native.Mathlib.Nat.{not-suc-le-zero, add-suc, add-zero}
use native.Mathlib.Decide.{ℕ_discrete, dec_lt}
use native.Mathlib.Omega.{arith}
use borrow.Author.Tests.{eq-eqb, ne_eqb, le-ltb, lt-ltb}
use lib.Dec.{eqb, ltb}
use lib.ListN.{length, get_or, drop, drop_of_length-le, get_or-eq_default}
use lib.Seq.{drop-cons}
use Rattle.graph.specs.declared.record.Edge.{Edge}
use Rattle.graph.specs.Graph.{Graph, edge}
use Rattle.graph.specs.Graph.{no_edge}
use Rattle.graph.specs.Fold.{among}
use Rattle.graph.specs.BlockSet.{member, excluding}
use Rattle.graph.specs.Search.{Ends, link_in, link, Linked, Roomy}
use Rattle.graph.proofs.BlockLaws.{member-excluding}
use Rattle.graph.proofs.SearchLaws.{source_lt, Found, past, found_at, find}
use Rattle.addition.specs.Lists.{keep, upto}
use Rattle.addition.specs.Part.{outgoing}
use Rattle.unwind.specs.Stands.{Has}
use Rattle.unwind.specs.Clones.{list_of}
use Rattle.unwind.proofs.Sets.{kept_more, among_kept, Rises}

-- ---- links

keep-none : {A : Type 0} (f : A → Bool) (l : List A) (d : A) → ((i : ℕ) → i < length l → f (get_or l i d) ≡ false) → keep f l ≡ []
unfolding keep
keep-none f [] d none = refl
keep-none f (x ∷ l) d none = rw (none 0 (omega arith)) (keep-none f l d (λ i h. none (suc i) (omega arith)))

module _ (g : Graph) (b : ℕ) where
  -- the edges from b on from a link: the number of an edge plus one, or 0
  unfoldable pub chain : ℕ → List Edge
  chain zero = []
  chain (suc e) = keep (λ e. eqb e.source b) (drop e g.edges)

  pub record OnChain (at : ℕ) : Type 0 where
    pub here : (e : ℕ) → at ≡ suc e → (e < length g.edges) × ((edge g e).source ≡ b)

  link_here : (i : ℕ) → i < length g.edges → (edge g i).source ≡ b → link g b i ≡ suc i
  unfolding link link_in
  link_here i h is = rw (drop-cons g.edges i no_edge h, eq-eqb _ _ is)

  link_later : (i : ℕ) → i < length g.edges → ((edge g i).source ≡ b → ⊥) → link g b i ≡ link g b (suc i)
  unfolding link link_in
  link_later i h ne = rw (drop-cons g.edges i no_edge h, ne_eqb _ _ ne)

  kept_later : (i : ℕ) → i < length g.edges → ((edge g i).source ≡ b → ⊥) → keep (λ e. eqb e.source b) (drop i g.edges) ≡ keep (λ e. eqb e.source b) (drop (suc i) g.edges)
  unfolding keep
  kept_later i h ne = rw (drop-cons g.edges i no_edge h, ne_eqb _ _ ne)

  kept_here : (i : ℕ) → i < length g.edges → (edge g i).source ≡ b → keep (λ e. eqb e.source b) (drop i g.edges) ≡ edge g i ∷ keep (λ e. eqb e.source b) (drop (suc i) g.edges)
  unfolding keep
  kept_here i h is = rw (drop-cons g.edges i no_edge h, eq-eqb _ _ is)

  linked_chain : (n i : ℕ) → i + n ≡ length g.edges → keep (λ e. eqb e.source b) (drop i g.edges) ≡ chain (link g b i)
  unfolding link link_in keep chain
  linked_chain zero i h = rw (drop_of_length-le g.edges (let le : length g.edges ≤ i = omega arith in le))
  linked_chain (suc n) i h =
      let lt : i < length g.edges = omega arith in
      elim (ℕ_discrete (edge g i).source b) [
        | yes is ↦ sym (ap chain (link_here i lt is))
        | no ne ↦ kept_later i lt ne ∙ linked_chain n (suc i) (omega arith) ∙ sym (ap chain (link_later i lt ne))
      ]

  on_chain : (i : ℕ) → i ≤ length g.edges → OnChain (link g b i)
  on_chain i h = record { here = λ e is. go (link g b i) (find g b i h) e is }
    where
      go : (k : ℕ) → Found g b i k → (e : ℕ) → k ≡ suc e → (e < length g.edges) × ((edge g e).source ≡ b)
      go _ (past rest) e is = absurd (omega arith)
      go _ (found_at d le lt is rest) e eq = let same : d ≡ e = omega arith in rw (← same) (lt, is)

  module _ (head next : List ℕ) (ends : Ends g) (roomy : Roomy g head next) (linked : Linked g head next 0) where
    pub chain_start : (at : ℕ) → at ≡ get_or head b 0 → OnChain at × (chain at ≡ outgoing g b)
    unfolding outgoing chain
    chain_start at is =
        elim (dec_lt b (length head)) [
          | yes lt ↦
              let eq = is ∙ linked.heads b lt in
              rw eq (on_chain 0 (omega arith), sym (linked_chain (length g.edges) 0 (omega arith)))
          | no ge ↦
              let eq : at ≡ 0 = is ∙ get_or-eq_default head 0 (omega arith) in
              rw eq (
                record { here = λ e z. absurd (omega arith) },
                sym (keep-none (λ e. eqb e.source b) g.edges no_edge (λ i h. ne_eqb _ b (λ same. omega (arith, source_lt g ends i h, roomy.blocks)))),
              )
        ]

    pub chain_next : (at e at' : ℕ) → at ≡ suc e → OnChain at → at' ≡ get_or next e 0 → OnChain at' × (chain at ≡ edge g e ∷ chain at')
    unfolding chain keep
    chain_next at e at' is on next' =
        let here = on.here e is in
        let eq = next' ∙ linked.nexts e (omega arith) here.0 ∙ ap (λ (c : ℕ). link g c (suc e)) here.1 in (
          rw eq (on_chain (suc e) here.0),
          ap chain is
              ∙ kept_here e here.0 here.1
              ∙ ap (λ (l : List Edge). edge g e ∷ l) (linked_chain (length g.edges - suc e) (suc e) (omega (arith, here.0)) ∙ ap chain (sym eq)),
        )

  pub chain_none : (at : ℕ) → at ≡ 0 → chain at ≡ []
  unfolding chain
  chain_none at e = rw e

-- ---- sets

kept_none : (p : ℕ → Bool) (n : ℕ) → ((c : ℕ) → c < n → p c ≡ false) → keep p (upto n) ≡ []
unfolding keep upto
kept_none p zero none = refl
kept_none p (suc n) none = kept_more p n ∙ rw (kept_none p n (λ c h. none c (omega arith)), none n (omega arith))

kept_same : (p q : ℕ → Bool) (n : ℕ) → ((c : ℕ) → c < n → p c ≡ q c) → keep p (upto n) ≡ keep q (upto n)
unfolding keep upto
kept_same p q zero same = refl
kept_same p q (suc n) same =
    kept_more p n ∙ ap₂ (λ (l : List ℕ) (t : Bool). l ++ cond t (n ∷ []) []) (kept_same p q n (λ c h. same c (omega arith))) (same n (omega arith)) ∙ sym (kept_more q n)

kept_past : (p : ℕ → Bool) (n d : ℕ) → ((c : ℕ) → n ≤ c → p c ≡ false) → keep p (upto (n + d)) ≡ keep p (upto n)
kept_past p n zero none = ap (λ (k : ℕ). keep p (upto k)) (add-zero n)
kept_past p n (suc d) none =
    ap (λ (k : ℕ). keep p (upto k)) (add-suc n d) ∙ kept_more p (n + d) ∙ rw (none (n + d) (omega arith)) (append-nil (keep p (upto (n + d))) ∙ kept_past p n d none)

-- q is p but for b, the lowest
kept_front : (p q : ℕ → Bool) (b : ℕ) → p b ≡ true → ((c : ℕ) → c < b → p c ≡ false) → q b ≡ false → ((c : ℕ) → (b ≡ c → ⊥) → q c ≡ p c)
    → (n : ℕ) → b < n → keep p (upto n) ≡ b ∷ keep q (upto n)
kept_front p q b is low out same zero h = absurd (not-suc-le-zero h)
kept_front p q b is low out same (suc n) h =
    elim (ℕ_discrete b n) [
      | yes e ↦
          kept_more p n
          ∙ rw (← e, kept_none p b low, is)
          (ap (λ (l : List ℕ). b ∷ l) (sym (kept_more q b ∙ rw (out, kept_none q b (λ c lt. same c (λ z. omega arith) ∙ low c lt)))))
      | no ne ↦
          kept_more p n
          ∙ ap₂ (λ (l : List ℕ) (t : Bool). l ++ cond t (n ∷ []) []) (kept_front p q b is low out same n (omega arith)) (sym (same n ne))
          ∙ ap (λ (l : List ℕ). b ∷ l) (sym (kept_more q n))
    ]

pub list_none : (w : List ℕ) → ((c : ℕ) → member w c ≡ false) → list_of w ≡ []
unfolding list_of
list_none w none = kept_none (member w) 1024 (λ c h. none c)

pub list_front : (w : List ℕ) (b : ℕ) → length w ≡ 16 → b < 1024 → member w b ≡ true → ((c : ℕ) → c < b → member w c ≡ false) → list_of w ≡ b ∷ list_of (excluding w b)
unfolding list_of
list_front w b long h is low =
    kept_front (member w) (member (excluding w b)) b is low
    (member-excluding w long b b ∙ rw (eq-eqb b b refl))
    (λ c ne. member-excluding w long b c ∙ rw (ne_eqb b c ne))
    1024 h

pub list_has : (n : ℕ) (l w : List ℕ) → n ≤ 1024 → Rises n l → Has w l → list_of w ≡ l
unfolding list_of
list_has n l w few r has =
    let is : (b : ℕ) → member w b ≡ (ltb b n && r.test b) = λ b. has b ∙ ap (λ (k : List ℕ). among k b) r.is ∙ among_kept r.test n b in
    let rest : 1024 ≡ n + (1024 - n) = omega arith in
    ap (λ (k : ℕ). keep (member w) (upto k)) rest
    ∙ kept_past (member w) n (1024 - n) (λ c le. is c ∙ rw (le-ltb c n le))
    ∙ kept_same (member w) r.test n (λ c h. is c ∙ rw (lt-ltb c n h))
    ∙ sym r.is
