-- The search for the reached blocks.
--     ends_of, entry_lt, source_lt, target_lt, reached_lt     the ends of a graph that 21 lets pass
--     linked_none, linked_more           edges linked, the last first
--     Going, going_on, going_end         the edges from a block followed along the links
--     works_start, turn_works, turn_less, finds      the worklist
-- Assumes nothing.
use mathlib.Core.Path.{◌≡◌, refl, sym, ap, ◌∙◌}
use mathlib.Core.Bool.{Bool, true, false, ◌&&◌, ◌||◌, not, or-true, true≢false, false≢true}
use mathlib.Core.Logic.{◌⊎◌, inl, inr, ⊎_elim}
use mathlib.Core.List.{List}
use Prim.Native.Nat.{ℕ, zero, suc, ◌+◌, ◌-◌, ◌≤◌, ◌<◌}
use native.Mathlib.Nat.{not-suc-le-zero}
use native.Mathlib.Decide.{ℕ_discrete, dec_lt}
use native.Mathlib.Omega.{arith}
use borrow.Author.Tests.{eq-eqb, ne_eqb, ltb-true}
use lib.Dec.{T, eqb, ltb, ltb→lt}
use lib.ListN.{length, get_or, set, length-set, drop_of_length-le, replicate, get_or-replicate}
use lib.Seq.{drop-cons, get_or-set_same, get_or-set_other}
use Rattle.graph.specs.Graph.{Graph, Held, edge, no_edge}
use Rattle.graph.specs.BlockSet.{member, none, including, excluding}
use Rattle.graph.specs.WellFormed.{is_block, edge_ends_exist, well_formed}
use Rattle.graph.specs.Reached.{Reached, start, step}
use Rattle.graph.specs.Search.{In, Finds, Ends, link_in, link, Linked, Works, left, Followed, Follows, seeing}
use Rattle.graph.proofs.FoldLaws.{both, all_at, decided}
use Rattle.graph.proofs.RuleLaws.{stands}
use Rattle.graph.proofs.BlockLaws.{member_below, member-none, member-including, member-excluding, length-including, length-excluding, size-including, size-excluding, size_le}

pub ends_of : (h : Held) → well_formed h ≡ true → Ends h.graph
ends_of h e = let s = stands h e in record { entry = s.entry; edges = s.edges }

module _ (g : Graph) where
  abbrev source_of : ℕ → ℕ
  source_of e = (edge g e).source

  abbrev target_of : ℕ → ℕ
  target_of e = (edge g e).target

  abbrev edges : ℕ
  edges = length g.edges

  -- ---- ends

  module _ (ends : Ends g) where
    pub entry_lt : g.entry < length g.blocks
    unfolding is_block
    entry_lt = ltb-true _ _ ends.entry

    exist : (e : ℕ) → e < edges → T (ltb (source_of e) (length g.blocks)) × T (ltb (target_of e) (length g.blocks))
    unfolding edge_ends_exist is_block
    exist e h =
        let t : T (edge_ends_exist g) = rw ends.edges tt in
        both (ltb (source_of e) (length g.blocks)) (ltb (target_of e) (length g.blocks)) (all_at _ edges e t h)

    pub source_lt : (e : ℕ) → e < edges → source_of e < length g.blocks
    source_lt e h = ltb→lt _ _ (exist e h).0

    pub target_lt : (e : ℕ) → e < edges → target_of e < length g.blocks
    target_lt e h = ltb→lt _ _ (exist e h).1

    pub reached_lt : {b : ℕ} → Reached g b → b < length g.blocks
    reached_lt start = entry_lt
    reached_lt (step e h r) = target_lt e h

  -- ---- links

  link_end : (b i : ℕ) → edges ≤ i → link g b i ≡ 0
  unfolding link link_in
  link_end b i h = rw (drop_of_length-le g.edges h)

  link_here : (b i : ℕ) → i < edges → source_of i ≡ b → link g b i ≡ suc i
  unfolding link link_in
  link_here b i h is = rw (drop-cons g.edges i no_edge h, eq-eqb _ _ is)

  link_later : (b i : ℕ) → i < edges → (source_of i ≡ b → ⊥) → link g b i ≡ link g b (suc i)
  unfolding link link_in
  link_later b i h ne = rw (drop-cons g.edges i no_edge h, ne_eqb _ _ ne)

  pub linked_none : (head next : List ℕ) → head ≡ replicate (length head) 0 → Linked g head next edges
  linked_none head next zeros =
      record {
        heads = λ b h. ap (λ (l : List ℕ). get_or l b 0) zeros ∙ get_or-replicate {A = ℕ} (length head) b 0 0 h ∙ sym (link_end b edges (omega arith));
        nexts = λ e le h. absurd (omega arith);
      }

  pub linked_more : (head next : List ℕ) (i : ℕ) → i < edges → source_of i < length head → i < length next → Linked g head next (suc i)
      → Linked g (set head (source_of i) (suc i)) (set next i (get_or head (source_of i) 0)) i
  linked_more head next i h hb hn l =
      record {
        heads = λ c hc.
            let hc' : c < length head = rw length-set at hc in
            elim (ℕ_discrete c (source_of i)) [
              | yes e ↦ rw e (get_or-set_same head (source_of i) (suc i) 0 hb ∙ sym (link_here (source_of i) i h refl))
              | no ne ↦ get_or-set_other head (source_of i) c (suc i) 0 ne ∙ l.heads c hc' ∙ sym (link_later c i h (λ e. ne (sym e)))
            ];
        nexts = λ e le lt.
            elim (ℕ_discrete e i) [
              | yes same ↦ rw same (get_or-set_same next i (get_or head (source_of i) 0) 0 hn ∙ l.heads (source_of i) hb)
              | no ne ↦ get_or-set_other next i e (get_or head (source_of i) 0) 0 ne ∙ l.nexts e (omega arith) lt
            ];
      }

  -- where a link leads: past the edges, or to the next edge from b
  pub data Found (b i : ℕ) : ℕ → Type 0 where
    past : ((e : ℕ) → i ≤ e → e < edges → source_of e ≡ b → ⊥) → Found b i 0
    found_at : (e : ℕ) → i ≤ e → e < edges → source_of e ≡ b → ((d : ℕ) → i ≤ d → d < e → source_of d ≡ b → ⊥) → Found b i (suc e)

  found : (n b i : ℕ) → i + n ≡ edges → Found b i (link g b i)
  found zero b i h = rw (link_end b i (omega arith)) (past (λ e le lt eq. omega arith))
  found (suc n) b i h =
      elim (ℕ_discrete (source_of i) b) [
        | yes is ↦ rw (link_here b i (omega arith) is) (found_at i (omega arith) (omega arith) is (λ d le lt eq. omega arith))
        | no ne ↦ rw (link_later b i (omega arith) ne) (later ne (link g b (suc i)) (found n b (suc i) (omega arith)))
      ]
    where
      not_here : (P : ℕ → Type 0) → (source_of i ≡ b → ⊥) → ((d : ℕ) → suc i ≤ d → P d → source_of d ≡ b → ⊥) → (d : ℕ) → i ≤ d → P d → source_of d ≡ b → ⊥
      not_here P ne rest d le p eq =
          elim (ℕ_discrete d i) [ yes same ↦ ne (ap source_of (sym same) ∙ eq) | no other ↦ rest d (omega arith) p eq ]

      later : (source_of i ≡ b → ⊥) → (k : ℕ) → Found b (suc i) k → Found b i k
      later ne _ (past rest) = past (not_here (λ (d : ℕ). d < edges) ne rest)
      later ne _ (found_at e le lt is rest) = found_at e (omega arith) lt is (not_here (λ (d : ℕ). d < e) ne rest)

  pub find : (b i : ℕ) → i ≤ edges → Found b i (link g b i)
  find b i h = found (edges - i) b i (omega arith)

  -- ---- one block followed

  -- no edge from b is between i and j
  works_skip : (b i j : ℕ) (seen pending : List ℕ) → ((d : ℕ) → i ≤ d → d < j → source_of d ≡ b → ⊥) → Works g b i seen pending → Works g b j seen pending
  works_skip b i j seen pending clear w =
      record {
        long = w.long;
        sound = w.sound;
        first = w.first;
        pends = w.pends;
        closed = λ e lt in-s out-p f. w.closed e lt in-s out-p (λ eq. before e (f eq) eq);
      }
    where
      before : (e : ℕ) → e < j → source_of e ≡ b → e < i
      before e lt eq = elim (dec_lt e i) [ yes less ↦ less | no more ↦ absurd (clear e (omega arith) lt eq) ]

  -- edge e from b is followed: its target was seen before
  works_old : (b e : ℕ) (seen pending : List ℕ) → In seen (target_of e) → Works g b e seen pending → Works g b (suc e) seen pending
  works_old b e seen pending old w =
      record {
        long = w.long;
        sound = w.sound;
        first = w.first;
        pends = w.pends;
        closed = λ d lt in-s out-p f.
            elim (ℕ_discrete d e) [
              | yes same ↦ rw same old
              | no ne ↦ w.closed d lt in-s out-p (λ eq. let l = f eq in omega arith)
            ];
      }

  -- or was not
  module _ (b e : ℕ) (seen pending : List ℕ) (lt : e < edges) (is : source_of e ≡ b) (few : target_of e < 1024) (in_b : In seen b) (w : Works g b e seen pending) (new : member seen (target_of e) ≡ false) where
    abbrev t : ℕ
    t = target_of e

    with_seen : (c : ℕ) → member (including seen t) c ≡ (eqb t c || member seen c)
    with_seen = member-including seen w.long.0 t few

    with_pending : (c : ℕ) → member (including pending t) c ≡ (eqb t c || member pending c)
    with_pending = member-including pending w.long.1 t few

    still : (c : ℕ) → In seen c → In (including seen t) c
    still c h = with_seen c ∙ rw h (or-true (eqb t c))

    there : In (including seen t) t
    there = with_seen t ∙ rw (eq-eqb t t refl)

    -- a block of the new set is t, or was in the old one
    either : (v : List ℕ) (c : ℕ) → (eqb t c || member v c) ≡ true → (t ≡ c) ⊎ In v c
    either v c h = elim (ℕ_discrete t c) [ yes same ↦ inl same | no ne ↦ inr (rw (ne_eqb t c ne) at h) ]

    fresh : (c : ℕ) → (In (including pending t) c → ⊥) → t ≡ c → ⊥
    fresh c out same = out (with_pending c ∙ rw (eq-eqb t c same))

    works_new : Works g b (suc e) (including seen t) (including pending t)
    works_new =
        record {
          long = (length-including seen t ∙ w.long.0, length-including pending t ∙ w.long.1);
          sound = λ c h. ⊎_elim (λ same. rw (← same) (step e lt (rw is (w.sound b in_b)))) (w.sound c) (either seen c (sym (with_seen c) ∙ h));
          first = still g.entry w.first;
          pends = λ c h. ⊎_elim (λ same. rw (← same) there) (λ old. still c (w.pends c old)) (either pending c (sym (with_pending c) ∙ h));
          closed = λ d h in-s out-p f.
              elim (ℕ_discrete d e) [
                | yes same ↦ rw same there
                | no ne ↦
                    let apart = fresh (source_of d) out-p in
                    still (target_of d)
                    (w.closed d h
                    (sym (with_seen (source_of d) ∙ rw (ne_eqb t (source_of d) apart)) ∙ in-s)
                    (λ old. out-p (with_pending (source_of d) ∙ rw old (or-true (eqb t (source_of d)))))
                    (λ eq. let l = f eq in omega arith))
              ];
        }

    fewer : left (including seen t) (including pending t) ≤ left seen pending
    fewer =
        let out : member pending t ≡ false =
        ⊎_elim (λ old. absurd (true≢false (sym (w.pends t old) ∙ new))) (λ no-p. no-p) (decided (member pending t)) in
        omega (arith, size-including seen w.long.0 t few new, size-including pending w.long.1 t few out, size_le (including seen t))

  pub follow_none : (b : ℕ) (seen pending : List ℕ) → Follows g b 0 seen pending seen pending
  follow_none b seen pending in_b w = record { from = in_b; works = w; less = omega arith }

  module _ (b i : ℕ) (s₀ p₀ s p : List ℕ) (so_far : Follows g b i s₀ p₀ s p) where
    follow_skip : (j : ℕ) → ((d : ℕ) → i ≤ d → d < j → source_of d ≡ b → ⊥) → Follows g b j s₀ p₀ s p
    follow_skip j clear in_b w =
        let f = so_far in_b w in
        record { from = f.from; works = works_skip b i j s p clear f.works; less = f.less }

    follow_see : i < edges → source_of i ≡ b → target_of i < 1024 → Follows g b (suc i) s₀ p₀ (seeing s (target_of i) s) (seeing s (target_of i) p)
    follow_see lt is few in_b w =
        let f = so_far in_b w in
        ⊎_elim
        (λ old. rw old (record { from = f.from; works = works_old b i s p old f.works; less = f.less }))
        (λ new. rw new
        (record {
          from = still b i s p lt is few f.from f.works new b f.from;
          works = works_new b i s p lt is few f.from f.works new;
          less = omega (arith, f.less, fewer b i s p lt is few f.from f.works new);
        }))
        (decided (member s (target_of i)))

  -- the links of b are followed up to `at`
  pub record Going (b at : ℕ) (s₀ p₀ s p : List ℕ) : Type 0 where
    pub place : ℕ
    pub within : place ≤ edges
    pub is : at ≡ link g b place
    pub so_far : Follows g b place s₀ p₀ s p

  pub going_start : (b at : ℕ) (s p : List ℕ) → at ≡ link g b 0 → Going b at s p s p
  going_start b at s p is = record { place = 0; within = omega arith; is = is; so_far = follow_none b s p }

  unfoldable pub togo : ℕ → ℕ
  togo zero = 0
  togo (suc e) = edges - e

  module _ (b : ℕ) (s₀ p₀ s p : List ℕ) where
    where_at : (at : ℕ) (w : Going b at s₀ p₀ s p) → Found b w.place at
    where_at at w = rw w.is (find b w.place w.within)

    pub going_lt : (at : ℕ) → Going b at s₀ p₀ s p → (at ≡ 0 → ⊥) → at - 1 < edges
    going_lt at w ne = cases at (where_at at w) ne
      where
        cases : (k : ℕ) {i : ℕ} → Found b i k → (k ≡ 0 → ⊥) → k - 1 < edges
        cases _ (past rest) ne = absurd (ne refl)
        cases _ (found_at e le lt is rest) ne = omega arith

    pub going_end : Going b 0 s₀ p₀ s p → Follows g b edges s₀ p₀ s p
    going_end w = cases 0 (where_at 0 w) refl
      where
        cases : (k : ℕ) → Found b w.place k → k ≡ 0 → Follows g b edges s₀ p₀ s p
        cases _ (past rest) z = follow_skip b w.place s₀ p₀ s p w.so_far edges rest
        cases _ (found_at e le lt is rest) z = absurd (omega arith)

    -- the edge at hand
    module _ (at e : ℕ) (eq : at ≡ suc e) (w : Going b at s₀ p₀ s p) where
      here : (k : ℕ) → Found b w.place k → k ≡ suc e → (e < edges) × (source_of e ≡ b) × Follows g b e s₀ p₀ s p
      here _ (past rest) z = absurd (omega arith)
      here _ (found_at d le lt is rest) z =
          let same : d ≡ e = omega arith in
          rw (← same) (lt, is, follow_skip b w.place s₀ p₀ s p w.so_far d rest)

      edge_here : (e < edges) × (source_of e ≡ b) × Follows g b e s₀ p₀ s p
      edge_here = here at (where_at at w) eq

      pub going_on : (at' : ℕ) → at' ≡ link g (source_of e) (suc e) → target_of e < 1024 → Going b at' s₀ p₀ (seeing s (target_of e) s) (seeing s (target_of e) p)
      going_on at' next few =
          let h = edge_here in
          record {
            place = suc e;
            within = h.0;
            is = next ∙ ap (λ (c : ℕ). link g c (suc e)) h.1;
            so_far = follow_see b e s₀ p₀ s p h.2 h.0 h.1 few;
          }

      pub going_less : (at' : ℕ) → at' ≡ link g (source_of e) (suc e) → togo at' < togo at
      unfolding togo
      going_less at' next =
          let h = edge_here in
          rw eq (cases at' h.0 (rw next (rw h.1 (find b (suc e) h.0))))
        where
          cases : (k : ℕ) → e < edges → Found b (suc e) k → togo k < togo (suc e)
          cases _ lt (past rest) = omega arith
          cases _ lt (found_at d le h is rest) = omega arith

  -- ---- the worklist

  pub works_start : (w : List ℕ) → w ≡ including none g.entry → g.entry < 1024 → Works g 0 edges w w
  works_start w is few =
      let has : (c : ℕ) → member w c ≡ (eqb g.entry c || false) = λ c. rw is (member-including none refl g.entry few c ∙ rw (member-none c)) in
      record {
        long = (rw is (length-including none g.entry), rw is (length-including none g.entry));
        sound = λ c h. elim (ℕ_discrete g.entry c) [ yes e ↦ rw (← e) start | no ne ↦ absurd (true≢false (sym h ∙ has c ∙ rw (ne_eqb g.entry c ne))) ];
        first = has g.entry ∙ rw (eq-eqb g.entry g.entry refl);
        pends = λ c h. h;
        closed = λ e lt in-w out f. absurd (out in-w);
      }

  module _ (b : ℕ) (s p : List ℕ) (in_p : In p b) (w : Works g 0 edges s p) where
    less_b : (c : ℕ) → member (excluding p b) c ≡ (not (eqb b c) && member p c)
    less_b c = member-excluding p w.long.1 b c

    works_pop : Works g b 0 s (excluding p b)
    works_pop =
        record {
          long = (w.long.0, length-excluding p b ∙ w.long.1);
          sound = w.sound;
          first = w.first;
          pends = λ c h. w.pends c (second (not (eqb b c)) (member p c) (sym (less_b c) ∙ h));
          closed = λ e lt in-s out f.
              w.closed e lt in-s
              (λ in-p'. out (less_b (source_of e) ∙ rw (ne_eqb b (source_of e) (λ eq. not-suc-le-zero (f (sym eq)))) in-p'))
              (λ eq. lt);
        }
      where
        second : (x y : Bool) → (x && y) ≡ true → y ≡ true
        second true y h = h
        second false y h = absurd (false≢true h)

    -- one turn: b is taken out and followed
    module _ (s' p' : List ℕ) (follows : Follows g b edges s (excluding p b) s' p') where
      after : Followed g b edges s (excluding p b) s' p'
      after = follows (w.pends b in_p) works_pop

      pub turn_works : Works g 0 edges s' p'
      turn_works =
          let v = after.works in
          record { long = v.long; sound = v.sound; first = v.first; pends = v.pends; closed = λ e lt in-s out f. v.closed e lt in-s out (λ eq. lt) }

      pub turn_less : left s' p' < left s p
      turn_less = omega (arith, after.less, size-excluding p w.long.1 b (member_below p b w.long.1 in_p) in_p)

  -- with nothing pending what is seen is what is reached
  pub finds : (s p : List ℕ) → Works g 0 edges s p → ((c : ℕ) → member p c ≡ false) → Finds g s
  finds s p w none_left = record { sound = w.sound; complete = all_in }
    where
      all_in : (b : ℕ) → Reached g b → In s b
      all_in _ start = w.first
      all_in _ (step e lt r) = w.closed e lt (all_in (source_of e) r) (λ in_p. true≢false (sym in_p ∙ none_left (source_of e))) (λ eq. lt)
