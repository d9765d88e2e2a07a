-- The search for a part: what is reached in the bounded graph is the part.
--     length-bent, blocks_bent, edge-bent, target_bent, bent_yes, bent_no     the edges of the bounded graph, and how many blocks it has
--     ends_bent, linked_bent       what the search asks of it
--     part_start                   where the search begins
--     bent_lt                      the edge at hand is one of the graph
--     bent_on                      the links of a block, one edge further
--     part_has                     what is reached is the part
--     Seeking, seeking_start, seeking_on, seeking_less, seeking_found, seeking_none     an ordinary edge out of a block, along its links
--     ReturnersTo, returners_none, returners_put, returners_skip, returners_are     the blocks that return
--     common_returns               those of a set
-- Assumes nothing.
use mathlib.Core.Path.{◌≡◌, refl, sym, ap, ◌∙◌}
use mathlib.Core.Bool.{Bool, true, false, cond, not, ◌&&◌, and-false}
use mathlib.Core.Logic.{◌⊎◌, inl, inr, ⊎_elim}
use mathlib.Core.List.{List, [], ◌∷◌, map}
use Prim.Native.Nat.{ℕ, zero, suc, ◌+◌, ◌-◌, ◌<◌}
use native.Mathlib.Decide.{dec_lt, ℕ_discrete}
use native.Mathlib.Omega.{arith}
use borrow.Author.Tests.{eq-eqb, ne_eqb, lt-ltb, le-ltb}
use lib.Dec.{ltb}
use lib.ListN.{length, get_or, drop, length-map, get_or-map}
use Rattle.image.specs.Deal.{UnwindRoute}
use Rattle.graph.specs.declared.record.Edge.{Edge}
use Rattle.graph.specs.Graph.{Graph, edge}
use Rattle.graph.specs.Graph.{no_edge}
use Rattle.graph.specs.Fold.{all, among}
use Rattle.graph.specs.BlockSet.{member, none, including, Common}
use Rattle.graph.specs.Reached.{Reached, start, step}
use Rattle.graph.specs.Search.{Finds, Ends, link_in, link, Linked, Roomy, Works, seeing}
use Rattle.graph.specs.WellFormed.{is_block, edge_ends_exist, is_built}
use Rattle.graph.proofs.FoldLaws.{decided}
use Rattle.graph.proofs.BlockLaws.{member-none, member-including, length-including}
use Rattle.graph.proofs.SearchLaws as search_laws
use Rattle.addition.specs.Lists.{keep, is_empty}
use Rattle.addition.specs.Blocks.{first_of}
use Rattle.addition.specs.Part.{funclets, ordinary, outgoing, part, returning}
use Rattle.unwind.specs.Stands.{Stands, Has}
use Rattle.unwind.specs.PartSearch.{Barriers, Returners, Exist, Returns, followed, bent, bounded}
use Rattle.addition.specs.Walk.{◌∈◌, Built as BuiltBlock, Other, Reach, start as enter, step as onward}
use Rattle.addition.proofs.Lists.{both_ways, and_both, and_true, not_so, mem_get_or, mem_at, at_lt, at_get_or, mem_among, among_mem}
use Rattle.addition.proofs.Sound.{ends_exist}
use Rattle.addition.proofs.Closure.{funclets_mem, ordinary_kind, kind_ordinary, mem_funclets, part_reach, reach_part}
use Rattle.unwind.proofs.Standing.{begins_one}
use Rattle.unwind.proofs.ChainLaws.{chain, OnChain, chain_start, chain_next, chain_none}

-- ---- edges of the bounded graph

all_each : (f : ℕ → Bool) (n : ℕ) → ((i : ℕ) → i < n → f i ≡ true) → all f n ≡ true
unfolding all
all_each f zero each = refl
all_each f (suc n) each = rw (all_each f n (λ i h. each i (omega arith)), each n (omega arith))

drop-map : {A B : Type 0} (f : A → B) (i : ℕ) (l : List A) → drop i (map f l) ≡ map f (drop i l)
drop-map f zero l = refl
drop-map f (suc i) [] = refl
drop-map f (suc i) (x ∷ l) = drop-map f i l

module _ (w : List ℕ) where
  pub bent_yes : (d : Edge) → followed w d ≡ true → bent w d ≡ d
  unfolding bent
  bent_yes d e = rw e

  pub bent_no : (d : Edge) → followed w d ≡ false → (bent w d).target ≡ d.source
  unfolding bent
  bent_no d e = rw e

  bent_source : (d : Edge) → (bent w d).source ≡ d.source
  unfolding bent
  bent_source d = go (followed w d)
    where
      go : (t : Bool) → (cond t d (record { source = d.source; target = d.source; kind = d.kind; role = d.role; number = d.number; key = d.key; source_address = d.source_address; target_address = d.target_address })).source ≡ d.source
      go true = refl
      go false = refl

  bent_zeros : bent w no_edge ≡ no_edge
  unfolding bent
  bent_zeros = go (followed w no_edge)
    where
      go : (t : Bool) → cond t no_edge no_edge ≡ no_edge
      go true = refl
      go false = refl

  link-map : (l : List Edge) (b i : ℕ) → link_in (map (bent w) l) b i ≡ link_in l b i
  unfolding link_in
  link-map [] b i = refl
  link-map (d ∷ l) b i = rw (bent_source d, link-map l b (suc i))

module _ (g : Graph) (w : List ℕ) (e : ℕ) where
  abbrev g' : Graph
  g' = bounded g w e

  pub edge-bent : (i : ℕ) → edge g' i ≡ bent w (edge g i)
  unfolding bounded
  edge-bent i = ap (λ (d : Edge). get_or (map (bent w) g.edges) i d) (sym (bent_zeros w)) ∙ get_or-map (bent w) g.edges i no_edge

  source_bent : (i : ℕ) → (edge g' i).source ≡ (edge g i).source
  source_bent i = ap (λ (d : Edge). d.source) (edge-bent i) ∙ bent_source w (edge g i)

  pub length-bent : length g'.edges ≡ length g.edges
  unfolding bounded
  length-bent = length-map g.edges (bent w)

  pub blocks_bent : length g'.blocks ≡ length g.blocks
  unfolding bounded
  blocks_bent = refl

  -- where an edge of the bounded graph leads
  target_yes : (i : ℕ) → followed w (edge g i) ≡ true → (edge g' i).target ≡ (edge g i).target
  target_yes i t = ap (λ (d : Edge). d.target) (edge-bent i ∙ bent_yes w (edge g i) t)

  target_no : (i : ℕ) → followed w (edge g i) ≡ false → (edge g' i).target ≡ (edge g i).source
  target_no i t = ap (λ (d : Edge). d.target) (edge-bent i) ∙ bent_no w (edge g i) t

  pub target_bent : Ends g → (i : ℕ) → i < length g.edges → (edge g' i).target < length g.blocks
  target_bent ends i h =
      ⊎_elim
      (λ t. rw (target_yes i t) (search_laws.target_lt g ends i h))
      (λ t. rw (target_no i t) (search_laws.source_lt g ends i h))
      (decided (followed w (edge g i)))

  pub ends_bent : Ends g → e < length g.blocks → Ends g'
  unfolding edge_ends_exist is_block bounded
  ends_bent ends h =
      record {
        entry = entered;
        edges =
            all_each (λ (i : ℕ). ltb (edge g' i).source (length g'.blocks) && ltb (edge g' i).target (length g'.blocks)) (length g'.edges)
            (λ i lt. let k : i < length g.edges = rw length-bent at lt in
            rw (source_bent i, blocks_bent) (and_true (lt-ltb _ _ (search_laws.source_lt g ends i k)) (lt-ltb _ _ (target_bent ends i k))));
      }
    where
      entered : ltb g'.entry (length g'.blocks) ≡ true
      entered = lt-ltb e (length g.blocks) h

  link-bent : (b i : ℕ) → link g' b i ≡ link g b i
  unfolding link bounded
  link-bent b i = rw (drop-map (bent w) i g.edges) (link-map w (drop i g.edges) b i)

  pub linked_bent : (head next : List ℕ) (i : ℕ) → Linked g head next i → Linked g' head next i
  linked_bent head next i l =
      record {
        heads = λ b h. l.heads b h ∙ sym (link-bent b i);
        nexts = λ k le lt. l.nexts k le (rw length-bent at lt) ∙ sym (link-bent _ (suc k)) ∙ ap (λ (c : ℕ). link g' c (suc k)) (sym (source_bent k));
      }

  pub part_start : e < 1024 → Works g' 0 (length g'.edges) (including none e) (including none e)
  unfolding bounded
  part_start few = search_laws.works_start g' _ refl few

  -- ---- the links of a block

  pub bent_lt : {b at : ℕ} {s₀ p₀ s p : List ℕ} → search_laws.Going g' b at s₀ p₀ s p → (at ≡ 0 → ⊥) → at - 1 < length g.edges
  bent_lt here ne = rw length-bent at (search_laws.going_lt g' _ _ _ _ _ _ here ne)

  module _ (b : ℕ) (s₀ p₀ s p : List ℕ) (at k : ℕ) (eq : at ≡ suc k) (here : search_laws.Going g' b at s₀ p₀ s p) where
    leaves : (j i : ℕ) → j ≡ suc k → search_laws.Found g' b i j → (edge g' k).source ≡ b
    leaves _ i z (search_laws.past rest) = absurd (omega arith)
    leaves _ i z (search_laws.found_at d le lt is rest) = let same : d ≡ k = omega arith in rw same at is

    from_b : (edge g' k).source ≡ b
    from_b = leaves at here.place eq (rw here.is (search_laws.find g' b here.place here.within))

    -- the edge at hand is followed, or leads back to b
    pub bent_on : (at' : ℕ) → at' ≡ link g' (edge g' k).source (suc k) → (edge g' k).target < 1024
        → search_laws.Going g' b at' s₀ p₀ (cond (followed w (edge g k)) (seeing s (edge g k).target s) s) (cond (followed w (edge g k)) (seeing s (edge g k).target p) p)
    bent_on at' next few =
        let on = search_laws.going_on g' b s₀ p₀ s p at k eq here at' next few in
        ⊎_elim
        (λ t. rw t (rw (target_yes k t) at on))
        (λ t. rw t (back (edge g' k).target (target_no k t ∙ sym (source_bent k) ∙ from_b) on))
        (decided (followed w (edge g k)))
      where
        back : (t : ℕ) → t ≡ b → search_laws.Going g' b at' s₀ p₀ (seeing s t s) (seeing s t p) → search_laws.Going g' b at' s₀ p₀ s p
        back t is on =
            record {
              place = on.place;
              within = on.within;
              is = on.is;
              so_far = λ in_b works. rw (is, (here.so_far in_b works).from) at (on.so_far in_b works);
            }

-- ---- what is reached is the part

module _ (g : Graph) (stands : Stands g) (w : List ℕ) (e : ℕ) (entry : BuiltBlock g e) (rs : List UnwindRoute) (bars : Barriers g rs w) where
  abbrev f : ℕ
  f = (first_of g e).address

  abbrev g'' : Graph
  g'' = bounded g w e

  -- what w bars starts another funclet, or is the entry
  bars_other : (c : ℕ) → c < length g.blocks → member w c ≡ true → (Other g rs f c → ⊥) → c ≡ e
  bars_other c h m out =
      let x = and_both (is_built g c) (among (funclets rs) (first_of g c).address) (sym (bars.bars c h) ∙ m) in
      let begun : BuiltBlock g c = record { exists = h; original = x.0 } in
      elim (ℕ_discrete (first_of g c).address f) [
        | yes same ↦ begins_one g stands f c e (record { built = begun; address = same }) (record { built = entry; address = refl })
        | no other ↦
            absurd (out (record {
              funclet = (first_of g c).address;
              named = funclets_mem rs _ (among_mem (funclets rs) _ x.1);
              another = other;
              begins = record { built = begun; address = refl };
            }))
      ]

  other_bars : (c : ℕ) → Other g rs f c → member w c ≡ true
  other_bars c o =
      let a : (first_of g c).address ≡ o.funclet = o.begins.address in
      bars.bars c o.begins.built.exists ∙ and_true o.begins.built.original (rw a (mem_among (mem_funclets rs o.funclet o.named)))

  targets : (d : Edge) → d ∈ g.edges → d.target < length g.blocks
  targets d m = (ends_exist g stands.ends.edges d m).1

  forth : {b : ℕ} → Reached g'' b → Reach g rs f e b
  unfolding bounded followed
  forth start = enter
  forth (step i lt r) = go (decided (followed w (edge g i))) (forth r)
    where
      h : i < length g.edges
      h = rw (length-bent g w e) at lt

      go : (followed w (edge g i) ≡ true) ⊎ (followed w (edge g i) ≡ false) → Reach g rs f e (edge g'' i).source → Reach g rs f e (edge g'' i).target
      go (inl t) r =
          let x = and_both (ordinary (edge g i)) (not (member w (edge g i).target)) t in
          let k = ordinary_kind (edge g i) x.0 in
          rw (target_yes g w e i t) (onward (rw (source_bent g w e i) at r) (edge g i) (mem_get_or g.edges i _ h) refl refl k.0 k.1 (λ o. not_so _ x.1 (other_bars _ o)))
      go (inr t) r = rw (target_no g w e i t, ← source_bent g w e i) r

  back : {b : ℕ} → Reach g rs f e b → Reached g'' b
  unfolding bounded followed
  back enter = start
  back (onward {b = b} {c = c} r d there from to u k o) = go (decided (member w c)) (back r)
    where
      i : ℕ
      i = (mem_at there).0

      is : edge g i ≡ d
      is = at_get_or g.edges (mem_at there).0 no_edge (mem_at there).1

      h : i < length g.edges
      h = at_lt g.edges (mem_at there).0 (mem_at there).1

      go : (member w c ≡ true) ⊎ (member w c ≡ false) → Reached g'' b → Reached g'' c
      go (inl m) below = rw (bars_other c (rw to at (targets d there)) m o) start
      go (inr m) below =
          let t : followed w (edge g i) ≡ true = ap (followed w) is ∙ and_true (kind_ordinary d u k) (ap (λ (x : ℕ). not (member w x)) to ∙ ap not m) in
          let s : (edge g'' i).source ≡ b = source_bent g w e i ∙ ap (λ (x : Edge). x.source) is ∙ from in
          rw (← (target_yes g w e i t ∙ ap (λ (x : Edge). x.target) is ∙ to)) (step i (rw (length-bent g w e) h) (rw s below))

  pub part_has : (r : List ℕ) → Finds g'' r → Has r (part g (funclets rs) f e)
  part_has r finds b =
      both_ways _ _
      (λ m. mem_among (reach_part g rs f e targets entry.exists (forth (finds.sound b m))))
      (λ m. finds.complete b (back (part_reach g rs f e b (among_mem _ b m))))

-- ---- an ordinary edge out of a block

module _ (g : Graph) (b : ℕ) where
  -- no ordinary edge out of b stands before the link `at`
  pub record Seeking (at : ℕ) : Type 0 where
    pub on : OnChain g b at
    pub rest : keep ordinary (chain g b at) ≡ keep ordinary (outgoing g b)

  pub seeking_none : (at : ℕ) → at ≡ 0 → Seeking at → not (is_empty (keep ordinary (outgoing g b))) ≡ false
  unfolding keep is_empty
  seeking_none at z s = rw (← s.rest, chain_none g b at z)

  module _ (head next : List ℕ) (ends : Ends g) (roomy : Roomy g head next) (linked : Linked g head next 0) where
    pub seeking_start : (at : ℕ) → at ≡ get_or head b 0 → Seeking at
    seeking_start at is =
        let s = chain_start g b head next ends roomy linked at is in
        record { on = s.0; rest = ap (keep ordinary) s.1 }

    module _ (at e : ℕ) (eq : at ≡ suc e) (s : Seeking at) where
      further : (at' : ℕ) → at' ≡ get_or next e 0 → OnChain g b at' × (chain g b at ≡ edge g e ∷ chain g b at')
      further at' is = chain_next g b head next ends roomy linked at e at' eq s.on is

      pub seeking_found : ordinary (edge g e) ≡ true → not (is_empty (keep ordinary (outgoing g b))) ≡ true
      unfolding keep is_empty
      seeking_found is = rw (← s.rest, (further _ refl).1, is)

      pub seeking_on : (at' : ℕ) → at' ≡ get_or next e 0 → ordinary (edge g e) ≡ false → Seeking at'
      unfolding keep
      seeking_on at' next' out =
          let k = further at' next' in
          record { on = k.0; rest = sym (ap (keep ordinary) k.1 ∙ rw out) ∙ s.rest }

      pub seeking_less : (at' : ℕ) → at' ≡ get_or next e 0 → length (chain g b at') < length (chain g b at)
      seeking_less at' next' = omega (arith, ap length (further at' next').1)

-- ---- the blocks that return

-- the set with those below b that return
pub record ReturnersTo (g : Graph) (b : ℕ) (w : List ℕ) : Type 0 where
  pub long : length w ≡ 16
  pub has : (c : ℕ) → member w c ≡ (ltb c b && returning g c)

module _ (g : Graph) where
  pub returners_none : ReturnersTo g 0 none
  returners_none = record { long = refl; has = λ c. member-none c ∙ rw (le-ltb c 0 (omega arith)) }

  module _ (b : ℕ) (w : List ℕ) (x : ReturnersTo g b w) where
    -- another block than b
    apart : (c : ℕ) → (b ≡ c → ⊥) → member w c ≡ (ltb c (b + 1) && returning g c)
    apart c ne =
        x.has c
        ∙ elim (dec_lt c b) [
          | yes lt ↦ rw (lt-ltb c b lt, lt-ltb c (b + 1) (omega arith))
          | no ge ↦ rw (le-ltb c b (omega arith), le-ltb c (b + 1) (omega arith))
        ]

    pub returners_put : b < 1024 → returning g b ≡ true → ReturnersTo g (b + 1) (including w b)
    returners_put few is =
        record {
          long = length-including w b ∙ x.long;
          has = λ c.
              member-including w x.long b few c
              ∙ elim (ℕ_discrete b c) [
                | yes e ↦ rw (← e, eq-eqb b b refl, lt-ltb b (b + 1) (omega arith), is)
                | no ne ↦ rw (ne_eqb b c ne) (apart c ne)
              ];
        }

    pub returners_skip : returning g b ≡ false → ReturnersTo g (b + 1) w
    returners_skip out =
        record {
          long = x.long;
          has = λ c.
              elim (ℕ_discrete b c) [
                | yes e ↦ rw (← e) (x.has b ∙ rw out (and-false (ltb b b) ∙ sym (and-false (ltb b (b + 1)))))
                | no ne ↦ apart c ne
              ];
        }

  pub returners_are : (w : List ℕ) → ReturnersTo g (length g.blocks) w → Returners g w
  returners_are w x = record { which = λ b h. x.has b ∙ rw (lt-ltb b _ h) }

-- ---- those of a set

-- those of u that return, where v has all that do
pub common_returns : (g : Graph) (u v w : List ℕ) → Common u v w → Returners g v → Exist g u → Returns g u w
common_returns g u v w both returners exist =
    record { those = λ b. both b ∙ ⊎_elim (λ m. rw m (returners.which b (exist b m))) (λ m. rw m) (decided (member u b)) }
