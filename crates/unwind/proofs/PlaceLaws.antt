-- Instances in scratch, node by node.
--     entry_root, entry_named      the entry of a node by the step that names its funclet
--     entry_lt, entry_most, entry_built     it is a built block
--     part_none, part-some, part_is     the part of a root, and of a funclet
--     part_rises, rank_most        a part rises, and a rank is small
--     sizes_none, sizes_then_law, sizes_kept, slots_same, slots_less     room
--     same_eq                      the same funclet
--     FirstPlaced, first_next, clone_next     the first node of a funclet, and a later one
--     PlacedTo, placed-none, placed_next, placed_end, placed_over     the nodes before one, all nodes, and too many blocks
-- Assumes nothing.
use mathlib.Core.Path.{◌≡◌, refl, sym, ap, ap₂, ◌∙◌, subst}
use mathlib.Core.Bool.{Bool, true, false, cond, false≢true}
use mathlib.Core.List.{List, []}
use mathlib.Core.Option.{Option, none, some}
use Prim.Native.Nat.{ℕ, zero, suc, ◌+◌, ◌-◌, ◌*◌, ◌≤◌, ◌<◌}
use native.Mathlib.Nat.{not-suc-le-zero}
use native.Mathlib.Numerals.{add-one}
use native.Mathlib.Decide.{ℕ_discrete}
use native.Mathlib.Omega.{arith}
use borrow.Author.Tests.{eq-eqb, eqb-true, le-leb, lt-leb}
use lib.ListN.{length, get_or, length-set, length-map}
use lib.Seq.{get_or-set_same, get_or-set_other}
use Rattle.image.specs.Refusal.{clear, refused, refusal, unless}
use Rattle.image.specs.Image.{RouteImage}
use Rattle.image.specs.Deal.{routes_of}
use Rattle.graph.specs.Graph.{Graph}
use Rattle.graph.specs.Fold.{some as any, flat, count, among}
use Rattle.graph.specs.BlockSet.{member, size_of}
use Rattle.graph.specs.BlockSet as set
use Rattle.graph.specs.WellFormed.{is_built}
use Rattle.graph.proofs.FoldLaws.{length-table, some_same, some_at, count_le}
use Rattle.graph.proofs.BlockLaws.{member-none}
use Rattle.addition.specs.Lists.{upto, rank}
use Rattle.addition.specs.Blocks.{block_in, block_of, leading}
use Rattle.unwind.specs.Stands.{Has}
use Rattle.addition.specs.Part.{funclets, round, rounds, part}
use Rattle.unwind.specs.PartSearch.{Barriers, PartFrom}
use Rattle.addition.specs.Trie.{Node, same_funclet}
use Rattle.unwind.specs.Nodes.{step_in, funclet_in, nodes_in}
use Rattle.addition.specs.Instance.{entry_block, part_of, blocks_of, later, copied, base, entry_of, clone_blocks}
use Rattle.addition.specs.Add.{funclet_check}
use Rattle.addition.specs.Walk.{◌∈◌}
use Rattle.unwind.specs.Placed.{set_at, Slots, SameSizes, Placed, funclet_at, like, NodePlaced, Placing, PlacedAll}
use Rattle.addition.proofs.Lists.{or_left, mem_keep, mem_upto, mem_among, flat-suc, flat_le}
use Rattle.addition.proofs.Accepted.{lead_begins}
use Rattle.addition.proofs.Instance.{place_first, place_later, copied_later}
use Rattle.unwind.proofs.Sets.{none_kept, Rises, part_kept, below_has, size_has, rank_has}
use Rattle.unwind.proofs.CloneLaws.{rank_few}
use Rattle.unwind.proofs.TrieNodes.{length_nodes, funclet_at_law}

-- ---- the funclet of a node

module _ (g : Graph) (m : RouteImage) where
  pub entry_root : (f : ℕ) → f ≡ 0 → entry_block g (funclet_in m f) ≡ 0
  unfolding entry_block funclet_in
  entry_root f e = rw e

  pub entry_named : (f : ℕ) → (f ≡ 0 → ⊥) → entry_block g (funclet_in m f) ≡ block_in (leading g (step_in m (f - 1)).value)
  unfolding entry_block funclet_in block_of
  entry_named zero ne = absurd (ne refl)
  entry_named (suc f) ne = let back : f ≡ suc f - 1 = omega arith in ap (λ (k : ℕ). block_in (leading g (step_in m k).value)) back

  abbrev fs : List ℕ
  fs = funclets (routes_of m)

  pub part_none : (f : ℕ) → f ≡ 0 → Has set.none (part_of g fs (funclet_in m f))
  unfolding part_of funclet_in among
  part_none f e b = rw e (member-none b)

  module _ (f : ℕ) (ne : f ≡ 0 → ⊥) (leads : funclet_check g (funclet_in m f) ≡ clear) where
    abbrev e : ℕ
    e = entry_block g (funclet_in m f)

    pub entry_lt : e < length g.blocks
    unfolding entry_block funclet_in funclet_check
    entry_lt = go f ne leads
      where
        go : (f : ℕ) → (f ≡ 0 → ⊥) → funclet_check g (funclet_in m f) ≡ clear → entry_block g (funclet_in m f) < length g.blocks
        go zero ne c = absurd (ne refl)
        go (suc f) ne c = (lead_begins g (step_in m f).value c).built.exists

    pub entry_built : is_built g e ≡ true
    unfolding entry_block funclet_in funclet_check
    entry_built = go f ne leads
      where
        go : (f : ℕ) → (f ≡ 0 → ⊥) → funclet_check g (funclet_in m f) ≡ clear → is_built g (entry_block g (funclet_in m f)) ≡ true
        go zero ne c = absurd (ne refl)
        go (suc f) ne c = (lead_begins g (step_in m f).value c).built.original

    pub part-some : (w r : List ℕ) → Barriers g (routes_of m) w → PartFrom g w e r → Has r (part_of g fs (funclet_in m f))
    unfolding entry_block funclet_in funclet_check part_of
    part-some = go f ne leads
      where
        go : (f : ℕ) → (f ≡ 0 → ⊥) → funclet_check g (funclet_in m f) ≡ clear → (w r : List ℕ) → Barriers g (routes_of m) w → PartFrom g w (entry_block g (funclet_in m f)) r → Has r (part_of g fs (funclet_in m f))
        go zero ne c w r bars found = absurd (ne refl)
        go (suc f) ne c w r bars found = rw (lead_begins g (step_in m f).value c).address at (found (routes_of m) bars)

  -- as it was found
  pub part_is : (f e : ℕ) (w r : List ℕ) → funclet_check g (funclet_in m f) ≡ clear → Barriers g (routes_of m) w → e ≡ entry_block g (funclet_in m f)
      → (f ≡ 0 → r ≡ set.none) → ((f ≡ 0 → ⊥) → PartFrom g w e r) → Has r (part_of g fs (funclet_in m f))
  part_is f e w r leads bars is root found =
      elim (ℕ_discrete f 0) [
        | yes rooted ↦ rw (root rooted) (part_none f rooted)
        | no ne ↦ part-some f ne leads w r bars (rw is at (found ne))
      ]

  pub entry_most : (f : ℕ) → length g.blocks ≤ 1024 → funclet_check g (funclet_in m f) ≡ clear → entry_block g (funclet_in m f) ≤ 1024
  entry_most f few leads = elim (ℕ_discrete f 0) [ yes e ↦ omega (arith, entry_root f e) | no ne ↦ omega (arith, entry_lt f ne leads) ]

-- ---- a part

entry_in : (g : Graph) (fs : List ℕ) (f e : ℕ) → e < length g.blocks → e ∈ part g fs f e
unfolding part rounds round
entry_in g fs f e h = go (length g.blocks) h
  where
    go : (k : ℕ) → e < k → e ∈ rounds g fs f e k
    go zero lt = absurd (not-suc-le-zero lt)
    go (suc k) lt = mem_keep _ (mem_upto (length g.blocks) e h) (or_left _ (or_left _ (eq-eqb e e refl)))

pub part_rises : (g : Graph) (fs : List ℕ) (o : Option ℕ) → Rises (length g.blocks) (part_of g fs o)
unfolding part_of
part_rises g fs none = record { test = λ b. false; is = sym (none_kept (upto (length g.blocks))) }
part_rises g fs (some f) = part_kept g fs f (block_of g f)

-- the place of the entry among the blocks
entry_rank : (g : Graph) (fs : List ℕ) (o : Option ℕ) (w : List ℕ) → length g.blocks ≤ 1024 → funclet_check g o ≡ clear → Has w (part_of g fs o)
    → count (member w) (entry_block g o) ≡ rank (entry_block g o) (part_of g fs o)
unfolding entry_block part_of funclet_check rank count
entry_rank g fs none w few leads has = refl
entry_rank g fs (some f) w few leads has =
    let e : ℕ = block_of g f in
    rank_has (length g.blocks) few (part g fs f e) (part_kept g fs f e) w has e (has e ∙ mem_among (entry_in g fs f e (lead_begins g f leads).built.exists))

pub same_eq : (a b : Option ℕ) → same_funclet a b ≡ true → a ≡ b
unfolding same_funclet
same_eq none none e = refl
same_eq none (some y) e = absurd (false≢true e)
same_eq (some x) none e = absurd (false≢true e)
same_eq (some x) (some y) e = ap some (eqb-true x y e)

-- a rank is no more than there are blocks
pub rank_most : (parts : List ℕ) (i b : ℕ) → count (member (set_at parts i)) b ≤ 1024
unfolding set_at
rank_most parts i b = rank_few (set_at parts i) (length-table (λ k. get_or parts (16 * i + k) 0) 16) b

-- ---- one node more

pub sizes_none : (bases entries parts : List ℕ) → SameSizes bases entries parts bases entries parts
sizes_none bases entries parts = record { bases_long = refl; entries_long = refl; parts_long = refl }

pub sizes_then_law : {a b c a' b' c' a'' b'' c'' : List ℕ} → SameSizes a b c a' b' c' → SameSizes a' b' c' a'' b'' c'' → SameSizes a b c a'' b'' c''
sizes_then_law x y =
    record { bases_long = y.bases_long ∙ x.bases_long; entries_long = y.entries_long ∙ x.entries_long; parts_long = y.parts_long ∙ x.parts_long }

pub slots_same : {a b c a' b' c' : List ℕ} (n : ℕ) → SameSizes a b c a' b' c' → Slots n a b c → Slots n a' b' c'
slots_same n x s =
    record {
      bases_fit = rw x.bases_long s.bases_fit;
      entries_fit = rw x.entries_long s.entries_fit;
      parts_fit = rw x.parts_long s.parts_fit;
    }

pub slots_less : {a b c : List ℕ} (n k : ℕ) → k ≤ n → Slots n a b c → Slots k a b c
slots_less n k h s =
    record {
      bases_fit = omega (arith, s.bases_fit);
      entries_fit = omega (arith, s.entries_fit);
      parts_fit = omega (arith, s.parts_fit);
    }

pub sizes_kept : {i b e : ℕ} {w bases entries parts bases' entries' parts' : List ℕ} → NodePlaced i b e w bases entries parts bases' entries' parts'
    → SameSizes bases entries parts bases' entries' parts'
sizes_kept {i} {b} {e} {bases = bases} {entries = entries} p =
    record {
      bases_long = ap length p.bases_set ∙ length-set bases i b;
      entries_long = ap length p.entries_set ∙ length-set entries i e;
      parts_long = p.part_put.long;
    }

entries-rest : {i b e : ℕ} {w bases entries parts bases' entries' parts' : List ℕ} → NodePlaced i b e w bases entries parts bases' entries' parts'
    → (j : ℕ) → i < j → get_or entries' j 0 ≡ get_or entries j 0
entries-rest {i} {b} {e} {entries = entries} p j h = rw p.entries_set (get_or-set_other entries i j e 0 (λ same. omega arith))

module _ (g : Graph) (m : RouteImage) (nodes edges ends : List ℕ) (n : ℕ) where
  abbrev z : List Node
  z = nodes_in m nodes edges ends n

  abbrev fs' : List ℕ
  fs' = funclets (routes_of m)

  blocks_at : (i : ℕ) → i < n → blocks_of g fs' z i ≡ part_of g fs' (funclet_at m nodes i)
  unfolding blocks_of
  blocks_at i h = ap (part_of g fs') (funclet_at_law m nodes edges ends n i h)

  later_at : (i : ℕ) → i < n → later g fs' z i ≡ any (like m nodes i) i
  unfolding later
  later_at i h = some_same _ _ i (λ j lt. ap₂ same_funclet (funclet_at_law m nodes edges ends n j (omega arith)) (funclet_at_law m nodes edges ends n i h))

  base_next : (i : ℕ) → base g fs' z (i + 1) ≡ base g fs' z i + length (copied g fs' z i)
  unfolding base
  base_next i = let more = flat-suc (copied g fs' z) i in rw (add-one i) (omega arith)

  copied_first : (i : ℕ) → later g fs' z i ≡ false → copied g fs' z i ≡ []
  unfolding copied
  copied_first i e = rw e

  placed-more : (i b e : ℕ) (w bases entries parts bases' entries' parts' : List ℕ) → i < length bases → i < length entries
      → NodePlaced i b e w bases entries parts bases' entries' parts'
      → b ≡ cond (later g fs' z i) (base g fs' z i) 0 → e ≡ entry_of g fs' z i → Has w (blocks_of g fs' z i)
      → Placed g fs' z bases entries parts i → Placed g fs' z bases' entries' parts' (i + 1)
  placed-more i b e w bases entries parts bases' entries' parts' hb he p is_b is_e has-w old =
      record {
        base_is = λ j h.
            rw p.bases_set
            (elim (ℕ_discrete j i) [
              | yes same ↦ rw same (get_or-set_same bases i b 0 hb ∙ is_b)
              | no ne ↦ get_or-set_other bases i j b 0 ne ∙ old.base_is j (omega arith)
            ]);
        entry_is = λ j h.
            rw p.entries_set
            (elim (ℕ_discrete j i) [
              | yes same ↦ rw same (get_or-set_same entries i e 0 he ∙ is_e)
              | no ne ↦ get_or-set_other entries i j e 0 ne ∙ old.entry_is j (omega arith)
            ]);
        part_has = λ j h.
            elim (ℕ_discrete j i) [
              | yes same ↦ rw (same, p.part_put.here) has-w
              | no ne ↦ rw (p.part_put.others j ne) (old.part_has j (omega arith))
            ];
      }

  entry_original : (i : ℕ) → i < n → later g fs' z i ≡ false → entry_block g (funclet_at m nodes i) ≡ entry_of g fs' z i
  unfolding entry_of
  entry_original i h first = ap (entry_block g) (sym (funclet_at_law m nodes edges ends n i h)) ∙ sym (place_first g (routes_of m) z i _ first)

  entry_copy : (i : ℕ) → i < n → later g fs' z i ≡ true → entry_of g fs' z i ≡ base g fs' z i + rank (entry_block g (funclet_at m nodes i)) (part_of g fs' (funclet_at m nodes i))
  unfolding entry_of
  entry_copy i h is = place_later g (routes_of m) z i _ is ∙ ap₂ (λ (o : Option ℕ) (l : List ℕ). base g fs' z i + rank (entry_block g o) l) (funclet_at_law m nodes edges ends n i h) (blocks_at i h)

  -- the first node with the funclet of node i
  module _ (i j : ℕ) (h : i < n) (lt : j < i) (alike : funclet_at m nodes j ≡ funclet_at m nodes i) (none_before : any (like m nodes i) j ≡ false) where
    entry_alike : (bases entries parts : List ℕ) → Placed g fs' z bases entries parts i → get_or entries j 0 ≡ entry_block g (funclet_at m nodes i)
    entry_alike bases entries parts old =
        let hj : j < n = omega arith in
        let first = later_at j hj ∙ some_same _ (like m nodes i) j (λ k q. ap (same_funclet (funclet_at m nodes k)) alike) ∙ none_before in
        old.entry_is j lt ∙ sym (entry_original j hj first) ∙ ap (entry_block g) alike

  -- the copies of all n nodes
  clones_length : length g.blocks + length (clone_blocks g fs' z) ≡ base g fs' z n
  unfolding base clone_blocks
  clones_length = rw (length-map, length_nodes m nodes edges ends n)

  base_grows : (i j : ℕ) → i ≤ j → base g fs' z i ≤ base g fs' z j
  unfolding base
  base_grows i j h = let more = flat_le (copied g fs' z) i j h in omega arith

-- ---- the first node of a funclet, and a later one

-- node i is the first of its funclet, and is stored so
pub record FirstPlaced (g : Graph) (m : RouteImage) (nodes : List ℕ) (i : ℕ) (bases entries parts bases' entries' parts' : List ℕ) : Type 0 where
  pub part : List ℕ
  pub part_has : Has part (part_of g (funclets (routes_of m)) (funclet_at m nodes i))
  pub placed : NodePlaced i 0 (entry_block g (funclet_at m nodes i)) part bases entries parts bases' entries' parts'

module _ (g : Graph) (m : RouteImage) (nodes : List ℕ) (i : ℕ) (bases entries parts bases' entries' parts' : List ℕ) (s : Slots (i + 1) bases entries parts) where
  pub first_next : (b : ℕ) → any (like m nodes i) i ≡ false → FirstPlaced g m nodes i bases entries parts bases' entries' parts'
      → Placing g m nodes i b 0 bases entries parts bases' entries' parts'
  first_next b f p =
      record {
        few = omega arith;
        sizes = sizes_kept p.placed;
        rest = entries-rest p.placed;
        next = λ edges ends n h is old.
            let first = later_at g m nodes edges ends n i h ∙ f in
            let blocks = blocks_at g m nodes edges ends n i h in
            let size = ap length (copied_first g m nodes edges ends n i first) in (
              placed-more g m nodes edges ends n i _ _ _ _ _ _ _ _ _ (omega (arith, s.bases_fit)) (omega (arith, s.entries_fit)) p.placed (rw first) (entry_original g m nodes edges ends n i h first) (rw blocks p.part_has) old,
              omega (arith, base_next g m nodes edges ends n i),
            );
      }

  module _ (few : length g.blocks ≤ 1024) (leads : funclet_check g (funclet_at m nodes i) ≡ clear) (b r : ℕ) (f : any (like m nodes i) r ≡ false) (lt : r < i) (same : like m nodes i r ≡ true) where
    abbrev w : List ℕ
    w = set_at parts r

    alike : funclet_at m nodes r ≡ funclet_at m nodes i
    alike = same_eq (funclet_at m nodes r) (funclet_at m nodes i) same

    pub clone_next : (k : ℕ) → count (member w) (length g.blocks) ≤ k → k ≤ size_of w → NodePlaced i b (b + count (member w) (get_or entries r 0)) w bases entries parts bases' entries' parts'
        → Placing g m nodes i b k bases entries parts bases' entries' parts'
    clone_next k least most p =
        record {
          few = omega (arith, most, count_le (member w) 1024);
          sizes = sizes_kept p;
          rest = entries-rest p;
          next = λ edges ends n h is old.
              let hr : r < n = omega arith in
              let is_later = later_at g m nodes edges ends n i h ∙ some_at (like m nodes i) i r lt same in
              let blocks-r = blocks_at g m nodes edges ends n r hr ∙ ap (part_of g (funclets (routes_of m))) alike in
              let blocks-i = blocks_at g m nodes edges ends n i h in
              let has : Has w (part_of g (funclets (routes_of m)) (funclet_at m nodes i)) = rw blocks-r at (old.part_has r lt) in
              let entry = entry_alike g m nodes edges ends n i r h lt alike f bases entries parts old in
              let ranked = entry_rank g (funclets (routes_of m)) (funclet_at m nodes i) w few leads has in
              let rises = part_rises g (funclets (routes_of m)) (funclet_at m nodes i) in
              let sized = size_has (length g.blocks) few _ rises w has in
              let below = below_has (length g.blocks) few _ rises w has in
              let copies = ap length (copied_later g (routes_of m) (nodes_in m nodes edges ends n) i is_later ∙ blocks-i) in (
                placed-more g m nodes edges ends n i _ _ _ _ _ _ _ _ _ (omega (arith, s.bases_fit)) (omega (arith, s.entries_fit)) p
                    (rw is_later is)
                    (rw (entry, ranked) (ap (λ (x : ℕ). x + rank (entry_block g (funclet_at m nodes i)) (part_of g (funclets (routes_of m)) (funclet_at m nodes i))) is ∙ sym (entry_copy g m nodes edges ends n i h is_later)))
                    (rw blocks-i has)
                    old,
                omega (arith, base_next g m nodes edges ends n i),
              );
        }

-- ---- all nodes

-- those before node i are placed, and the next copy is block b
pub record PlacedTo (g : Graph) (m : RouteImage) (nodes : List ℕ) (n : ℕ) (bases entries parts : List ℕ) (i b : ℕ) : Type 0 where
  pub at : (edges ends : List ℕ) → b ≡ base g (funclets (routes_of m)) (nodes_in m nodes edges ends n) i
  pub those : (edges ends : List ℕ) → Placed g (funclets (routes_of m)) (nodes_in m nodes edges ends n) bases entries parts i

module _ (g : Graph) (m : RouteImage) (nodes : List ℕ) (n : ℕ) (bases entries parts : List ℕ) where
  pub placed-none : PlacedTo g m nodes n bases entries parts 0 (length g.blocks)
  unfolding base flat
  placed-none =
      record {
        at = λ edges ends. omega arith;
        those = λ edges ends. record { base_is = λ i h. absurd (not-suc-le-zero h); entry_is = λ i h. absurd (not-suc-le-zero h); part_has = λ i h. absurd (not-suc-le-zero h) };
      }

  pub placed_next : (i b r : ℕ) (bases' entries' parts' : List ℕ) → i < n → PlacedTo g m nodes n bases entries parts i b
      → Placing g m nodes i b r bases entries parts bases' entries' parts' → PlacedTo g m nodes n bases' entries' parts' (i + 1) (b + r)
  placed_next i b r bases' entries' parts' h p q =
      record {
        at = λ edges ends. (q.next edges ends n h (p.at edges ends) (p.those edges ends)).1;
        those = λ edges ends. (q.next edges ends n h (p.at edges ends) (p.those edges ends)).0;
      }

  module _ (s : Slots n bases entries parts) (i b : ℕ) (p : PlacedTo g m nodes n bases entries parts i b) where
    pub placed_end : i ≡ n → b ≤ 1024 → PlacedAll g m nodes n bases entries parts clear
    placed_end all most =
        record {
          slots = s;
          check = λ edges ends. sym (ap (λ (t : Bool). unless t (refusal 18 0 0)) (le-leb (length g.blocks + length (clone_blocks g (funclets (routes_of m)) (nodes_in m nodes edges ends n))) 1024 (omega (arith, clones_length g m nodes edges ends n, p.at edges ends, ap (base g (funclets (routes_of m)) (nodes_in m nodes edges ends n)) all))));
          placed = λ edges ends e. subst (λ (k : ℕ). Placed g (funclets (routes_of m)) (nodes_in m nodes edges ends n) bases entries parts k) all (p.those edges ends);
        }

    pub placed_over : i ≤ n → 1024 < b → PlacedAll g m nodes n bases entries parts (refused (refusal 18 0 0))
    placed_over h over =
        record {
          slots = s;
          check = λ edges ends. sym (ap (λ (t : Bool). unless t (refusal 18 0 0)) (lt-leb (length g.blocks + length (clone_blocks g (funclets (routes_of m)) (nodes_in m nodes edges ends n))) 1024 (rw (clones_length g m nodes edges ends n) (omega (arith, p.at edges ends, base_grows g m nodes edges ends n i n h)))));
          placed = λ edges ends e. absurd (let x : ◌≡◌ {A = ℕ} 0 1 = cc in omega arith);
        }
