-- The graph after the addition: its blocks, its edges, and what they lead to.
--     sum_same                     a sum hangs on f below n alone
--     filled-after                 as much of the table is filled before an old block
--     built_up, built_down         the built blocks are the same afterwards
--     old_block, image_block       the block at an old number, and where an instance has a block
--     same_first, same_last        blocks with the same run have the same first and last instruction
--     Kin, kin                     an edge afterwards is an old one, a clone's, or an unwind edge
--     out_forth, out_back          the ordinary edges out of an instance are those of the part, moved
use mathlib.Core.Path.{◌≡◌, refl, sym, ◌∙◌, ap, subst}
use mathlib.Core.Logic.{◌⊎◌, inl, inr}
use mathlib.Core.Bool.{true, false, ◌||◌}
use mathlib.Core.List.Memᴰ
use mathlib.Core.List.{List, ◌++◌, map}
use mathlib.Core.Option.{some}
use Prim.Native.Nat.{ℕ, zero, suc, ◌+◌, ◌≤◌, ◌<◌}
use native.Mathlib.Omega.{arith}
use native.Mathlib.Decide.{dec_lt}
use borrow.Author.Tests.{eq-eqb, eqb-true, ltb-true}
use lib.Dec.{eqb, ltb}
use lib.ListN.{length, get_or, length-append, get_or-append}
use lib.Seq.{get_or-append-add}
use Rattle.image.specs.Deal.{UnwindRoute}
use Rattle.graph.specs.declared.record.Block.{Block}
use Rattle.graph.specs.declared.record.Edge.{Edge}
use Rattle.graph.specs.Graph.{Graph, block as block_at}
use Rattle.graph.specs.Fold.{flat, sum}
use Rattle.graph.specs.Flow.{Kind}
use Rattle.graph.specs.WellFormed.{filled, is_built}
use Rattle.addition.specs.Lists.{rank}
use Rattle.addition.specs.Blocks.{first_of, last_of}
use Rattle.addition.specs.Part.{funclets, outgoing}
use Rattle.addition.specs.Trie.{Node}
use Rattle.addition.specs.Instance.{blocks_of, later, copied, base, place, moved, clone_blocks, clone_edge, clone_edges}
use Rattle.addition.specs.Add.{extended}
use Rattle.addition.specs.Walk.{◌∈◌, Built}
use Rattle.addition.proofs.Lists.{at, or_either, mem_keep, mem_joined, mem_map, mem_flat, at_map, at_get_or, at_rank, at_flat}
use Rattle.addition.proofs.Sound.{Sound}
use Rattle.addition.proofs.Instance.{first_or_later, blocks_lt, place_first, place_later, copied_later, place_apart, clone_owner, later_above, moved_first}
use Rattle.addition.proofs.NewEdges.{Clone, copies, cloned}

-- ---- built blocks

pub sum_same : (f f' : ℕ → ℕ) (n : ℕ) → ((i : ℕ) → i < n → f i ≡ f' i) → sum f n ≡ sum f' n
unfolding sum
sum_same f f' zero same = refl
sum_same f f' (suc n) same = omega (arith, sum_same f f' n (λ i h. same i (omega arith)), same n (omega arith))

sum_le : (f : ℕ → ℕ) (m n : ℕ) → m ≤ n → sum f m ≤ sum f n
unfolding sum
sum_le f m zero h = let e : m ≡ 0 = omega arith in rw e (omega arith)
sum_le f m (suc n) h = go (dec_lt n m) (λ (k : m ≤ n). sum_le f m n k)
  where
    go : Dec (n < m) → (m ≤ n → sum f m ≤ sum f n) → sum f m ≤ sum f n + f n
    go (yes k) below = let e : m ≡ suc n = omega arith in rw e (omega arith)
    go (no k) below = omega (arith, below (omega arith))

filled_le : (g : Graph) (m n : ℕ) → m ≤ n → filled g m ≤ filled g n
unfolding filled
filled_le g m n h = sum_le (λ (a : ℕ). (block_at g a).count) m n h

module _ (g : Graph) (bs : List Block) (es : List Edge) where
  pub old_block : (b : ℕ) → b < length g.blocks → block_at (extended g bs es) b ≡ block_at g b
  unfolding extended
  old_block b h = get_or-append g.blocks bs _ b h

  pub filled-after : (b : ℕ) → b ≤ length g.blocks → filled (extended g bs es) b ≡ filled g b
  unfolding filled
  filled-after b h = sum_same (λ (a : ℕ). (block_at (extended g bs es) a).count) (λ (a : ℕ). (block_at g a).count) b (λ a k. ap (λ (x : Block). x.count) (old_block a (omega arith)))

  same_built : (b : ℕ) → b < length g.blocks → is_built (extended g bs es) b ≡ is_built g b
  unfolding is_built extended
  same_built b h = ap (λ (k : ℕ). eqb b 0 || ltb k (length g.table)) (filled-after b (omega arith))

  -- the built blocks are the same afterwards
  pub built_up : (b : ℕ) → Built g b → Built (extended g bs es) b
  unfolding extended
  built_up b x =
      let h : b < length g.blocks = x.exists in
      record { exists = omega (arith, length-append g.blocks bs); original = same_built b h ∙ x.original }

  pub built_down : Sound g → (b : ℕ) → Built (extended g bs es) b → Built g b
  unfolding is_built extended
  built_down s b x = go (dec_lt b (length g.blocks))
    where
      out : (length g.blocks ≤ b) → (eqb b 0 ≡ true) ⊎ (ltb (filled (extended g bs es) b) (length g.table) ≡ true) → ⊥
      out h (inl e) = omega (arith, eqb-true b 0 e, s.some_block)
      out h (inr e) =
          omega (
            arith,
            ltb-true (filled (extended g bs es) b) (length g.table) e,
            s.covered,
            filled_le (extended g bs es) (length g.blocks) b h,
            filled-after (length g.blocks) (omega arith),
          )

      go : Dec (b < length g.blocks) → Built g b
      go (yes h) = record { exists = h; original = sym (same_built b h) ∙ x.original }
      go (no h) = absurd (out (omega arith) (or_either (eqb b 0) _ x.original))

  pub same_first : (b c : ℕ) → block_at (extended g bs es) b ≡ block_at g c → first_of (extended g bs es) b ≡ first_of g c
  unfolding first_of extended
  same_first b c e = rw e

  pub same_last : (b c : ℕ) → block_at (extended g bs es) b ≡ block_at g c → last_of (extended g bs es) b ≡ last_of g c
  unfolding last_of extended
  same_last b c e = rw e

-- ---- blocks and edges of instances

-- the graph before, the routes, the nodes, and new edges that are all unwind edges
module _ (g : Graph) (rs : List UnwindRoute) (z : List Node) (new : List Edge) (unwinds : (d : Edge) → d ∈ new → d.kind ≡ Kind.exception_unwind) (sound : Sound g) where
  abbrev fs : List ℕ
  fs = funclets rs

  -- the graph after
  abbrev pub after : Graph
  after = extended g (clone_blocks g fs z) (clone_edges g fs z ++ new)

  copy_block : (i b : ℕ) → i < length z → b ∈ blocks_of g fs z i → later g fs z i ≡ true → block_at after (base g fs z i + rank b (blocks_of g fs z i)) ≡ block_at g b
  unfolding extended clone_blocks base
  copy_block i b h m l =
      let r : ℕ = rank b (blocks_of g fs z i) in
      let before : ℕ = length (flat (copied g fs z) i) in
      let here : at (copied g fs z i) r ≡ some b = ap (λ (x : List ℕ). at x r) (copied_later g rs z i l) ∙ at_rank m in
      let sum : length g.blocks + before + r ≡ length g.blocks + (before + r) = omega arith in
      let bs : List Block = map (block_at g) (flat (copied g fs z) (length z)) in
      ap (λ (k : ℕ). get_or (g.blocks ++ bs) k (record { first = 0; count = 0 })) sum
      ∙ get_or-append-add g.blocks bs (before + r) (record { first = 0; count = 0 })
      ∙ at_get_or bs (before + r) (record { first = 0; count = 0 })
      (at_map (block_at g) (flat (copied g fs z) (length z)) (before + r) (at_flat (copied g fs z) (length z) i r h here))

  pub image_block : (i b : ℕ) → i < length z → b ∈ blocks_of g fs z i → block_at after (place g fs z i b) ≡ block_at g b
  image_block i b h m = go (first_or_later g rs z i)
    where
      go : (later g fs z i ≡ true) ⊎ (later g fs z i ≡ false) → block_at after (place g fs z i b) ≡ block_at g b
      go (inl l) = ap (block_at after) (place_later g rs z i b l) ∙ copy_block i b h m l
      go (inr l) = ap (block_at after) (place_first g rs z i b l) ∙ old_block g (clone_blocks g fs z) (clone_edges g fs z ++ new) b (blocks_lt g rs z i b m)

  -- an edge of the graph after
  pub data Kin (d : Edge) : Type 0 where
    old : d ∈ g.edges → Kin d
    clone : Clone g rs z d → Kin d
    unwind : d.kind ≡ Kind.exception_unwind → Kin d

  kin : (d : Edge) → d ∈ after.edges → Kin d
  unfolding extended
  kin d m = sort (Memᴰ.append_cases g.edges m)
    where
      sort' : (d ∈ clone_edges g fs z) ⊎ (d ∈ new) → Kin d
      sort' (inl k) = clone (cloned g rs z d k)
      sort' (inr k) = unwind (unwinds d k)

      sort : (d ∈ g.edges) ⊎ (d ∈ clone_edges g fs z ++ new) → Kin d
      sort (inl k) = old k
      sort (inr k) = sort' (Memᴰ.append_cases (clone_edges g fs z) k)

  -- an edge out of an instance's block that is no new unwind edge is one out of the block itself, moved
  pub record Moves (i b : ℕ) (d d₀ : Edge) : Type 0 where
    pub stood : d₀ ∈ g.edges
    pub from : d₀.source ≡ b
    pub kind : d.kind ≡ d₀.kind
    pub to : d.target ≡ moved g fs z i d₀.target

  pub out_forth : (i b : ℕ) → b ∈ blocks_of g fs z i → (d : Edge) → d ∈ after.edges → d.source ≡ place g fs z i b
      → (d.kind ≡ Kind.exception_unwind → ⊥) → (d₀ : Edge) × Moves i b d d₀
  unfolding clone_edge
  out_forth i b m d there s n = go (kin d there) (first_or_later g rs z i)
    where
      go : Kin d → (later g fs z i ≡ true) ⊎ (later g fs z i ≡ false) → (d₀ : Edge) × Moves i b d d₀
      go (unwind k) l = absurd (n k)
      go (old k) (inl l) = absurd (omega (arith, s, sound.sources d k, later_above g rs z i b l))
      go (old k) (inr l) = (d, record { stood = k; from = s ∙ place_first g rs z i b l; kind = refl; to = sym (moved_first g rs z i d.target l) })
      go (clone x) l' =
          let c : ℕ = x.edge.source in
          let at_j : place g fs z x.node c ≡ place g fs z i b = sym (ap (λ (y : Edge). y.source) x.is) ∙ s in
          let same : x.node ≡ i = clone_owner g rs z x.node i c b x.later x.out m at_j in
          let k' : c ∈ blocks_of g fs z i = subst (λ (j : ℕ). c ∈ blocks_of g fs z j) same x.out in (
            x.edge,
            record {
              stood = x.stood;
              from = place_apart g rs z i c b k' m (ap (λ (j : ℕ). place g fs z j c) (sym same) ∙ at_j);
              kind = ap (λ (y : Edge). y.kind) x.is;
              to = ap (λ (y : Edge). y.target) x.is ∙ ap (λ (j : ℕ). moved g fs z j x.edge.target) same;
            },
          )

  pub record Stands (i b : ℕ) (d d₀ : Edge) : Type 0 where
    pub there : d ∈ after.edges
    pub from : d.source ≡ place g fs z i b
    pub kind : d.kind ≡ d₀.kind
    pub to : d.target ≡ moved g fs z i d₀.target

  pub out_back : (i b : ℕ) → i < length z → b ∈ blocks_of g fs z i → (d₀ : Edge) → d₀ ∈ g.edges → d₀.source ≡ b → (d : Edge) × Stands i b d d₀
  unfolding extended clone_edges clone_edge outgoing
  out_back i b h m d₀ k s = go (first_or_later g rs z i)
    where
      go : (later g fs z i ≡ true) ⊎ (later g fs z i ≡ false) → (d : Edge) × Stands i b d d₀
      go (inr l) =
          (d₀, record { there = Memᴰ.append_left _ k; from = s ∙ sym (place_first g rs z i b l); kind = refl; to = sym (moved_first g rs z i d₀.target l) })
      go (inl l) =
          let c : b ∈ copied g fs z i = subst (λ (x : List ℕ). b ∈ x) (sym (copied_later g rs z i l)) m in
          let o : d₀ ∈ outgoing g b = mem_keep (λ (d : Edge). eqb d.source b) k (eq-eqb _ b s) in
          let e : clone_edge g fs z i d₀ ∈ copies g rs z i = mem_joined (λ (b : ℕ). map (clone_edge g fs z i) (outgoing g b)) c (mem_map (clone_edge g fs z i) o) in (
            clone_edge g fs z i d₀,
            record {
              there = Memᴰ.append_right g.edges (Memᴰ.append_left new (mem_flat (copies g rs z) (length z) i h e));
              from = ap (place g fs z i) s;
              kind = refl;
              to = refl;
            },
          )
