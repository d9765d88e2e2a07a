-- Copies of blocks and edges stored one by one, by the graph that is lent.
--     blocks_kept, blocks_grow, blocks_stay, first_kept, edges_grow     what stood is as it was
--     first_all, linked_start, linked_kept, edge_stood     the first edges stay linked
--     BlocksGoing, blocks_start, blocks_next, blocks_end     the blocks of a set
--     no_blocks, node_blocks, node_skips     the blocks of a node more
--     EdgesGoing, edges_start, edge_here, edges_next, edges_end, chain_less     the edges out of a block
--     SetGoing, set_start, set_next, set_end     the edges out of the blocks of a set
--     copies_from, no_copies, edges_node, edges_skip     those of a node more
--     map_same                     f and g agree on a list
-- Assumes nothing.
use mathlib.Core.Path.{◌≡◌, refl, sym, ap, ap₂, ◌∙◌, subst}
use mathlib.Core.Bool.{Bool, true, false, cond}
use mathlib.Core.List.Memᴰ
use mathlib.Core.List.{List, [], ◌∷◌, ◌++◌, map, append-nil, append_assoc, map-append}
use Prim.Native.Nat.{ℕ, suc, ◌+◌, ◌≤◌, ◌<◌}
use native.Mathlib.Nat.{le_trans}
use native.Mathlib.Omega.{arith}
use lib.Dec.{ltb}
use lib.ListN.{length, get_or, take, length-append}
use lib.Seq.{take-append-le, take-length, get_or-take, length-take-le}
use Rattle.graph.specs.declared.store.Graph.{Graph as Lent}
use Rattle.graph.specs.declared.record.Block.{Block}
use Rattle.graph.specs.declared.record.Edge.{Edge}
use Rattle.graph.specs.Graph.{Graph, Held, block, edge}
use Rattle.graph.specs.Lent.{Part, held_of}
use Rattle.graph.specs.Fold.{flat}
use Rattle.graph.specs.BlockSet.{member, excluding}
use Rattle.graph.specs.Search.{Ends, Linked, Roomy}
use Rattle.graph.specs.Stored.{more, edges_in, blocks_in, with_block, with_edge, Stored}
use Rattle.graph.specs.Adding.{mores, adding, with_blocks, Added}
use Rattle.graph.proofs.FoldLaws.{flat-more}
use Rattle.graph.proofs.BlockLaws.{length-excluding}
use Rattle.graph.proofs.AddingLaws.{added_none, added_then, edge_added, blocks_none, blocks_then, block_one}
use Rattle.addition.specs.Lists.{joined, upto}
use Rattle.addition.specs.Part.{outgoing}
use Rattle.unwind.specs.Placed.{set_at}
use Rattle.addition.specs.Walk.{◌∈◌}
use Rattle.unwind.specs.Clones.{list_of, copies_in, copy_of, block_copies, edge_copies, first_edges, LinkedTo}
use Rattle.addition.proofs.Lists.{keep_mem}
use Rattle.unwind.proofs.ChainLaws.{chain, OnChain, chain_start, chain_next, chain_none, list_none, list_front}
use Rattle.unwind.proofs.CloneLaws.{excluding_in, copies_none, copies_some, none_next, some_next}

-- ---- what stood is as it was

module _ {A : Type 0} (most : ℕ) where
  more_long : (p : Part A) (a : A) → length p.list ≤ length (more most p a).list
  unfolding more
  more_long p a = go (ltb p.count most)
    where
      go : (b : Bool) → length p.list ≤ length (cond {A = Part A} b (record { count = p.count + 1; list = p.list ++ (a ∷ []) }) p).list
      go true = rw (length-append p.list (a ∷ [])) (omega arith)
      go false = omega arith

  more_first : (p : Part A) (a : A) (m : ℕ) → m ≤ length p.list → take m (more most p a).list ≡ take m p.list
  unfolding more
  more_first p a m h = go (ltb p.count most)
    where
      go : (b : Bool) → take m (cond {A = Part A} b (record { count = p.count + 1; list = p.list ++ (a ∷ []) }) p).list ≡ take m p.list
      go true = take-append-le m p.list (a ∷ []) h
      go false = refl

  mores_long : (p : Part A) (l : List A) → length p.list ≤ length (mores most p l).list
  unfolding mores
  mores_long p [] = omega arith
  mores_long p (a ∷ l) = le_trans (more_long p a) (mores_long (more most p a) l)

  mores_first : (p : Part A) (l : List A) (m : ℕ) → m ≤ length p.list → take m (mores most p l).list ≡ take m p.list
  unfolding mores
  mores_first p [] m h = refl
  mores_first p (a ∷ l) m h = mores_first (more most p a) l m (le_trans h (more_long p a)) ∙ more_first p a m h

module _ {l l' : Lent} (bs : List Block) (stored : Stored l l' (with_blocks (held_of l) bs)) where
  pub blocks_grow : length (held_of l).graph.blocks ≤ length (held_of l').graph.blocks
  unfolding with_blocks
  blocks_grow = rw stored.holds (mores_long 1024 (blocks_in (held_of l)) bs)

  pub blocks_kept : (b : ℕ) → b < length (held_of l).graph.blocks → block (held_of l').graph b ≡ block (held_of l).graph b
  unfolding with_blocks
  blocks_kept b h =
      let n : ℕ = suc b in
      let first : take n (held_of l').graph.blocks ≡ take n (held_of l).graph.blocks = rw stored.holds (mores_first 1024 (blocks_in (held_of l)) bs n h) in
      sym (get_or-take n (held_of l').graph.blocks b _ (omega arith)) ∙ ap (λ (k : List Block). get_or k b (record { first = 0; count = 0 })) first ∙ get_or-take n (held_of l).graph.blocks b _ (omega arith)

module _ {l l' : Lent} {es : List Edge} (added : Added l l' es [] []) where
  pub blocks_stay : (held_of l').graph.blocks ≡ (held_of l).graph.blocks
  unfolding adding
  blocks_stay = ap (λ (h : Held). h.graph.blocks) added.stored.holds

  pub edges_grow : length (held_of l).graph.edges ≤ length (held_of l').graph.edges
  unfolding adding
  edges_grow = rw added.stored.holds (mores_long 4096 (edges_in (held_of l)) es)

  pub first_kept : (m : ℕ) → m ≤ length (held_of l).graph.edges → first_edges (held_of l').graph m ≡ first_edges (held_of l).graph m
  unfolding adding first_edges mores
  first_kept m h =
      let g : Graph = (held_of l).graph in
      ap (λ (k : Held). first_edges k.graph m) added.stored.holds
      ∙ ap (λ (k : List Edge). record { entry = g.entry; table = g.table; blocks = g.blocks; edges = k; regions = g.regions; handlers = g.handlers; unresolved = g.unresolved; calls = g.calls }) (mores_first 4096 (edges_in (held_of l)) es m h)

  pub linked_kept : (m : ℕ) (head next : List ℕ) → LinkedTo (held_of l).graph m head next → LinkedTo (held_of l').graph m head next
  linked_kept m head next k =
      let same = first_kept m k.stood in
      record { stood = le_trans k.stood edges_grow; ends = rw same k.ends; roomy = rw same k.roomy; linked = rw same k.linked }

pub first_all : (g : Graph) → first_edges g (length g.edges) ≡ g
unfolding first_edges
first_all g = ap (λ (k : List Edge). record { entry = g.entry; table = g.table; blocks = g.blocks; edges = k; regions = g.regions; handlers = g.handlers; unresolved = g.unresolved; calls = g.calls }) (take-length g.edges)

pub linked_start : (g : Graph) (head next : List ℕ) → Ends g → Roomy g head next → Linked g head next 0 → LinkedTo g (length g.edges) head next
linked_start g head next ends roomy linked =
    record { stood = omega arith; ends = rw (first_all g) ends; roomy = rw (first_all g) roomy; linked = rw (first_all g) linked }

pub edge_stood : (g : Graph) (m e : ℕ) → e < m → edge g e ≡ edge (first_edges g m) e
unfolding first_edges
edge_stood g m e h = sym (get_or-take m g.edges e _ h)

-- ---- the blocks of a set

pub record BlocksGoing (l₀ l : Lent) (w left : List ℕ) : Type 0 where
  pub long : length left ≡ 16
  pub inside : (c : ℕ) → member left c ≡ true → c < length (held_of l₀).graph.blocks
  pub done : List Block
  pub stored : Stored l₀ l (with_blocks (held_of l₀) done)
  pub rest : done ++ map (block (held_of l₀).graph) (list_of left) ≡ map (block (held_of l₀).graph) (list_of w)

pub blocks_start : (l : Lent) (w : List ℕ) → length w ≡ 16 → ((c : ℕ) → member w c ≡ true → c < length (held_of l).graph.blocks) → BlocksGoing l l w w
blocks_start l w long inside = record { long = long; inside = inside; done = []; stored = blocks_none l; rest = refl }

module _ (l₀ l : Lent) (w left : List ℕ) (p : BlocksGoing l₀ l w left) where
  pub blocks_end : ((c : ℕ) → member left c ≡ false) → Stored l₀ l (with_blocks (held_of l₀) (map (block (held_of l₀).graph) (list_of w)))
  blocks_end none =
      rw (sym p.rest ∙ ap (λ (k : List ℕ). p.done ++ map (block (held_of l₀).graph) k) (list_none left none) ∙ append-nil p.done) p.stored

  pub blocks_next : (b : ℕ) → b < 1024 → member left b ≡ true → ((c : ℕ) → c < b → member left c ≡ false) → (l' : Lent) (r : Block) → r ≡ block (held_of l).graph b
      → Stored l l' (with_block (held_of l) r) → BlocksGoing l₀ l' w (excluding left b)
  blocks_next b h is low l' r read st =
      let g = (held_of l₀).graph in
      let same : r ≡ block g b = read ∙ blocks_kept p.done p.stored b (p.inside b is) in
      record {
        long = length-excluding left b ∙ p.long;
        inside = λ c m. p.inside c (excluding_in left p.long b c m);
        done = p.done ++ (block g b ∷ []);
        stored = blocks_then p.done (block g b ∷ []) p.stored (block_one (block g b) (rw same at st));
        rest = append_assoc p.done (block g b ∷ []) _ ∙ ap (λ (k : List ℕ). p.done ++ map (block g) k) (sym (list_front left b p.long h is low)) ∙ p.rest;
      }

pub map_same : {A B : Type 0} (f g : A → B) (l : List A) → ((x : A) → x ∈ l → f x ≡ g x) → map f l ≡ map g l
map_same f g [] same = refl
map_same f g (x ∷ l) same = ap₂ (λ (a : _) (r : List _). a ∷ r) (same x (Memᴰ.head refl)) (map_same f g l (λ y m. same y (Memᴰ.tail m)))

-- of one node more
pub no_blocks : (l : Lent) (bases parts : List ℕ) → Stored l l (with_blocks (held_of l) (block_copies (held_of l).graph bases parts 0))
unfolding block_copies flat
no_blocks l bases parts = blocks_none l

module _ (l₀ l : Lent) (bases parts : List ℕ) (i : ℕ) (st : Stored l₀ l (with_blocks (held_of l₀) (block_copies (held_of l₀).graph bases parts i))) where
  more_blocks : (c : List ℕ) → copies_in bases parts i ≡ c → block_copies (held_of l₀).graph bases parts (i + 1) ≡ block_copies (held_of l₀).graph bases parts i ++ map (block (held_of l₀).graph) c
  unfolding block_copies
  more_blocks c is =
      ap (map (block (held_of l₀).graph)) (flat-more (copies_in bases parts) i ∙ ap (λ (k : List ℕ). flat (copies_in bases parts) i ++ k) is)
      ∙ map-append (block (held_of l₀).graph) (flat (copies_in bases parts) i) c

  pub node_skips : get_or bases i 0 ≡ 0 → Stored l₀ l (with_blocks (held_of l₀) (block_copies (held_of l₀).graph bases parts (i + 1)))
  node_skips e = rw (more_blocks [] (copies_none bases parts i e) ∙ append-nil (block_copies (held_of l₀).graph bases parts i)) st

  pub node_blocks : (get_or bases i 0 ≡ 0 → ⊥) → ((b : ℕ) → member (set_at parts i) b ≡ true → b < length (held_of l₀).graph.blocks) → (l' : Lent)
      → Stored l l' (with_blocks (held_of l) (map (block (held_of l).graph) (list_of (set_at parts i)))) → Stored l₀ l' (with_blocks (held_of l₀) (block_copies (held_of l₀).graph bases parts (i + 1)))
  unfolding list_of
  node_blocks ne stand l' st' =
      let same = map_same (block (held_of l).graph) (block (held_of l₀).graph) (list_of (set_at parts i)) (λ b m. blocks_kept (block_copies (held_of l₀).graph bases parts i) st b (stand b (keep_mem (member (set_at parts i)) (upto 1024) m).1)) in
      rw (more_blocks (list_of (set_at parts i)) (copies_some bases parts i ne)) (blocks_then _ _ st (rw same at st'))

-- ---- the edges out of a block

module _ (m base : ℕ) (w : List ℕ) (b : ℕ) where
  abbrev old : Lent → Graph
  old l = first_edges (held_of l).graph m

  pub record EdgesGoing (l₀ l : Lent) (at : ℕ) : Type 0 where
    pub done : List Edge
    pub added : Added l₀ l (map (copy_of base w) done) [] []
    pub on : OnChain (first_edges (held_of l₀).graph m) b at
    pub rest : done ++ chain (first_edges (held_of l₀).graph m) b at ≡ outgoing (first_edges (held_of l₀).graph m) b

  module _ (l₀ : Lent) (head next : List ℕ) (k : LinkedTo (held_of l₀).graph m head next) where
    pub edges_start : (at : ℕ) → at ≡ get_or head b 0 → EdgesGoing l₀ l₀ at
    edges_start at is =
        let s = chain_start (old l₀) b head next k.ends k.roomy k.linked at is in
        record { done = []; added = added_none l₀; on = s.0; rest = s.1 }

    module _ (l : Lent) (at : ℕ) (p : EdgesGoing l₀ l at) where
      pub edges_end : at ≡ 0 → Added l₀ l (map (copy_of base w) (outgoing (first_edges (held_of l₀).graph m) b)) [] []
      edges_end z =
          rw (sym p.rest ∙ ap (λ (c : List Edge). p.done ++ c) (chain_none (old l₀) b at z) ∙ append-nil p.done) p.added

      -- the edge at hand stood, and stands
      below : (e : ℕ) → at ≡ suc e → e < m
      unfolding first_edges
      below e is = lt_take (p.on.here e is).0
        where
          lt_take : e < length (take m (held_of l₀).graph.edges) → e < m
          lt_take h = omega (arith, length-take-le m (held_of l₀).graph.edges k.stood)

      pub edge_here : (e : ℕ) → at ≡ suc e → e < length (held_of l).graph.edges
      edge_here e is = omega (arith, below e is, k.stood, edges_grow p.added)

      module _ (e at' : ℕ) (is : at ≡ suc e) (next' : at' ≡ get_or next e 0) where
        step : OnChain (old l₀) b at' × (chain (old l₀) b at ≡ edge (old l₀) e ∷ chain (old l₀) b at')
        step = chain_next (old l₀) b head next k.ends k.roomy k.linked at e at' is p.on next'

        pub chain_less : length (chain (first_edges (held_of l₀).graph m) b at) ≡ suc (length (chain (first_edges (held_of l₀).graph m) b at'))
        chain_less = ap length step.1

        pub edges_next : (l' : Lent) (x r : Edge) → x ≡ edge (held_of l).graph e → r ≡ copy_of base w x → Stored l l' (with_edge (held_of l) r) → EdgesGoing l₀ l' at'
        edges_next l' x r read copy st =
            let d = edge (old l₀) e in
            let same : r ≡ copy_of base w d =
            copy ∙ ap (copy_of base w) (read ∙ edge_stood (held_of l).graph m e (below e is) ∙ ap (λ (g : Graph). edge g e) (first_kept p.added m k.stood)) in
            record {
              done = p.done ++ (d ∷ []);
              added = rw (map-append (copy_of base w) p.done (d ∷ [])) (added_then p.added (edge_added (copy_of base w d) (rw same at st)));
              on = step.0;
              rest = append_assoc p.done (d ∷ []) _ ∙ ap (λ (c : List Edge). p.done ++ c) (sym step.1) ∙ p.rest;
            }

-- ---- the edges out of the blocks of a set

joined_append : {A B : Type 0} (f : A → List B) (l k : List A) → joined f (l ++ k) ≡ joined f l ++ joined f k
unfolding joined
joined_append f [] k = refl
joined_append f (x ∷ l) k = ap (λ (r : List _). f x ++ r) (joined_append f l k) ∙ sym (append_assoc (f x) (joined f l) (joined f k))

module _ (m base : ℕ) (w : List ℕ) where
  abbrev pub copies_from : Lent → ℕ → List Edge
  copies_from l b = map (copy_of base w) (outgoing (first_edges (held_of l).graph m) b)

  pub record SetGoing (l₀ l : Lent) (left : List ℕ) : Type 0 where
    pub long : length left ≡ 16
    pub within : (c : ℕ) → member left c ≡ true → member w c ≡ true
    pub done : List ℕ
    pub added : Added l₀ l (joined (copies_from l₀) done) [] []
    pub rest : done ++ list_of left ≡ list_of w

  pub set_start : (l : Lent) → length w ≡ 16 → SetGoing l l w
  unfolding joined
  set_start l long = record { long = long; within = λ c m. m; done = []; added = added_none l; rest = refl }

  module _ (l₀ l : Lent) (left : List ℕ) (p : SetGoing l₀ l left) where
    pub set_end : ((c : ℕ) → member left c ≡ false) → Added l₀ l (joined (copies_from l₀) (list_of w)) [] []
    set_end none = rw (sym p.rest ∙ ap (λ (k : List ℕ). p.done ++ k) (list_none left none) ∙ append-nil p.done) p.added

    pub set_next : m ≤ length (held_of l₀).graph.edges → (b : ℕ) → b < 1024 → member left b ≡ true → ((c : ℕ) → c < b → member left c ≡ false) → (l' : Lent)
        → Added l l' (copies_from l b) [] [] → SetGoing l₀ l' (excluding left b)
    unfolding joined
    set_next stood b h is low l' a =
        let same : copies_from l b ≡ copies_from l₀ b = ap (λ (g : Graph). map (copy_of base w) (outgoing g b)) (first_kept p.added m stood) in
        record {
          long = length-excluding left b ∙ p.long;
          within = λ c m. p.within c (excluding_in left p.long b c m);
          done = p.done ++ (b ∷ []);
          added = rw (joined_append (copies_from l₀) p.done (b ∷ []) ∙ ap (λ (k : List Edge). joined (copies_from l₀) p.done ++ k) (append-nil (copies_from l₀ b))) (added_then p.added (rw same at a));
          rest = append_assoc p.done (b ∷ []) _ ∙ ap (λ (k : List ℕ). p.done ++ k) (sym (list_front left b p.long h is low)) ∙ p.rest;
        }

-- ---- those of one node more

pub no_copies : (l : Lent) (bases parts : List ℕ) → Added l l (edge_copies (held_of l).graph bases parts 0) [] []
unfolding edge_copies flat
no_copies l bases parts = added_none l

module _ (l₀ l : Lent) (bases parts : List ℕ) (i : ℕ) (a : Added l₀ l (edge_copies (held_of l₀).graph bases parts i) [] []) where
  pub edges_skip : get_or bases i 0 ≡ 0 → Added l₀ l (edge_copies (held_of l₀).graph bases parts (i + 1)) [] []
  edges_skip e = rw (none_next bases parts i (held_of l₀).graph e) a

  pub edges_node : (get_or bases i 0 ≡ 0 → ⊥) → (m : ℕ) → m ≡ length (held_of l₀).graph.edges → (l' : Lent)
      → Added l l' (joined (copies_from m (get_or bases i 0) (set_at parts i) l) (list_of (set_at parts i))) [] [] → Added l₀ l' (edge_copies (held_of l₀).graph bases parts (i + 1)) [] []
  edges_node ne m all l' b =
      let same : first_edges (held_of l).graph m ≡ (held_of l₀).graph = first_kept a m (omega arith) ∙ ap (first_edges (held_of l₀).graph) all ∙ first_all (held_of l₀).graph in
      rw (some_next bases parts i (held_of l₀).graph ne) (added_then a (subst (λ (g : Graph). Added l l' (joined (λ b. map (copy_of (get_or bases i 0) (set_at parts i)) (outgoing g b)) (list_of (set_at parts i))) [] []) same b))
