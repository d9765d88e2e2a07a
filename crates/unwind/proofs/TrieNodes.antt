-- Nodes by what they are, and a node stored unless it stands already.
--     Alike, alike_start, alike_on, alike_other, alike_end     two runs of branches compared from place i on
--     same_size                                           lists of other lengths are not the same
--     funclet_root, funclet_other, funclet_both           two funclets compared
--     value_root, value_other                             the number that names one
--     place_first, place_lt                               the first of a list that equals a node; it stands there
--     length_nodes, nodes_more, node_of_law, funclet_at_law, place-nothing, nodes_same, nodes_still     the nodes in scratch; none equals a node; after stores elsewhere
--     behind_fits, stored_fits                            the edges and ends of nodes stand in the lists
--     kept_present, kept_new                              a node stands already, or is stored
-- Assumes nothing.
use mathlib.Core.Path.{◌≡◌, refl, sym, ap, ap₂, ◌∙◌}
use mathlib.Core.Bool.{Bool, true, false, cond, not, ◌&&◌, and-false}
use mathlib.Core.List.{List, [], ◌∷◌, ◌++◌, map}
use mathlib.Core.Option
use mathlib.Core.Option.{Option, none, some, none-ne-some}
use Prim.Native.Nat.{ℕ, zero, suc, ◌+◌, ◌-◌, ◌≤◌, ◌<◌, Ordering}
use native.Mathlib.Numerals.{add-one}
use native.Mathlib.Decide.{dec_lt}
use native.Mathlib.Omega.{arith}
use borrow.Author.Tests.{ne_eqb}
use lib.Dec.{eqb, compare_is_eq}
use lib.ListN.{length, get_or, drop, drop_of_length-le}
use lib.Seq.{drop-cons}
use Rattle.std.specs.Ordering.{is_ne}
use Rattle.std.specs.declared.cmp.Ordering.{Ordering as StdOrdering}
use Rattle.std.specs.declared.cmp.Ordering.TheVariants.{Less, Equal, Greater}
use Rattle.image.specs.Image.{RouteImage, table}
use Rattle.graph.specs.Fold.{sum}
use Rattle.graph.proofs.FoldLaws.{length-table, get_or_table, table_same}
use Rattle.unwind.specs.declared.tries.compare.Kind.{Kind}
use Rattle.unwind.specs.declared.tries.store.Branch.{Branch}
use Rattle.unwind.specs.declared.tries.store.NodeRecord.{NodeRecord}
use Rattle.unwind.specs.declared.tries.store.Counts.{Counts}
use Rattle.addition.specs.Order.{same}
use Rattle.addition.specs.Trie.{Node, same_funclet, same_node, place_of, created, create, node_at}
use Rattle.unwind.specs.Nodes.{step_in, funclet_in, value_of, record_in, ways_of, branch_in, branches, edge_of, end_at, node_in, nodes_in, Stored, NodeFits, AllFit, BranchRead, NodePut}
use Rattle.unwind.specs.Interning.{ordering_of, Meant, ordered, meaning}
use Rattle.unwind.specs.Kept.{Behind, Kept}
use Rattle.unwind.proofs.TrieRuns.{branches-same, length_meant, meant_of}

-- ---- two runs of n branches compared

module _ (m : RouteImage) (kind : Kind) (l : List ℕ) where
  -- what the n branches from a on stand for, from place i on
  abbrev meant_from : ℕ → ℕ → ℕ → List (Meant kind)
  meant_from a n i = drop i (map (meaning m kind) (branches l a n))

  meant_next : (a n i : ℕ) → i < n → meant_from a n i ≡ meaning m kind (branch_in l (a + i)) ∷ meant_from a n (suc i)
  meant_next a n i h =
      let d = meaning m kind (branch_in l 0) in
      drop-cons (meant_from a n 0) i d (rw (length_meant (meaning m kind) l a n) h)
      ∙ ap (λ (x : Meant kind). x ∷ meant_from a n (suc i)) (meant_of (meaning m kind) l a n i d h)

  meant_end : (a n i : ℕ) → n ≤ i → meant_from a n i ≡ []
  meant_end a n i h = drop_of_length-le (meant_from a n 0) {i = i} (rw (length_meant (meaning m kind) l a n) h)

  -- the n from a on are the n from b on, from place i on
  abbrev same_from : ℕ → ℕ → ℕ → ℕ → Bool
  same_from a b n i = same (ordered kind) (meant_from a n i) (meant_from b n i)

  -- those before place i are the same, so that the others decide
  pub record Alike (a b n i : ℕ) : Type 0 where
    pub left : same_from a b n 0 ≡ same_from a b n i

ne_told : (o : StdOrdering) (r : Bool) → is_ne o ≡ r → compare_is_eq (ordering_of o) ≡ not r
ne_told Less r e = ap not e
ne_told Equal r e = ap not e
ne_told Greater r e = ap not e

module _ {m : RouteImage} {kind : Kind} {l : List ℕ} {a b n : ℕ} where
  pub alike_start : Alike m kind l a b n 0
  alike_start = record { left = refl }

  module _ {i : ℕ} (so_far : Alike m kind l a b n i) where
    module _ (h : i < n) {x z : Branch} (at_a : BranchRead l (a + i) x) (at_b : BranchRead l (b + i) z) (o : StdOrdering) (told : ordering_of o ≡ ordered kind (meaning m kind x) (meaning m kind z)) where
      next : same_from m kind l a b n 0 ≡ (compare_is_eq (ordering_of o) && same_from m kind l a b n (suc i))
      unfolding same
      next = so_far.left ∙ rw (meant_next m kind l a n i h, meant_next m kind l b n i h, told, at_a.is, at_b.is)

      pub alike_on : is_ne o ≡ false → Alike m kind l a b n (i + 1)
      alike_on e = record { left = next ∙ rw (ne_told o false e, add-one i) }

      pub alike_other : is_ne o ≡ true → false ≡ same_from m kind l a b n 0
      alike_other e = sym (next ∙ rw (ne_told o true e))

    pub alike_end : n ≤ i → true ≡ same_from m kind l a b n 0
    unfolding same
    alike_end h = sym (so_far.left ∙ rw (meant_end m kind l a n i h, meant_end m kind l b n i h))

pub same_size : {A : Type 0} (c : A → A → Ordering) (l k : List A) → (length l ≡ length k → ⊥) → same c l k ≡ false
unfolding same
same_size c [] [] ne = absurd (ne refl)
same_size c [] (y ∷ k) ne = refl
same_size c (x ∷ l) [] ne = refl
same_size c (x ∷ l) (y ∷ k) ne = ap (λ (b : Bool). compare_is_eq (c x y) && b) (same_size c l k (λ e. ne (ap suc e))) ∙ and-false (compare_is_eq (c x y))

-- ---- two funclets compared

module _ (m : RouteImage) where
  pub funclet_root : (a b : ℕ) → a ≡ 0 → eqb b 0 ≡ same_funclet (funclet_in m a) (funclet_in m b)
  unfolding funclet_in same_funclet
  funclet_root zero zero e = refl
  funclet_root zero (suc b) e = ne_eqb (suc b) 0 (λ z. omega arith)
  funclet_root (suc a) b e = absurd (omega arith)

  pub funclet_other : (a b : ℕ) → (a ≡ 0 → ⊥) → b ≡ 0 → false ≡ same_funclet (funclet_in m a) (funclet_in m b)
  unfolding funclet_in same_funclet
  funclet_other zero b ne e = absurd (ne refl)
  funclet_other (suc a) zero ne e = refl
  funclet_other (suc a) (suc b) ne e = absurd (omega arith)

  pub funclet_both : (a b : ℕ) → (a ≡ 0 → ⊥) → (b ≡ 0 → ⊥) → eqb (step_in m (a - 1)).value (step_in m (b - 1)).value ≡ same_funclet (funclet_in m a) (funclet_in m b)
  unfolding funclet_in same_funclet
  funclet_both zero b ne me = absurd (ne refl)
  funclet_both (suc a) zero ne me = absurd (me refl)
  funclet_both (suc a) (suc b) ne me =
      let e : suc a - 1 ≡ a = omega arith in
      let f : suc b - 1 ≡ b = omega arith in
      rw (e, f)

  pub value_root : (a : ℕ) → a ≡ 0 → 0 ≡ value_of (funclet_in m a)
  unfolding funclet_in
  value_root zero e = refl
  value_root (suc a) e = absurd (omega arith)

  pub value_other : (a : ℕ) → (a ≡ 0 → ⊥) → (step_in m (a - 1)).value ≡ value_of (funclet_in m a)
  unfolding funclet_in
  value_other zero ne = absurd (ne refl)
  value_other (suc a) ne = let e : suc a - 1 ≡ a = omega arith in rw e

-- ---- the first of a list that equals a node

module _ (n : Node) where
  pub place_first : (l : List Node) (i : ℕ) (d : Node) → i < length l → ((j : ℕ) → j < i → same_node n (get_or l j d) ≡ false) → same_node n (get_or l i d) ≡ true → place_of n l ≡ some i
  unfolding place_of
  place_first [] i d h others here = absurd (omega arith)
  place_first (x ∷ l) zero d h others here = rw here
  place_first (x ∷ l) (suc i) d h others here =
      rw (others 0 (omega arith), place_first l i d (omega arith) (λ j lt. others (suc j) (omega arith)) here)

  place_none : (l : List Node) (d : Node) → ((j : ℕ) → j < length l → same_node n (get_or l j d) ≡ false) → place_of n l ≡ none
  unfolding place_of
  place_none [] d others = refl
  place_none (x ∷ l) d others = rw (others 0 (omega arith), place_none l d (λ j lt. others (suc j) (omega arith)))

  pub place_lt : (l : List Node) (i : ℕ) → place_of n l ≡ some i → i < length l
  unfolding place_of
  place_lt [] i e = absurd (none-ne-some i e)
  place_lt (x ∷ l) i e = go (same_node n x) e (place_of n l) refl (place_lt l)
    where
      go : (b : Bool) → cond b (some 0) (Option.map suc (place_of n l)) ≡ some i → (o : Option ℕ) → place_of n l ≡ o → ((j : ℕ) → place_of n l ≡ some j → j < length l) → i < suc (length l)
      go true p o q below = let z : 0 ≡ i = cc in omega arith
      go false p none q below = absurd (none-ne-some i (rw q at p))
      go false p (some j) q below = let r : some (suc j) ≡ some i = rw q at p in let z : suc j ≡ i = cc in omega (arith, below j q)

-- ---- the nodes in scratch

module _ (m : RouteImage) (nodes edges ends : List ℕ) where
  pub length_nodes : (n : ℕ) → length (nodes_in m nodes edges ends n) ≡ n
  unfolding nodes_in
  length_nodes n = length-table (λ i. node_in m edges ends (record_in nodes i)) n

  pub nodes_more : (n : ℕ) → nodes_in m nodes edges ends (n + 1) ≡ nodes_in m nodes edges ends n ++ (node_in m edges ends (record_in nodes n) ∷ [])
  unfolding nodes_in table
  nodes_more n = rw add-one

  pub node_of_law : (n i : ℕ) (d : Node) → i < n → get_or (nodes_in m nodes edges ends n) i d ≡ node_in m edges ends (record_in nodes i)
  unfolding nodes_in
  node_of_law n i d h = get_or_table (λ k. node_in m edges ends (record_in nodes k)) n i d h

  pub funclet_at_law : (n i : ℕ) → i < n → (node_at (nodes_in m nodes edges ends n) i).funclet ≡ funclet_in m (record_in nodes i).funclet
  unfolding node_at node_in
  funclet_at_law n i h = ap (λ (x : Node). x.funclet) (node_of_law n i _ h)

  pub place-nothing : (n : ℕ) (x : Node) → ((j : ℕ) → j < n → same_node x (node_in m edges ends (record_in nodes j)) ≡ false) → none ≡ place_of x (nodes_in m nodes edges ends n)
  place-nothing n x others =
      sym (place_none x (nodes_in m nodes edges ends n) x (λ j h. let lt : j < n = omega (arith, length_nodes n) in rw (node_of_law n j x lt) (others j lt)))

pub nodes_same : (m : RouteImage) (nodes' nodes edges ends : List ℕ) (n : ℕ) → ((i : ℕ) → i < n → record_in nodes' i ≡ record_in nodes i) → nodes_in m nodes' edges ends n ≡ nodes_in m nodes edges ends n
unfolding nodes_in
nodes_same m nodes' nodes edges ends n same =
    table_same (λ i. node_in m edges ends (record_in nodes' i)) (λ i. node_in m edges ends (record_in nodes i)) n
    (λ i h. ap (node_in m edges ends) (same i h))

ways_same : (nodes' nodes : List ℕ) (n : ℕ) → ((i : ℕ) → i < n → record_in nodes' i ≡ record_in nodes i) → sum (ways_of nodes') n ≡ sum (ways_of nodes) n
unfolding sum
ways_same nodes' nodes zero same = refl
ways_same nodes' nodes (suc n) same = ap₂ ◌+◌ (ways_same nodes' nodes n (λ i h. same i (omega arith))) (ap (λ (x : NodeRecord). x.edges + x.ends) (same n (omega arith)))

-- the edges and ends of a node more
ways_more : (nodes nodes' : List ℕ) (n : ℕ) (x : NodeRecord) → NodePut nodes n x nodes' → sum (ways_of nodes') (n + 1) ≡ sum (ways_of nodes) n + (x.edges + x.ends)
unfolding sum
ways_more nodes nodes' n x done =
    ap (sum (ways_of nodes')) (add-one n)
    ∙ ap₂ ◌+◌ (ways_same nodes' nodes n (λ i h. done.others i (λ z. omega arith))) (ap (λ (x : NodeRecord). x.edges + x.ends) done.here)

-- stores behind the edges and ends that are counted leave the nodes as they are
pub nodes_still : (m : RouteImage) (nodes edges ends edges' ends' : List ℕ) (c : Counts) → Stored nodes edges ends c
    → ((k : ℕ) → k < c.edges → branch_in edges' k ≡ branch_in edges k) → ((k : ℕ) → k < c.ends → branch_in ends' k ≡ branch_in ends k)
    → nodes_in m nodes edges' ends' c.nodes ≡ nodes_in m nodes edges ends c.nodes
unfolding nodes_in node_in
nodes_still m nodes edges ends edges' ends' c stored same_edges same_ends =
    table_same (λ i. node_in m edges' ends' (record_in nodes i)) (λ i. node_in m edges ends (record_in nodes i)) c.nodes
    (λ i h. λ d.
    record {
      funclet = funclet_in m (record_in nodes i).funclet;
      edges = map (edge_of m) (branches-same edges' edges (record_in nodes i).first_edge (record_in nodes i).edges (λ k lt. same_edges _ (omega (arith, stored.edges_within i h))) d);
      ends = map (end_at m) (branches-same ends' ends (record_in nodes i).first_end (record_in nodes i).ends (λ k lt. same_ends _ (omega (arith, stored.ends_within i h))) d);
      route = (record_in nodes i).route;
    })

-- ---- the edges and ends of nodes stand in the lists

module _ (nodes edges ends : List ℕ) (c : Counts) where
  pub behind_fits : (x : NodeRecord) → Behind nodes edges ends c x → NodeFits edges ends x
  behind_fits x b = record { edges_within = omega (arith, b.first_edge, b.edges_fit); ends_within = omega (arith, b.first_end, b.ends_fit) }

  pub stored_fits : Stored nodes edges ends c → AllFit nodes edges ends (λ i. i) c.nodes
  stored_fits s = record { fits = λ i h. record { edges_within = omega (arith, s.edges_within i h, s.edges_fit); ends_within = omega (arith, s.ends_within i h, s.ends_fit) } }

-- ---- a node stands already, or is stored

module _ (m : RouteImage) (nodes edges ends : List ℕ) (c : Counts) (x : NodeRecord) (stored : Stored nodes edges ends c) where
  abbrev trie : List Node
  trie = nodes_in m nodes edges ends c.nodes

  pub kept_present : (i : ℕ) → some i ≡ place_of (node_in m edges ends x) trie → Kept m nodes edges ends c x nodes (record { place = i; counts = c })
  unfolding create created
  kept_present i e =
      record {
        trie = rw (← e);
        place = rw (← e);
        within = omega (arith, place_lt (node_in m edges ends x) trie i (sym e), length_nodes m nodes edges ends c.nodes);
        stored = stored;
        grown = omega arith;
      }

  pub kept_new : (nodes' : List ℕ) → none ≡ place_of (node_in m edges ends x) trie → Behind nodes edges ends c x → NodePut nodes c.nodes x nodes'
      → Kept m nodes edges ends c x nodes' (record { place = c.nodes; counts = record { nodes = c.nodes + 1; edges = c.edges + x.edges; ends = c.ends + x.ends } })
  unfolding create created
  kept_new nodes' e behind done =
      record {
        trie =
            rw (← e)
            (nodes_more m nodes' edges ends c.nodes
            ∙ rw (nodes_same m nodes' nodes edges ends c.nodes (λ i h. done.others i (λ z. omega arith)), done.here));
        place = rw (← e) (sym (length_nodes m nodes edges ends c.nodes));
        within = omega arith;
        stored = record {
          nodes_fit = omega (arith, done.long, behind.room);
          edges_fit = behind.edges_fit;
          ends_fit = behind.ends_fit;
          edges_within = λ i h. elim (dec_lt i c.nodes) [
            | yes lt ↦ rw (done.others i (λ z. omega arith)) (omega (arith, stored.edges_within i lt))
            | no ge ↦ let z : i ≡ c.nodes = omega arith in rw (z, done.here) (omega (arith, behind.first_edge))
          ];
          ends_within = λ i h. elim (dec_lt i c.nodes) [
            | yes lt ↦ rw (done.others i (λ z. omega arith)) (omega (arith, stored.ends_within i lt))
            | no ge ↦ let z : i ≡ c.nodes = omega arith in rw (z, done.here) (omega (arith, behind.first_end))
          ];
          ways_within = omega (arith, ways_more nodes nodes' c.nodes x done, stored.ways_within);
        };
        grown = omega arith;
      }
