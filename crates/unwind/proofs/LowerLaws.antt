-- Each node stands behind the nodes that its edges lead to, so that a node that equals x stands behind the children of x.
--     lower_none, interned_lower          it holds of no nodes, and interning keeps it
--     children_start, children_new, children_still     a place behind the children, edge by edge
--     low_differs                         nodes before the children of x do not equal x
-- Assumes nothing.
use mathlib.Core.Path.{◌≡◌, refl, sym, ap, subst, ◌∙◌}
use mathlib.Core.Bool.{Bool, true, false, ◌&&◌}
use mathlib.Core.List.Memᴰ
use mathlib.Core.List.{List, [], ◌∷◌, ◌++◌}
use mathlib.Core.Option.{Option, none, some}
use Prim.Native.Nat.{ℕ, zero, suc, ◌+◌, ◌≤◌, ◌<◌, compare}
use native.Mathlib.Nat.{add-zero}
use native.Mathlib.Decide.{dec_lt}
use native.Mathlib.Omega.{arith}
use lib.ListN.{length, length-append, get_or-append}
use lib.Seq.{get_or-append-add}
use Rattle.image.specs.Image.{RouteImage}
use Rattle.image.specs.Deal.{UnwindPath}
use Rattle.unwind.specs.declared.tries.store.NodeRecord.{NodeRecord}
use Rattle.unwind.specs.declared.tries.store.Branch.{Branch}
use Rattle.addition.specs.Order.{Tagged, tagged, compare_tagged, compare_ends, same}
use Rattle.addition.specs.Trie.{Node, groups, rest, same_funclet, same_node, place_of, Interned, created, create, Children, intern_each, node_of, intern, longest, node_at}
use Rattle.addition.specs.Walk.{◌∈◌}
use Rattle.unwind.specs.Nodes.{record_in, branch_in, branches, edge_of, node_in, nodes_in}
use Rattle.unwind.specs.Interns.{interned}
use Rattle.unwind.specs.Lower.{Lower, BehindChildren}
use Rattle.addition.proofs.Lists.{and_both, none_in, mem_map, mem_get_or}
use Rattle.addition.proofs.Order.{sorted_mem, same_eq}
use Rattle.addition.proofs.Paths.{exact_key}
use Rattle.unwind.proofs.TrieRuns.{length-branches, branch_of}
use Rattle.unwind.proofs.TrieNodes.{place_lt, length_nodes, node_of_law}

-- ---- interning keeps it

pub lower_none : Lower []
lower_none = record { lower = λ i h. absurd (omega arith) }

-- edges that lead to nodes of which there are n
abbrev Among : ℕ → List (Tagged ℕ) → Type 0
Among n es = (d : Tagged ℕ) → d ∈ es → d.what < n

module _ (t : List Node) (n : Node) where
  front : (i : ℕ) → i < length t → node_at (t ++ (n ∷ [])) i ≡ node_at t i
  unfolding node_at
  front i h = get_or-append t (n ∷ []) _ i h

  last : node_at (t ++ (n ∷ [])) (length t) ≡ n
  unfolding node_at
  last = ap (λ (k : ℕ). node_at (t ++ (n ∷ [])) k) (sym (add-zero (length t))) ∙ get_or-append-add t (n ∷ []) 0 _

  lower_more : Lower t → Among (length t) n.edges → Lower (t ++ (n ∷ []))
  lower_more low own = record { lower = λ i h. go i h (dec_lt i (length t)) }
    where
      go : (i : ℕ) → i < length (t ++ (n ∷ [])) → Dec (i < length t) → Among i (node_at (t ++ (n ∷ [])) i).edges
      go i h (yes lt) d e = low.lower i lt d (subst (λ (y : Node). d ∈ y.edges) (front i lt) e)
      go i h (no ge) d e =
          let z : i ≡ length t = omega (arith, length-append t (n ∷ [])) in
          omega (arith, own d (subst (λ (y : Node). d ∈ y.edges) (ap (node_at (t ++ (n ∷ []))) z ∙ last) e))

record Keeps (t : List Node) (i : Interned) : Type 0 where
  low : Lower i.trie
  here : i.place < length i.trie
  grows : length t ≤ length i.trie

create_keeps : (n : Node) (t : List Node) → Lower t → Among (length t) n.edges → Keeps t (create n t)
unfolding create created
create_keeps n t low own = go (place_of n t) refl
  where
    go : (o : Option ℕ) → place_of n t ≡ o → Keeps t (created n t o)
    go none e =
        record {
          low = lower_more t n low own;
          here = omega (arith, length-append t (n ∷ []));
          grows = omega (arith, length-append t (n ∷ []));
        }
    go (some i) e = record { low = low; here = place_lt n t i e; grows = omega arith }

record KeepsEach (t : List Node) (c : Children) : Type 0 where
  low : Lower c.trie
  leads : Among (length c.trie) c.edges
  grows : length t ≤ length c.trie

leads_first : (calls : List ℕ) (p : ℕ) (es : List (Tagged ℕ)) (n : ℕ) → p < n → Among n es → Among n (tagged calls p ∷ es)
leads_first calls p es n h more d (Memᴰ.head e) = rw e h
leads_first calls p es n h more d (Memᴰ.tail m) = more d m

each_keeps : (go : Option ℕ → List UnwindPath → List Node → Interned) (ps : List UnwindPath) (ks : List (Tagged ℕ)) (t : List Node)
    → ((f : Option ℕ) (qs : List UnwindPath) (u : List Node) → Lower u → Keeps u (go f qs u)) → Lower t → KeepsEach t (intern_each go ps ks t)
unfolding intern_each
each_keeps go ps [] t law low = record { low = low; leads = λ d m. absurd (none_in m); grows = omega arith }
each_keeps go ps (k ∷ ks) t law low =
    let u = go (some k.what) (rest k ps) t in
    let x = law (some k.what) (rest k ps) t low in
    let y = each_keeps go ps ks u.trie law x.low in
    record {
      low = y.low;
      leads = leads_first k.calls u.place (intern_each go ps ks u.trie).edges (length (intern_each go ps ks u.trie).trie) (omega (arith, x.here, y.grows)) y.leads;
      grows = omega (arith, x.grows, y.grows);
    }

node_leads : (r : ℕ) (f : Option ℕ) (ps : List UnwindPath) (es : List (Tagged ℕ)) (n : ℕ) → Among n es → Among n (node_of r f ps es).edges
unfolding node_of
node_leads r f ps es n h d m = h d (sorted_mem (compare_tagged compare) es m)

intern_keeps : (n r : ℕ) (f : Option ℕ) (ps : List UnwindPath) (t : List Node) → Lower t → Keeps t (intern n r f ps t)
unfolding intern
intern_keeps zero r f ps t low =
    create_keeps (node_of r f ps []) t low (node_leads r f ps [] (length t) (λ d m. absurd (none_in m)))
intern_keeps (suc n) r f ps t low =
    let c = intern_each (intern n r) ps (groups ps) t in
    let k = each_keeps (intern n r) ps (groups ps) t (λ h qs u below. intern_keeps n r h qs u below) low in
    let x = create_keeps (node_of r f ps c.edges) c.trie k.low (node_leads r f ps c.edges (length c.trie) k.leads) in
    record { low = x.low; here = x.here; grows = omega (arith, k.grows, x.grows) }

pub interned_lower : (r : ℕ) (f : Option ℕ) (ps : List UnwindPath) (t : List Node) → Lower t → Lower (interned r f ps t).trie
unfolding interned
interned_lower r f ps t low = (intern_keeps (longest ps) r f ps t low).low

-- ---- a place behind the children

module _ (l : List ℕ) (a : ℕ) where
  pub children_start : BehindChildren l a 0 0
  children_start = record { reached = λ j h. absurd (omega arith) }

  module _ (n r' : ℕ) where
    pub children_new : (child : ℕ) → child ≡ (branch_in l (a + n)).what → r' ≡ child + 1 → BehindChildren l a (n + 1) r'
    children_new child e f = record { reached = λ j h. (n, omega arith, omega arith) }

    pub children_still : (r : ℕ) → r' ≡ r → BehindChildren l a n r → BehindChildren l a (n + 1) r'
    children_still r e behind =
        record { reached = λ j h. let x = behind.reached j (omega arith) in (x.0, omega (arith, x.1), x.2) }

-- ---- nodes before the children of x

same_edges : (a b : Node) → same_node a b ≡ true → a.edges ≡ b.edges
unfolding same_node
same_edges a b e =
    let x = and_both (same_funclet a.funclet b.funclet && same (compare_tagged compare) a.edges b.edges) (same (compare_tagged compare_ends) a.ends b.ends) e in
    let y = and_both (same_funclet a.funclet b.funclet) (same (compare_tagged compare) a.edges b.edges) x.0 in
    same_eq (compare_tagged compare) exact_key a.edges b.edges y.1

branch_in_law : (l : List ℕ) (a n k : ℕ) → k < n → branch_in l (a + k) ∈ branches l a n
branch_in_law l a n k h =
    subst (λ (b : Branch). b ∈ branches l a n) (branch_of l a n k (branch_in l 0) h)
    (mem_get_or (branches l a n) k (branch_in l 0) (rw (length-branches l a n) h))

module _ (m : RouteImage) (nodes edges ends : List ℕ) (n : ℕ) (low : Lower (nodes_in m nodes edges ends n)) (x : NodeRecord) where
  edge_in : (k : ℕ) → k < x.edges → edge_of m (branch_in edges (x.first_edge + k)) ∈ (node_in m edges ends x).edges
  unfolding node_in
  edge_in k h = mem_map (edge_of m) (branch_in_law edges x.first_edge x.edges k h)

  node_there : (j : ℕ) → j < n → node_at (nodes_in m nodes edges ends n) j ≡ node_in m edges ends (record_in nodes j)
  unfolding node_at
  node_there j h = node_of_law m nodes edges ends n j _ h

  -- the edges of node j lead to nodes before it
  led : (j : ℕ) → j < n → Among j (node_in m edges ends (record_in nodes j)).edges
  led j h d e =
      low.lower j (rw (length_nodes m nodes edges ends n) h) d (subst (λ (y : Node). d ∈ y.edges) (sym (node_there j h)) e)

  none-same : (j k : ℕ) → j < n → k < x.edges → j ≤ (branch_in edges (x.first_edge + k)).what → same_node (node_in m edges ends x) (node_in m edges ends (record_in nodes j)) ≡ true → ⊥
  unfolding edge_of
  none-same j k h lt up e =
      let d = edge_of m (branch_in edges (x.first_edge + k)) in
      let down : d.what < j = led j h d (subst (λ (l : List (Tagged ℕ)). d ∈ l) (same_edges (node_in m edges ends x) (node_in m edges ends (record_in nodes j)) e) (edge_in k lt)) in
      omega arith

  pub low_differs : (r : ℕ) → BehindChildren edges x.first_edge x.edges r → (j : ℕ) → j < r → j < n → same_node (node_in m edges ends x) (node_in m edges ends (record_in nodes j)) ≡ false
  low_differs r behind j h lt = go (same_node (node_in m edges ends x) (node_in m edges ends (record_in nodes j))) refl
    where
      go : (b : Bool) → same_node (node_in m edges ends x) (node_in m edges ends (record_in nodes j)) ≡ b → b ≡ false
      go true e = let k = behind.reached j h in absurd (none-same j k.0 lt k.1 k.2 e)
      go false e = refl
