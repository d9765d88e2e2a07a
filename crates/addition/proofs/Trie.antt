-- What a node spells: exactly the paths that its edges and ends were made for, in every later trie.
--     _⊑_, ⊑_refl, ⊑_trans         all places of a trie stand in a later one
--     Spelled, Says                what a node spells, in a trie
--     Child, Leads                 edges to the nodes of the groups of paths
--     node_says                    a node with such edges, and the ends of the paths, spells the paths
use mathlib.Core.Path.{◌≡◌, refl, sym, ◌∙◌, ap, subst}
use mathlib.Core.Logic.{◌↔◌}
use mathlib.Core.List.Memᴰ
use mathlib.Core.List.{List, map}
use mathlib.Core.Option.{some}
use Prim.Native.Nat.{ℕ, compare}
use Rattle.image.specs.Deal.{UnwindStep, call, UnwindEnd, UnwindPath}
use Rattle.addition.specs.Order.{Tagged, tagged, compare_tagged, sorted}
use Rattle.addition.specs.Trie.{Node, Cut, over, enters, cut, ends_of, groups, rest}
use Rattle.addition.specs.Walk.{◌∈◌}
use Rattle.addition.proofs.Lists.{at}
use Rattle.addition.proofs.Order.{mem_sorted, sorted_mem}
use Rattle.addition.proofs.Paths.{path, steps_of, exact_key, over_path, enters_path, mem_ends, ends_mem, mem_rest, rest_mem, mem_groups}

infix 40 ◌⊑◌
pub record ◌⊑◌ (t z : List Node) : Type 0 where
  pub still : (i : ℕ) (n : Node) → at t i ≡ some n → at z i ≡ some n

pub ⊑_refl : {t : List Node} → t ⊑ t
⊑_refl = record { still = λ i n e. e }

pub ⊑_trans : {s t u : List Node} → s ⊑ t → t ⊑ u → s ⊑ u
⊑_trans p q = record { still = λ i n e. q.still i n (p.still i n e) }

-- what a node spells
pub data Spelled (z : List Node) : Node → List UnwindStep → UnwindEnd → Type 0 where
  stops : {n : Node} {s : List UnwindStep} {e : UnwindEnd} (d : Tagged UnwindEnd) → d ∈ n.ends → s ≡ map call d.calls → d.what ≡ e → Spelled z n s e
  goes : {n : Node} {s : List UnwindStep} {e : UnwindEnd} (d : Tagged ℕ) → d ∈ n.edges → (m : Node) → at z d.what ≡ some m
      → (f : ℕ) → m.funclet ≡ some f → (t : List UnwindStep) → Spelled z m t e → s ≡ steps_of d.calls f t → Spelled z n s e

-- what a node spells, as paths
abbrev pub Says : List Node → Node → List UnwindPath → Type 0
Says z n ps = (p : UnwindPath) → (p ∈ ps) ↔ Spelled z n p.steps p.end

-- ---- a node for a key: the edge d leads to a node that spells what is left of the group

pub record Child (t : List Node) (ps : List UnwindPath) (k d : Tagged ℕ) : Type 0 where
  pub calls : d.calls ≡ k.calls
  pub node : Node
  pub here : at t d.what ≡ some node
  pub enters : node.funclet ≡ some k.what
  pub says : (z : List Node) → t ⊑ z → Says z node (rest k ps)

pub child_up : {t u : List Node} {ps : List UnwindPath} {k d : Tagged ℕ} → t ⊑ u → Child t ps k d → Child u ps k d
child_up up c =
    record {
      calls = c.calls;
      node = c.node;
      here = up.still _ _ c.here;
      enters = c.enters;
      says = λ z above. c.says z (⊑_trans up above);
    }

-- the edges es lead to nodes for the groups of ps, one for each
pub record Leads (t : List Node) (ps : List UnwindPath) (ks : List (Tagged ℕ)) (es : List (Tagged ℕ)) : Type 0 where
  pub has : (k : Tagged ℕ) → k ∈ ks → (d : Tagged ℕ) × (d ∈ es) × Child t ps k d
  pub only : (d : Tagged ℕ) → d ∈ es → (k : Tagged ℕ) × (k ∈ ks) × Child t ps k d

-- a node with such edges, and the ends of ps, spells ps
module _ (t : List Node) (ps : List UnwindPath) (es : List (Tagged ℕ)) (leads : Leads t ps (groups ps) es) (n : Node)
    (edges : n.edges ≡ sorted (compare_tagged compare) es) (ends : n.ends ≡ ends_of ps) (z : List Node) (above : t ⊑ z) where
  forth : (p : UnwindPath) → p ∈ ps → (c : Cut) → cut p.steps ≡ c → Spelled z n p.steps p.end
  forth p m (over l) e =
      let s : p.steps ≡ map call l = over_path p.steps l e in
      let in_ends : tagged l p.end ∈ n.ends = rw ends (mem_ends ps (tagged l p.end) (Memᴰ.cast (λ i. path (sym s i) p.end) m)) in
      stops (tagged l p.end) in_ends s refl
  forth p m (enters l f u) e =
      let s : p.steps ≡ steps_of l f u = enters_path p.steps l f u e in
      let k : Tagged ℕ = tagged l f in
      let q : UnwindPath = path u p.end in
      let in_ps : path (steps_of l f u) p.end ∈ ps = Memᴰ.cast (λ i. path (sym s i) p.end) m in
      let h = leads.has k (mem_groups ps k q in_ps) in
      let c : Child t ps k h.0 = h.2 in
      let in_edges : h.0 ∈ n.edges = rw edges (mem_sorted (compare_tagged compare) exact_key h.1) in
      goes h.0 in_edges c.node (above.still _ _ c.here) f c.enters u
      ((c.says z above q).0 (mem_rest ps k q in_ps)) (s ∙ ap (λ (x : List ℕ). steps_of x f u) (sym c.calls))

  back : (s : List UnwindStep) (e : UnwindEnd) → Spelled z n s e → path s e ∈ ps
  back s e (stops d m p q) = Memᴰ.cast (λ i. path (p i) (sym q i)) (ends_mem ps d (rw ends at m))
  back s e (goes d m c at_c f fun u w p) =
      let o = leads.only d (sorted_mem (compare_tagged compare) es (rw edges at m)) in
      let k : Tagged ℕ = o.0 in
      let h : Child t ps k d = o.2 in
      let in_z : at z d.what ≡ some h.node = above.still _ _ h.here in
      let same_node_law : c ≡ h.node = cc in
      let en : h.node.funclet ≡ some k.what = h.enters in
      let same_f : f ≡ k.what = let x : some f ≡ some k.what = sym fun ∙ ap (λ (y : Node). y.funclet) same_node_law ∙ en in cc in
      let w' : Spelled z h.node u e = subst (λ (y : Node). Spelled z y u e) same_node_law w in
      let in_rest : path u e ∈ rest k ps = (h.says z above (path u e)).1 w' in
      let s_is : s ≡ steps_of k.calls k.what u = p ∙ ap (λ (x : List ℕ). steps_of x f u) h.calls ∙ ap (λ (x : ℕ). steps_of k.calls x u) same_f in
      Memᴰ.cast (λ i. path (s_is i) e) (rest_mem ps k (path u e) in_rest)

  pub node_says : Says z n ps
  node_says p = (λ m. forth p m (cut p.steps) refl, back p.steps p.end)
