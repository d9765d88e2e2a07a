-- What tells early that runs of steps are the same, or that nodes are not.
--     same_self             a run is the same as itself
--     counts_differ         nodes with other counts of edges or ends are not equal
--     values_differ         nor are nodes whose funclets have other numbers
-- Assumes nothing.
use mathlib.Core.Path.{◌≡◌, refl, sym, ap, ◌∙◌}
use mathlib.Core.Bool.{Bool, true, false, ◌&&◌, and-false, false≢true}
use mathlib.Core.List.{List, map}
use mathlib.Core.Option.{Option, none, some}
use Prim.Native.Nat.{ℕ, zero, suc, compare}
use native.Mathlib.Decide.{ℕ_discrete}
use borrow.Author.Tests.{eq-eqb, ne_eqb}
use lib.Dec.{eqb}
use Rattle.image.specs.Image.{RouteImage}
use Rattle.image.specs.Deal.{UnwindStep, funclet, call, step_of}
use Rattle.unwind.specs.declared.tries.store.NodeRecord.{NodeRecord}
use Rattle.addition.specs.Order.{compare_tagged, compare_ends, same}
use Rattle.addition.specs.Trie.{same_funclet, same_node}
use Rattle.unwind.specs.Nodes.{step_in, branches, funclet_in, value_of, edge_of, end_at, node_in}
use Rattle.unwind.specs.Interning.{same_step, same_steps}
use Rattle.addition.proofs.Lists.{and_true}
use Rattle.unwind.proofs.TrieRuns.{length_meant}
use Rattle.unwind.proofs.TrieNodes.{same_size}

-- ---- runs of steps

self_step : (x : UnwindStep) → same_step x x ≡ true
self_step (funclet a) = eq-eqb a a refl
self_step (call a) = eq-eqb a a refl

pub same_self : (m : RouteImage) (a n : ℕ) → same_steps m a a n ≡ true
unfolding same_steps
same_self m a zero = refl
same_self m a (suc n) = and_true (self_step (step_of (step_in m a))) (same_self m (suc a) n)

-- ---- nodes by their counts, and by their funclets

other_funclet : (f h : Option ℕ) → (value_of h ≡ value_of f → ⊥) → same_funclet f h ≡ false
unfolding same_funclet
other_funclet none none ne = absurd (ne refl)
other_funclet none (some b) ne = refl
other_funclet (some a) none ne = refl
other_funclet (some a) (some b) ne = ne_eqb a b (λ e. ne (sym e))

module _ (m : RouteImage) (edges ends : List ℕ) (x z : NodeRecord) where
  abbrev funclets : Bool
  funclets = same_funclet (funclet_in m x.funclet) (funclet_in m z.funclet)

  abbrev edges_same : Bool
  edges_same = same (compare_tagged compare) (map (edge_of m) (branches edges x.first_edge x.edges)) (map (edge_of m) (branches edges z.first_edge z.edges))

  abbrev ends_same : Bool
  ends_same = same (compare_tagged compare_ends) (map (end_at m) (branches ends x.first_end x.ends)) (map (end_at m) (branches ends z.first_end z.ends))

  edges_differ : (z.edges ≡ x.edges → ⊥) → same_node (node_in m edges ends x) (node_in m edges ends z) ≡ false
  unfolding same_node node_in
  edges_differ ne =
      ap (λ (b : Bool). (funclets && b) && ends_same) (same_size (compare_tagged compare) _ _ (λ e. ne (sym (sym (length_meant (edge_of m) edges x.first_edge x.edges) ∙ e ∙ length_meant (edge_of m) edges z.first_edge z.edges))))
      ∙ ap (λ (b : Bool). b && ends_same) (and-false funclets)

  ends_differ : (z.ends ≡ x.ends → ⊥) → same_node (node_in m edges ends x) (node_in m edges ends z) ≡ false
  unfolding same_node node_in
  ends_differ ne =
      ap (λ (b : Bool). (funclets && edges_same) && b) (same_size (compare_tagged compare_ends) _ _ (λ e. ne (sym (sym (length_meant (end_at m) ends x.first_end x.ends) ∙ e ∙ length_meant (end_at m) ends z.first_end z.ends))))
      ∙ and-false (funclets && edges_same)

  pub counts_differ : (eqb z.edges x.edges && eqb z.ends x.ends) ≡ false → same_node (node_in m edges ends x) (node_in m edges ends z) ≡ false
  counts_differ e = go (ℕ_discrete z.edges x.edges) (ℕ_discrete z.ends x.ends)
    where
      go : Dec (z.edges ≡ x.edges) → Dec (z.ends ≡ x.ends) → same_node (node_in m edges ends x) (node_in m edges ends z) ≡ false
      go (no ne) d = edges_differ ne
      go (yes p) (no ne) = ends_differ ne
      go (yes p) (yes q) = absurd (false≢true (sym e ∙ and_true (eq-eqb z.edges x.edges p) (eq-eqb z.ends x.ends q)))

  pub values_differ : (value_of (funclet_in m z.funclet) ≡ value_of (funclet_in m x.funclet) → ⊥) → same_node (node_in m edges ends x) (node_in m edges ends z) ≡ false
  unfolding same_node node_in
  values_differ ne = ap (λ (b : Bool). (b && edges_same) && ends_same) (other_funclet (funclet_in m x.funclet) (funclet_in m z.funclet) ne)
