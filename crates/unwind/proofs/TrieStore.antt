-- The trie in scratch: numbers stored.
--     three_put                    three stores, one behind the other
--     branch_put, node_put         what they store of an edge or an end, and of a node
-- Assumes nothing.
use mathlib.Core.Path.{◌≡◌, ap, ◌∙◌}
use mathlib.Core.Logic.{◌⊎◌, inl, inr}
use mathlib.Core.List.{List}
use Prim.Native.Nat.{ℕ, ◌+◌, ◌*◌, ◌≤◌, ◌<◌}
use native.Mathlib.Omega.{arith}
use lib.ListN.{length, get_or, set, length-set}
use lib.Seq.{get_or-set_same, get_or-set_other}
use native.Mathlib.Decide.{dec_lt}
use Rattle.unwind.specs.declared.tries.store.NodeRecord.{NodeRecord}
use Rattle.unwind.specs.declared.tries.store.Branch.{Branch}
use Rattle.unwind.specs.Nodes.{record_in, branch_in, ThreePut, NodePut, BranchPut}

module _ (l : List ℕ) (i a b c : ℕ) (room : i + 3 ≤ length l) where
  abbrev one : List ℕ
  one = set l i a

  abbrev two : List ℕ
  two = set one (i + 1) b

  pub three_put : ThreePut l i a b c (set two (i + 2) c)
  three_put =
      record {
        long = simp length-set;
        first = get_or-set_other two (i + 2) i c 0 (omega arith) ∙ get_or-set_other one (i + 1) i b 0 (omega arith) ∙ get_or-set_same l i a 0 (omega arith);
        second = get_or-set_other two (i + 2) (i + 1) c 0 (omega arith) ∙ get_or-set_same one (i + 1) b 0 (simp length-set (omega arith));
        third = get_or-set_same two (i + 2) c 0 (simp length-set (omega arith));
        others = λ j h. away j (apart j h).0 (apart j h).1 (apart j h).2;
      }
    where
      apart : (j : ℕ) → (j < i) ⊎ (i + 3 ≤ j) → (j ≡ i → ⊥) × (j ≡ i + 1 → ⊥) × (j ≡ i + 2 → ⊥)
      apart j (inl h) = (λ e. omega arith, λ e. omega arith, λ e. omega arith)
      apart j (inr h) = (λ e. omega arith, λ e. omega arith, λ e. omega arith)

      away : (j : ℕ) → (j ≡ i → ⊥) → (j ≡ i + 1 → ⊥) → (j ≡ i + 2 → ⊥) → get_or (set two (i + 2) c) j 0 ≡ get_or l j 0
      away j p q r = get_or-set_other two (i + 2) j c 0 r ∙ get_or-set_other one (i + 1) j b 0 q ∙ get_or-set_other l i j a 0 p

module _ (l l' : List ℕ) (k : ℕ) (b : Branch) (p : ThreePut l (3 * k) b.step b.calls b.what l') where
  pub branch_put : BranchPut l k b l'
  unfolding branch_in
  branch_put =
      record {
        long = p.long;
        here = λ i. record { step = p.first i; calls = p.second i; what = p.third i };
        others = λ j ne. λ i.
            record {
              step = still j (3 * j) ne (omega arith) (omega arith) i;
              calls = still j (3 * j + 1) ne (omega arith) (omega arith) i;
              what = still j (3 * j + 2) ne (omega arith) (omega arith) i;
            };
      }
    where
      still : (j n : ℕ) → (j ≡ k → ⊥) → 3 * j ≤ n → n < 3 * j + 3 → get_or l' n 0 ≡ get_or l n 0
      still j n ne h₁ h₂ = p.others n (elim (dec_lt j k) [ yes lt ↦ inl (omega arith) | no ge ↦ inr (omega arith) ])

module _ (l one l' : List ℕ) (i : ℕ) (x : NodeRecord) (p : ThreePut l (6 * i) x.funclet x.route x.first_edge one) (q : ThreePut one (6 * i + 3) x.edges x.first_end x.ends l') where
  pub node_put : NodePut l i x l'
  unfolding record_in
  node_put =
      record {
        long = q.long ∙ p.long;
        here = λ d.
            record {
              funclet = (q.others (6 * i) (inl (omega arith)) ∙ p.first) d;
              route = (q.others (6 * i + 1) (inl (omega arith)) ∙ p.second) d;
              first_edge = (q.others (6 * i + 2) (inl (omega arith)) ∙ p.third) d;
              edges = q.first d;
              first_end = (at 4 1 (omega arith) ∙ q.second) d;
              ends = (at 5 2 (omega arith) ∙ q.third) d;
            };
        others = λ j ne. λ d.
            record {
              funclet = still j (6 * j) ne (omega arith) (omega arith) d;
              route = still j (6 * j + 1) ne (omega arith) (omega arith) d;
              first_edge = still j (6 * j + 2) ne (omega arith) (omega arith) d;
              edges = still j (6 * j + 3) ne (omega arith) (omega arith) d;
              first_end = still j (6 * j + 4) ne (omega arith) (omega arith) d;
              ends = still j (6 * j + 5) ne (omega arith) (omega arith) d;
            };
      }
    where
      at : (a b : ℕ) → 6 * i + a ≡ 6 * i + 3 + b → get_or l' (6 * i + a) 0 ≡ get_or l' (6 * i + 3 + b) 0
      at a b e = ap (λ (n : ℕ). get_or l' n 0) e

      still : (j n : ℕ) → (j ≡ i → ⊥) → 6 * j ≤ n → n < 6 * j + 6 → get_or l' n 0 ≡ get_or l n 0
      still j n ne h₁ h₂ = elim (dec_lt j i) [
        | yes lt ↦ q.others n (inl (omega arith)) ∙ p.others n (inl (omega arith))
        | no ge ↦ q.others n (inr (omega arith)) ∙ p.others n (inr (omega arith))
      ]
