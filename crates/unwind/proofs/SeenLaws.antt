-- Marks of funclets: a node whose mark was not seen does not stand.
--     seen_none             no node stands
--     unseen_differs        no node that stands equals one whose mark was not seen
--     seen_put              one node more
-- Assumes nothing.
use mathlib.Core.Path.{◌≡◌, refl, sym, ap, ◌∙◌}
use mathlib.Core.Bool.{false, or-true, false≢true}
use mathlib.Core.List.{List}
use Prim.Native.Nat.{ℕ, ◌+◌, ◌<◌}
use native.Mathlib.Decide.{dec_lt}
use native.Mathlib.Omega.{arith}
use borrow.Author.Tests.{eq-eqb}
use Rattle.image.specs.Image.{RouteImage}
use Rattle.graph.specs.BlockSet.{member, none, including}
use Rattle.graph.proofs.BlockLaws.{member-including, length-including}
use Rattle.unwind.specs.declared.tries.store.NodeRecord.{NodeRecord}
use Rattle.addition.specs.Trie.{same_node}
use Rattle.unwind.specs.Nodes.{record_in, funclet_in, value_of, node_in, NodePut}
use Rattle.unwind.specs.Seen.{mark_of, Seen}
use Rattle.unwind.proofs.TrieEarly.{values_differ}

module _ (m : RouteImage) (nodes : List ℕ) where
  pub seen_none : Seen m nodes 0 none
  seen_none = record { long = refl; marked = λ i h. absurd (omega arith) }

  module _ (n : ℕ) (w : List ℕ) (seen : Seen m nodes n w) (x : NodeRecord) where
    abbrev mark : ℕ
    mark = mark_of (value_of (funclet_in m x.funclet))

    pub unseen_differs : (edges ends : List ℕ) → member w mark ≡ false → (j : ℕ) → j < n → same_node (node_in m edges ends x) (node_in m edges ends (record_in nodes j)) ≡ false
    unseen_differs edges ends out j h =
        values_differ m edges ends x (record_in nodes j) (λ e. false≢true (sym out ∙ ap (λ (v : ℕ). member w (mark_of v)) (sym e) ∙ seen.marked j h))

    pub seen_put : (nodes' : List ℕ) → NodePut nodes n x nodes' → Seen m nodes' (n + 1) (including w mark)
    seen_put nodes' done =
        record {
          long = length-including w mark ∙ seen.long;
          marked = λ i h.
              member-including w seen.long mark (omega arith) _
              ∙ elim (dec_lt i n) [
                | yes lt ↦ rw (done.others i (λ z. omega arith), seen.marked i lt, or-true)
                | no ge ↦ let z : i ≡ n = omega arith in rw (z, done.here, eq-eqb mark mark refl)
              ];
        }
