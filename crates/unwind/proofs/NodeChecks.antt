-- 14 and 17 of the nodes in scratch.
--     led_check, led_block         what look-up finds: 14 or 17, or a block
--     end_handler, end_other       of an end that is a handler, and of one that is not
--     funclet_root, funclet_named  of a root, and of a node that entered a funclet
--     ends_check, node_checks       of a node: its funclet, then its ends
--     node_check_law                   of a node in scratch
--     funclets_lead                where all nodes are clear, each funclet leads a block
--     entered-none, entered-more   the entries of the nodes before one
-- Assumes nothing.
use mathlib.Core.Path.{◌≡◌, refl, sym, ap, ◌∙◌}
use mathlib.Core.Bool.{Bool, true, false, cond}
use mathlib.Core.List.{List, [], ◌∷◌, map}
use Prim.Native.Nat.{ℕ, zero, suc, ◌+◌, ◌-◌, ◌<◌}
use native.Mathlib.Nat.{not-suc-le-zero, le_of_suc-le-suc}
use native.Mathlib.Decide.{ℕ_discrete}
use native.Mathlib.Omega.{arith}
use borrow.Author.Tests.{eq-eqb, ne_eqb}
use lib.Dec.{eqb}
use lib.ListN.{length, get_or, set, length-map}
use lib.Seq.{get_or-set_same, get_or-set_other}
use Rattle.std.proofs.Common.{Result}
use Rattle.std.specs.Result.{result_unwrap_or}
use Rattle.image.specs.Refusal.{Check, clear, ◌then◌}
use Rattle.image.specs.Image.{RouteImage}
use Rattle.image.specs.Deal.{UnwindEnd, propagate, resume, end_of}
use Rattle.image.specs.declared.record.Path.{Path}
use Rattle.image.proofs.Checks.{then_left, checks_each}
use Rattle.graph.specs.declared.error.AddressBuildError.{AddressBuildError}
use Rattle.graph.specs.Graph.{Graph}
use Rattle.graph.specs.Error.{check_of}
use Rattle.graph.specs.Fold.{checks}
use Rattle.graph.proofs.FoldLaws.{length-table, get_or_table}
use Rattle.graph.proofs.CheckLaws.{checks-same}
use Rattle.unwind.specs.declared.tries.store.NodeRecord.{NodeRecord}
use Rattle.unwind.specs.declared.tries.store.Branch.{Branch}
use Rattle.addition.specs.Order.{Tagged, tagged}
use Rattle.unwind.specs.Nodes.{branch_in, branches, step_in, path_record, funclet_in, end_at, record_in, node_in, nodes_in}
use Rattle.addition.specs.Blocks.{Leading, leads, inside, absent, leading, block_in}
use Rattle.addition.specs.Trie.{node_at}
use Rattle.unwind.specs.Placed.{funclet_at, Entered}
use Rattle.addition.specs.Instance.{entry_block}
use Rattle.unwind.specs.Stands.{led}
use Rattle.addition.specs.Add.{lead_found, lead_check, funclet_check, end_check, node_check}
use Rattle.unwind.proofs.TrieNodes.{node_of_law}

-- f of an element that stands in the list, whatever the defaults
get_or_mapped : {A B : Type 0} (f : A → B) (l : List A) (n : ℕ) (d : A) (e : B) → n < length l → get_or (map f l) n e ≡ f (get_or l n d)
get_or_mapped f [] n d e h = absurd (not-suc-le-zero h)
get_or_mapped f (x ∷ l) zero d e h = refl
get_or_mapped f (x ∷ l) (suc n) d e h = get_or_mapped f l n d e (le_of_suc-le-suc h)

module _ (g : Graph) where
  module _ {r : Result ℕ AddressBuildError} (a : ℕ) (is : r ≡ led a (leading g a)) where
    pub led_check : check_of r ≡ lead_check g a
    unfolding lead_check lead_found
    led_check = rw is (go (leading g a))
      where
        go : (l : Leading) → check_of (led a l) ≡ lead_found a l
        go (leads b) = refl
        go inside = refl
        go absent = refl

    pub led_block : result_unwrap_or r 0 ≡ block_in (leading g a)
    unfolding block_in
    led_block = rw is (go (leading g a))
      where
        go : (l : Leading) → result_unwrap_or (led a l) 0 ≡ block_in l
        go (leads b) = refl
        go inside = refl
        go absent = refl

  pub end_handler : (p : Path) → p.end ≡ 0 → end_check g (end_of p) ≡ lead_check g p.handler
  unfolding end_check end_of
  end_handler p e = rw (eq-eqb p.end 0 e)

  pub end_other : (p : Path) → (p.end ≡ 0 → ⊥) → end_check g (end_of p) ≡ clear
  unfolding end_check end_of
  end_other p ne = rw (ne_eqb p.end 0 ne) (go (eqb p.end 1))
    where
      go : (b : Bool) → end_check g (cond b propagate resume) ≡ clear
      go true = refl
      go false = refl

  module _ (m : RouteImage) where
    pub funclet_root : (f : ℕ) → f ≡ 0 → funclet_check g (funclet_in m f) ≡ clear
    unfolding funclet_check funclet_in
    funclet_root f e = rw e

    pub funclet_named : (f : ℕ) → (f ≡ 0 → ⊥) → funclet_check g (funclet_in m f) ≡ lead_check g (step_in m (f - 1)).value
    unfolding funclet_check funclet_in
    funclet_named zero ne = absurd (ne refl)
    funclet_named (suc f) ne = let back : suc f - 1 ≡ f = omega arith in ap (λ (k : ℕ). lead_check g (step_in m k).value) (sym back)

    -- of end k behind the first one
    abbrev pub ends_check : List ℕ → ℕ → ℕ → Check
    ends_check ends first k = end_check g (end_of (path_record m (branch_in ends (first + k)).what))

    module _ (edges ends : List ℕ) where
      pub node_checks : (x : NodeRecord) → node_check g (node_in m edges ends x) ≡ (funclet_check g (funclet_in m x.funclet) then checks (ends_check ends x.first_end) x.ends)
      unfolding node_check node_in branches end_at
      node_checks x =
          let first = x.first_end in
          let l : List Branch = branches ends first x.ends in
          let long : length (map (end_at m) l) ≡ x.ends = length-map l (end_at m) ∙ length-table (λ k. branch_in ends (first + k)) x.ends in
          let each : (k : ℕ) → k < x.ends → end_check g (get_or (map (end_at m) l) k (tagged [] propagate)).what ≡ ends_check ends first k =
          (λ k h. ap (λ (t : Tagged UnwindEnd). end_check g t.what) (get_or_mapped (end_at m) l k (branch_in ends 0) (tagged [] propagate) (rw (length-table (λ k. branch_in ends (first + k)) x.ends) h))
          ∙ ap (λ (b : Branch). end_check g (end_of (path_record m b.what))) (get_or_table (λ k. branch_in ends (first + k)) x.ends k (branch_in ends 0) h)) in
          ap (λ (c : Check). funclet_check g (funclet_in m x.funclet) then c) (ap (checks _) long ∙ checks-same _ (ends_check ends first) x.ends each)

      pub node_check_law : (nodes : List ℕ) (n i : ℕ) → i < n → node_check g (node_at (nodes_in m nodes edges ends n) i) ≡ node_check g (node_in m edges ends (record_in nodes i))
      unfolding node_at
      node_check_law nodes n i h = ap (node_check g) (node_of_law m nodes edges ends n i _ h)

      pub funclets_lead : (nodes : List ℕ) (n : ℕ) → checks (λ i. node_check g (node_at (nodes_in m nodes edges ends n) i)) n ≡ clear → (i : ℕ) → i < n → funclet_check g (funclet_at m nodes i) ≡ clear
      funclets_lead nodes n passed i h =
          then_left _ _ (sym (node_check_law nodes n i h ∙ node_checks (record_in nodes i)) ∙ checks_each (λ i. node_check g (node_at (nodes_in m nodes edges ends n) i)) n i passed h)

-- ---- entries

module _ (g : Graph) (m : RouteImage) (nodes entries : List ℕ) where
  pub entered-none : Entered g m nodes entries 0
  entered-none = record { enters = λ i h. absurd (not-suc-le-zero h) }

  pub entered-more : (i : ℕ) → i < length entries → Entered g m nodes entries i → Entered g m nodes (set entries i (entry_block g (funclet_at m nodes i))) (i + 1)
  entered-more i h old =
      record {
        enters = λ j lt.
            elim (ℕ_discrete j i) [
              | yes same ↦ rw same (get_or-set_same entries i _ 0 h)
              | no ne ↦ get_or-set_other entries i j _ 0 ne ∙ old.enters j (omega arith)
            ];
      }
