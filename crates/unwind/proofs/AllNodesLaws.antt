-- The hops of all copies, stored node by node.
--     behind-same, behind_next     the number behind the copies of one node more
--     hops_none, hops_some         those of a node's copies, if it has any
--     behind_is, nodes_rise        nodes that are placed: the copies of each come where its base says
--     both_are, all_rise           all hops, and all nodes
--     emptied_laid                 hops that are emptied, and then stored
-- Assumes nothing.
use mathlib.Core.Path.{◌≡◌, refl, sym, ap, ◌∙◌}
use mathlib.Core.Bool.{Bool, true, false, cond}
use mathlib.Core.List.{List, [], ◌++◌}
use Prim.Native.Nat.{ℕ, zero, suc, ◌+◌, ◌≤◌, ◌<◌}
use native.Mathlib.Omega.{arith}
use borrow.Author.Tests.{eq-eqb, ne_eqb}
use lib.ListN.{length, get_or}
use Rattle.image.specs.Image.{RouteImage}
use Rattle.image.specs.Deal.{routes_of}
use Rattle.graph.specs.Graph.{Graph}
use Rattle.graph.specs.Fold.{flat, among}
use Rattle.unwind.specs.declared.tries.store.Counts.{Counts}
use Rattle.addition.specs.Lists.{keep, upto}
use Rattle.addition.specs.Part.{funclets, returning}
use Rattle.addition.specs.Trie.{Node, tries}
use Rattle.unwind.specs.Routed.{TriesIn}
use Rattle.addition.specs.Instance.{blocks_of, later, copied, base}
use Rattle.addition.specs.Ways.{Hop, ways, hops_of}
use Rattle.unwind.specs.Gather.{in_set}
use Rattle.unwind.specs.Lent.{Leads, Sides, PartsIn, block_hops}
use Rattle.unwind.specs.Copies.{copy_number, copy_hops, node_hops, Bounded}
use Rattle.unwind.specs.HopWords.{HopsHeld, HopsEmptied, HopsLaid}
use Rattle.unwind.specs.AllNodes.{behind_nodes, NodeRises, NodesRise}
use Rattle.addition.proofs.Lists.{keep_mem, mem_among, among_mem, flat-suc, flat_le}
use Rattle.addition.proofs.Instance.{copied_later, from_above}
use Rattle.unwind.proofs.LentLaws.{count_is}
use Rattle.unwind.proofs.AllHops.{copy_number_law, part_is}
use Rattle.unwind.proofs.CopiesAre.{total_hops}

-- ---- the hops of one node

module _ (bases parts : List ℕ) (blocks i : ℕ) where
  pub behind-same : get_or bases i 0 ≡ 0 → behind_nodes bases parts blocks (suc i) ≡ behind_nodes bases parts blocks i
  unfolding behind_nodes
  behind-same e = rw (eq-eqb (get_or bases i 0) 0 e)

  pub behind_next : (first : ℕ) → first ≡ get_or bases i 0 → (first ≡ 0 → ⊥) → behind_nodes bases parts blocks (suc i) ≡ copy_number parts i first blocks
  unfolding behind_nodes
  behind_next first e n = rw (sym e, ne_eqb first 0 n)

module _ (m : RouteImage) (nodes edges ends heads landings bases parts returns : List ℕ) (blocks i : ℕ) where
  abbrev here : List Hop
  here = node_hops m nodes edges ends heads landings bases parts returns blocks i

  pub hops_none : get_or bases i 0 ≡ 0 → here ≡ []
  unfolding node_hops
  hops_none e = rw (eq-eqb (get_or bases i 0) 0 e)

  module _ (first : ℕ) (is : first ≡ get_or bases i 0) (copies : first ≡ 0 → ⊥) where
    abbrev own : List Hop
    own = flat (copy_hops m nodes edges ends heads landings parts returns i first) blocks

    pub hops_some : here ≡ own
    unfolding node_hops
    hops_some = rw (sym is, ne_eqb first 0 copies)

-- ---- nodes that are placed

chosen_among : (f : ℕ → Bool) (l : List ℕ) (o : ℕ) → among (keep f l) o ≡ true → among l o ≡ true
chosen_among f l o e = mem_among (keep_mem f l (among_mem (keep f l) o e)).0

module _ (g : Graph) (m : RouteImage) (guards bases parts returns : List ℕ) (c : Counts) (k : Sides g m guards bases returns c) (q : PartsIn g m parts c) (some : 0 < length g.blocks) where
  abbrev z : List Node
  z = (tries (routes_of m)).nodes

  abbrev fs : List ℕ
  fs = funclets (routes_of m)

  abbrev size : ℕ
  size = length g.blocks

  abbrev from : ℕ → ℕ
  from i = base g fs z i

  base_more : (i : ℕ) → from (suc i) ≡ from i + length (copied g fs z i)
  unfolding base
  base_more i = omega (arith, flat-suc (copied g fs z) i)

  copied_none : (i : ℕ) → later g fs z i ≡ false → length (copied g fs z i) ≡ 0
  unfolding copied
  copied_none i e = rw e refl

  base_later : (i : ℕ) → i < c.nodes → later g fs z i ≡ true → get_or bases i 0 ≡ from i
  base_later i h l = k.bases_are i h ∙ ap (λ (x : Bool). cond x (from i) 0) l

  base_first : (i : ℕ) → i < c.nodes → later g fs z i ≡ false → get_or bases i 0 ≡ 0
  base_first i h l = k.bases_are i h ∙ ap (λ (x : Bool). cond x (from i) 0) l

  behind-none : behind_nodes bases parts size 0 ≡ from 0
  unfolding behind_nodes base flat
  behind-none = omega arith

  pub behind_is : (n : ℕ) → n ≤ c.nodes → behind_nodes bases parts size n ≡ from n
  behind_is zero h = behind-none
  behind_is (suc i) h = go (behind_is i (omega (arith, h))) (later g fs z i) refl
    where
      go : behind_nodes bases parts size i ≡ from i → (x : Bool) → later g fs z i ≡ x → behind_nodes bases parts size (suc i) ≡ from (suc i)
      go was true l =
          let is = base_later i h l in
          let long : length (copied g fs z i) ≡ length (keep (in_set parts i) (upto size)) = ap length (copied_later g (routes_of m) z i l ∙ part_is g m parts c q i h) in
          behind_next bases parts size i (from i) (sym is) (λ p. omega (arith, p, some, from_above g (routes_of m) z i))
          ∙ copy_number_law parts i (from i) size
          ∙ sym (base_more i ∙ ap (λ (n : ℕ). from i + n) long)
      go was false l = omega (arith, behind-same bases parts size i (base_first i h l), was, base_more i, copied_none i l)

  module _ (all : c.nodes ≤ length z) (most : size + length (flat (copied g fs z) (length z)) ≤ 1024) where
    base_most : (i : ℕ) → i < c.nodes → from i ≤ 1024
    unfolding base
    base_most i h = omega (arith, flat_le (copied g fs z) i (length z) (omega arith), most)

    node_rises : (i : ℕ) → i < c.nodes → NodeRises bases parts returns size i
    node_rises i h =
        record {
          few = few (later g fs z i) refl;
          rises = λ n. rises n (later g fs z i) refl;
          within = record { within = λ o e. q.parts_are i o h ∙ chosen_among (returning g) (blocks_of g fs z i) o (sym (k.returns_are i o h) ∙ e) };
        }
      where
        few : (x : Bool) → later g fs z i ≡ x → get_or bases i 0 ≤ 1024
        few true l = omega (arith, base_later i h l, base_most i h)
        few false l = omega (arith, base_first i h l)

        rises : (get_or bases i 0 ≡ 0 → ⊥) → (x : Bool) → later g fs z i ≡ x → behind_nodes bases parts size i ≤ get_or bases i 0
        rises n true l = omega (arith, base_later i h l, behind_is i (omega (arith, h)))
        rises n false l = absurd (n (base_first i h l))

    pub nodes_rise : (n : ℕ) → n ≡ size → NodesRise bases parts returns n c.nodes
    nodes_rise n e = rw e (record { each = node_rises })

-- ---- all

module _ (g : Graph) (m : RouteImage) (nodes edges ends roots heads landings guards bases parts returns : List ℕ) (c : Counts) (t : TriesIn m nodes edges ends roots c) (s : Leads g m ends heads landings c) (k : Sides g m guards bases returns c) (q : PartsIn g m parts c) (b : Bounded g (routes_of m)) (n : ℕ) (is : n ≡ length g.blocks) where
  pub both_are : flat (block_hops m nodes edges ends heads landings roots guards bases returns c) n ++ flat (node_hops m nodes edges ends heads landings bases parts returns n) c.nodes ≡ hops_of (ways g (routes_of m))
  both_are = rw is (total_hops g m nodes edges ends roots heads landings guards bases parts returns c t s k q (omega (arith, b.few)) b.some)

  pub all_rise : NodesRise bases parts returns n c.nodes
  all_rise = nodes_rise g m guards bases parts returns c k q b.some (omega (arith, count_is g m nodes edges ends roots heads landings guards bases returns c t s)) b.few n is

pub emptied_laid : {m : RouteImage} {d : ℕ} {l l₁ l₂ : List ℕ} {hs : List Hop} → HopsEmptied l l₁ → HopsHeld m d l₁ l₂ hs → HopsLaid m l l₂ hs
emptied_laid e p = record { holds = p.holds; kept = λ k u. p.kept k u ∙ e.kept k (p.uses k u) }
