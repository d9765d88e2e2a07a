-- The funclets of the nodes, and the built blocks that they start.
--     led_few                      the block that an address starts is one of the graph
--     tries_named                  the funclets of the nodes are those of the routes
--     Barring, barring_none, barring_put, barring_skip     the set with the entries of the first j nodes
--     head_small                   an entry is small
--     barriers_are                 the set with the entries of all nodes
-- Assumes nothing.
use mathlib.Core.Path.{◌≡◌, refl, sym, ap, subst, ◌∙◌}
use mathlib.Core.Bool.{Bool, true, false, not, ◌&&◌, false≢true, or-false, or_comm}
use mathlib.Core.List.{List}
use mathlib.Core.Option.{Option, none, some}
use Prim.Native.Nat.{ℕ, zero, suc, ◌+◌, ◌≤◌, ◌<◌}
use native.Mathlib.Numerals.{add-one}
use native.Mathlib.Omega.{arith}
use borrow.Author.Tests.{eq-eqb, ne_eqb, eqb-true}
use lib.Dec.{eqb}
use lib.ListN.{length, get_or}
use Rattle.image.specs.Refusal.{clear}
use Rattle.image.specs.Image.{RouteImage}
use Rattle.image.specs.Deal.{routes_of}
use Rattle.graph.specs.Graph.{Graph}
use Rattle.graph.specs.Fold.{some as any, among}
use Rattle.graph.specs.BlockSet.{member, including, none as empty}
use Rattle.graph.specs.WellFormed.{is_built}
use Rattle.graph.proofs.FoldLaws.{some_same, some_at, some_where}
use Rattle.graph.proofs.BlockLaws.{member-none, member-including, length-including}
use Rattle.addition.specs.Blocks.{Leading, leads, inside, absent, first_of, leading, block_in, block_of}
use Rattle.addition.specs.Part.{funclets}
use Rattle.addition.specs.Trie.{Node, node_at, tries}
use Rattle.addition.specs.Instance.{entry_block}
use Rattle.addition.specs.Add.{lead_found, lead_check, funclet_check}
use Rattle.addition.specs.Walk.{Begins}
use Rattle.addition.proofs.Lists.{and_both, and_true, both_ways, mem_among, among_mem}
use Rattle.addition.proofs.Named.{funclet_node, node_funclet}
use Rattle.addition.proofs.Accepted.{lead_begins}
use Rattle.unwind.specs.Stands.{Stands}
use Rattle.unwind.specs.PartSearch.{Barriers}
use Rattle.unwind.specs.Nodes.{funclet_in, record_in, nodes_in}
use Rattle.unwind.specs.Placed.{funclet_at, Named, Entered}
use Rattle.unwind.proofs.Standing.{begins_one}
use Rattle.unwind.proofs.TrieNodes.{length_nodes, funclet_at_law}
use Rattle.unwind.proofs.PlaceLaws.{entry_lt}

pub led_few : (g : Graph) (a : ℕ) → block_in (leading g a) ≤ length g.blocks
unfolding lead_check lead_found block_of block_in
led_few g a = go (leading g a) refl
  where
    go : (x : Leading) → leading g a ≡ x → block_in x ≤ length g.blocks
    go (leads b) e = omega (arith, (rw (ap block_in e) at (lead_begins g a (rw e refl))).built.exists)
    go inside e = omega arith
    go absent e = omega arith

-- the nodes of the tries
pub tries_named : (m : RouteImage) (nodes edges ends : List ℕ) (n : ℕ) → nodes_in m nodes edges ends n ≡ (tries (routes_of m)).nodes → Named m nodes n
tries_named m nodes edges ends n are =
    record {
      each = λ i a h e. node_funclet (routes_of m) i a (omega (arith, long)) (sym (same i h) ∙ e);
      all = λ a k.
          let x = funclet_node (routes_of m) a k in
          let h : x.0 < n = omega (arith, long, x.1) in
          (x.0, h, same x.0 h ∙ x.2);
    }
  where
    long : length (tries (routes_of m)).nodes ≡ n
    long = ap length (sym are) ∙ length_nodes m nodes edges ends n

    same : (i : ℕ) → i < n → funclet_at m nodes i ≡ (node_at (tries (routes_of m)).nodes i).funclet
    same i h = sym (funclet_at_law m nodes edges ends n i h) ∙ ap (λ (z : List Node). (node_at z i).funclet) are

-- ---- the entries of the nodes

-- block b is the entry of node i, which is no root
abbrev pub enters : List ℕ → List ℕ → ℕ → ℕ → Bool
enters nodes heads b i = not (eqb (record_in nodes i).funclet 0) && eqb (get_or heads i 0) b

-- the set with the entries of the first j nodes
pub record Barring (nodes heads : List ℕ) (j : ℕ) (w : List ℕ) : Type 0 where
  pub long : length w ≡ 16
  pub has : (b : ℕ) → member w b ≡ any (enters nodes heads b) j

module _ (nodes heads : List ℕ) where
  pub barring_none : Barring nodes heads 0 empty
  unfolding any
  barring_none = record { long = refl; has = member-none }

  module _ (j : ℕ) (w : List ℕ) (x : Barring nodes heads j w) where
    pub barring_put : get_or heads j 0 < 1024 → ((record_in nodes j).funclet ≡ 0 → ⊥) → Barring nodes heads (j + 1) (including w (get_or heads j 0))
    unfolding any
    barring_put small ne =
        record {
          long = length-including w (get_or heads j 0) ∙ x.long;
          has = λ b. member-including w x.long (get_or heads j 0) small b ∙ or_comm (eqb (get_or heads j 0) b) (member w b) ∙ rw (add-one, x.has b, ne_eqb _ 0 ne);
        }

    pub barring_skip : (record_in nodes j).funclet ≡ 0 → Barring nodes heads (j + 1) w
    unfolding any
    barring_skip root = record { long = x.long; has = λ b. x.has b ∙ sym (rw (add-one, eq-eqb _ 0 root) (or-false _)) }

-- a funclet starts block b
abbrev starts : Graph → Option ℕ → ℕ → Bool
starts g none b = false
starts g (some a) b = eqb (block_of g a) b

module _ (g : Graph) (m : RouteImage) (nodes heads : List ℕ) (n : ℕ) (passed : (i : ℕ) → i < n → funclet_check g (funclet_at m nodes i) ≡ clear) (entered : Entered g m nodes heads n) where
  pub head_small : length g.blocks ≤ 1024 → (i : ℕ) → i < n → ((record_in nodes i).funclet ≡ 0 → ⊥) → get_or heads i 0 < 1024
  head_small few i h ne = omega (arith, entered.enters i h, entry_lt g m (record_in nodes i).funclet ne (passed i h))

  enters_starts : (b i : ℕ) → i < n → enters nodes heads b i ≡ starts g (funclet_at m nodes i) b
  unfolding funclet_in entry_block
  enters_starts b i h = go (record_in nodes i).funclet (entered.enters i h)
    where
      go : (f : ℕ) → get_or heads i 0 ≡ entry_block g (funclet_in m f) → (not (eqb f 0) && eqb (get_or heads i 0) b) ≡ starts g (funclet_in m f) b
      go zero e = refl
      go (suc k) e = rw (ne_eqb (suc k) 0 (λ z. omega arith)) (ap (λ (x : ℕ). eqb x b) e)

  begins : (i a : ℕ) → i < n → funclet_at m nodes i ≡ some a → Begins g a (block_of g a)
  unfolding funclet_check
  begins i a h e = lead_begins g a (sym (ap (funclet_check g) e) ∙ passed i h)

  pub barriers_are : Stands g → Named m nodes n → (w : List ℕ) → Barring nodes heads n w → Barriers g (routes_of m) w
  barriers_are s named w x = record { bars = λ b h. x.has b ∙ some_same _ _ n (enters_starts b) ∙ both_ways _ _ (forth b) (back b h) }
    where
      fs : List ℕ
      fs = funclets (routes_of m)

      forth : (b : ℕ) → any (λ i. starts g (funclet_at m nodes i) b) n ≡ true → (is_built g b && among fs (first_of g b).address) ≡ true
      forth b t = let i = some_where (λ i. starts g (funclet_at m nodes i) b) n t in go i.0 i.1 (funclet_at m nodes i.0) refl i.2
        where
          go : (i : ℕ) → i < n → (o : Option ℕ) → funclet_at m nodes i ≡ o → starts g o b ≡ true → (is_built g b && among fs (first_of g b).address) ≡ true
          go i h none e is = absurd (false≢true is)
          go i h (some a) e is =
              let y : Begins g a b = subst (Begins g a) (eqb-true (block_of g a) b is) (begins i a h e) in
              and_true y.built.original (rw y.address (mem_among (named.each i a h e)))

      back : (b : ℕ) → b < length g.blocks → (is_built g b && among fs (first_of g b).address) ≡ true → any (λ i. starts g (funclet_at m nodes i) b) n ≡ true
      back b h t =
          let a : ℕ = (first_of g b).address in
          let y = and_both (is_built g b) (among fs a) t in
          let i = named.all a (among_mem fs a y.1) in
          let same = begins_one g s a (block_of g a) b (begins i.0 a i.1 i.2) (record { built = record { exists = h; original = y.0 }; address = refl }) in
          some_at (λ i. starts g (funclet_at m nodes i) b) n i.0 i.1 (rw i.2 (eq-eqb (block_of g a) b same))
