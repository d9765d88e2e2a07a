-- The copies by what instances in scratch say are those of the definition.
--     sets_in                      the blocks of instances stand in the graph
--     joined_same                  lists of the members of a list hang on these alone
--     original, copying, placed_at where a node has a block, by its first copy
--     blocks_are, edges_are        the copies of blocks, and of edges
-- Assumes nothing.
use mathlib.Core.Path.{◌≡◌, refl, sym, ap, ap₂, ◌∙◌}
use mathlib.Core.Bool.{true, false, cond}
use mathlib.Core.Logic.{⊎_elim}
use mathlib.Core.List.Memᴰ
use mathlib.Core.List.{List, [], ◌∷◌, ◌++◌, map}
use Prim.Native.Nat.{ℕ, ◌+◌, ◌*◌, ◌≤◌, ◌<◌}
use native.Mathlib.Omega.{arith}
use borrow.Author.Tests.{eqb-true}
use lib.Dec.{eqb}
use lib.ListN.{length, get_or}
use Rattle.image.specs.Deal.{UnwindRoute}
use Rattle.graph.specs.declared.record.Edge.{Edge}
use Rattle.graph.specs.Graph.{Graph, block}
use Rattle.graph.specs.Fold.{flat, count, among}
use Rattle.graph.specs.BlockSet.{member}
use Rattle.graph.proofs.FoldLaws.{decided, flat-same}
use Rattle.addition.specs.Lists.{joined}
use Rattle.addition.specs.Part.{funclets, outgoing}
use Rattle.addition.specs.Trie.{Node, node_at}
use Rattle.addition.specs.Instance.{blocks_of, later, copied, base, place, moved, clone_blocks, clone_edge, clone_edges}
use Rattle.addition.specs.Walk.{◌∈◌}
use Rattle.unwind.specs.Placed.{set_at, Placed}
use Rattle.unwind.specs.Clones.{copies_in, copy_of, block_copies, edge_copies, SetsIn}
use Rattle.addition.proofs.Lists.{mem_among, keep_mem}
use Rattle.addition.proofs.Instance.{place_later, copied_later}
use Rattle.unwind.proofs.Sets.{Rises, has_lt, rank_has}
use Rattle.unwind.proofs.ChainLaws.{list_has}
use Rattle.unwind.proofs.CloneLaws.{copies_none, copies_some}
use Rattle.unwind.proofs.StoodLaws.{map_same}
use Rattle.unwind.proofs.PlaceLaws.{part_rises}

pub joined_same : {A B : Type 0} (f g : A → List B) (l : List A) → ((x : A) → x ∈ l → f x ≡ g x) → joined f l ≡ joined g l
unfolding joined
joined_same f g [] same = refl
joined_same f g (x ∷ l) same = ap₂ (λ (a b : List _). a ++ b) (same x (Memᴰ.head refl)) (joined_same f g l (λ y m. same y (Memᴰ.tail m)))

module _ (g : Graph) (few : length g.blocks ≤ 1024) (some' : 0 < length g.blocks) (rs : List UnwindRoute) (z : List Node) (bases entries parts : List ℕ) (n : ℕ) (p : Placed g (funclets rs) z bases entries parts n) where
  abbrev fs : List ℕ
  fs = funclets rs

  rises : (i : ℕ) → Rises (length g.blocks) (blocks_of g fs z i)
  unfolding blocks_of
  rises i = part_rises g fs (node_at z i).funclet

  pub sets_in : 16 * n ≤ length parts → SetsIn g parts n
  sets_in fit = record { fit = fit; stand = λ i b h m. has_lt (length g.blocks) few (blocks_of g fs z i) (rises i) (set_at parts i) (p.part_has i h) b m }

  module _ (i : ℕ) (h : i < n) where
    abbrev w : List ℕ
    w = set_at parts i

    pub original : later g fs z i ≡ false → get_or bases i 0 ≡ 0
    original e = p.base_is i h ∙ rw e refl

    first_copy : later g fs z i ≡ true → get_or bases i 0 ≡ base g fs z i
    first_copy e = p.base_is i h ∙ rw e refl

    pub copying : later g fs z i ≡ true → get_or bases i 0 ≡ 0 → ⊥
    unfolding base
    copying e none = omega (arith, first_copy e)

    no_copy : later g fs z i ≡ false → copied g fs z i ≡ []
    unfolding copied
    no_copy e = rw e

    copies_are : copies_in bases parts i ≡ copied g fs z i
    copies_are =
        ⊎_elim
        (λ e. copies_some bases parts i (copying e) ∙ list_has (length g.blocks) (blocks_of g fs z i) w few (rises i) (p.part_has i h) ∙ sym (copied_later g rs z i e))
        (λ e. copies_none bases parts i (original e) ∙ sym (no_copy e))
        (decided (later g fs z i))

    -- a block of the set has its place
    pub placed_at : later g fs z i ≡ true → (b : ℕ) → member w b ≡ true → get_or bases i 0 + count (member w) b ≡ place g fs z i b
    placed_at e b m =
        ap₂ (λ (x y : ℕ). x + y) (first_copy e) (rank_has (length g.blocks) few (blocks_of g fs z i) (rises i) w (p.part_has i h) b m) ∙ sym (place_later g rs z i b e)

    moved_to : later g fs z i ≡ true → (t : ℕ) → cond (member w t) (get_or bases i 0 + count (member w) t) t ≡ moved g fs z i t
    unfolding moved
    moved_to e t =
        ⊎_elim
        (λ m. let there : among (blocks_of g fs z i) t ≡ true = sym (p.part_has i h t) ∙ m in rw (m, there) (placed_at e t m))
        (λ m. let out : among (blocks_of g fs z i) t ≡ false = sym (p.part_has i h t) ∙ m in rw (m, out))
        (decided (member w t))

    edge_copy : later g fs z i ≡ true → (d : Edge) → member w d.source ≡ true → copy_of (get_or bases i 0) w d ≡ clone_edge g fs z i d
    unfolding copy_of clone_edge
    edge_copy e d m =
        ap₂
        (λ (s t : ℕ). record { source = s; target = t; kind = d.kind; role = d.role; number = d.number; key = d.key; source_address = d.source_address; target_address = d.target_address })
        (placed_at e d.source m) (moved_to e d.target)

    node_edges : joined (λ b. map (copy_of (get_or bases i 0) w) (outgoing g b)) (copies_in bases parts i) ≡ joined (λ b. map (clone_edge g fs z i) (outgoing g b)) (copied g fs z i)
    unfolding joined outgoing
    node_edges =
        ⊎_elim
        (λ e. ap (joined (λ b. map (copy_of (get_or bases i 0) w) (outgoing g b))) copies_are
        ∙ joined_same _ _ (copied g fs z i)
        (λ b m. map_same _ _ (outgoing g b)
        (λ d k.
        let source : d.source ≡ b = eqb-true _ b (keep_mem (λ d. eqb d.source b) g.edges k).1 in
        edge_copy e d (p.part_has i h d.source ∙ rw source (mem_among (rw (copied_later g rs z i e) at m))))))
        (λ e. ap (joined (λ b. map (copy_of (get_or bases i 0) w) (outgoing g b))) (copies_none bases parts i (original e))
        ∙ sym (ap (joined (λ b. map (clone_edge g fs z i) (outgoing g b))) (no_copy e)))
        (decided (later g fs z i))

  pub blocks_are : length z ≡ n → block_copies g bases parts n ≡ clone_blocks g (funclets rs) z
  unfolding block_copies clone_blocks
  blocks_are all = ap (map (block g)) (flat-same _ _ n copies_are ∙ ap (flat (copied g fs z)) (sym all))

  pub edges_are : length z ≡ n → edge_copies g bases parts n ≡ clone_edges g (funclets rs) z
  unfolding edge_copies clone_edges
  edges_are all = flat-same _ _ n node_edges ∙ ap (flat (λ i. joined (λ b. map (clone_edge g fs z i) (outgoing g b)) (copied g fs z i))) (sym all)
