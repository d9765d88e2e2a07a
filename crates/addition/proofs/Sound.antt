-- What the theorem needs of rule 21: 'edge ends .. exist', a block, and that the blocks fill the table.
--     all_at, all_so               what holds of each number below n
--     ends_exist                   the ends of an edge
--     Sound, sound                 a graph that 21 lets pass
use mathlib.Core.Path.{◌≡◌, refl, sym, ◌∙◌, ap}
use mathlib.Core.Bool.{Bool, true, ◌&&◌}
use Prim.Native.Nat.{ℕ, zero, suc, ◌≤◌, ◌<◌}
use native.Mathlib.Nat.{not-suc-le-zero}
use native.Mathlib.Decide.{dec_lt}
use native.Mathlib.Omega.{arith}
use borrow.Author.Tests.{ltb-true, leb-true}
use lib.Dec.{leb}
use lib.ListN.{length}
use Rattle.graph.specs.declared.record.Edge.{Edge}
use Rattle.graph.specs.Graph.{Graph, Held, edge}
use Rattle.graph.specs.Fold.{all}
use Rattle.graph.specs.WellFormed.{is_block, edge_ends_exist, filled, covers_table, well_formed}
use Rattle.graph.proofs.RuleLaws.{all_from}
use Rattle.addition.specs.Walk.{◌∈◌}
use Rattle.addition.proofs.Lists.{and_both, and_l, and_r, mem_at, at_lt, at_get_or}

pub all_at : (f : ℕ → Bool) (n i : ℕ) → all f n ≡ true → i < n → f i ≡ true
unfolding all
all_at f zero i e h = absurd (not-suc-le-zero h)
all_at f (suc n) i e h = go (dec_lt i n) (λ (k : i < n). all_at f n i (and_both (all f n) (f n) e).0 k)
  where
    go : Dec (i < n) → (i < n → f i ≡ true) → f i ≡ true
    go (yes k) below = below k
    go (no k) below = let p : i ≡ n = omega arith in ap f p ∙ (and_both (all f n) (f n) e).1

pub all_so : (f : ℕ → Bool) (n : ℕ) → ((i : ℕ) → i < n → f i ≡ true) → all f n ≡ true
unfolding all
all_so f n each = all_from f 0 n (omega arith) refl (λ i from h. each i h)

pub record Sound (g : Graph) : Type 0 where
  pub sources : (d : Edge) → d ∈ g.edges → d.source < length g.blocks
  pub targets : (d : Edge) → d ∈ g.edges → d.target < length g.blocks
  pub some_block : 0 < length g.blocks
  pub covered : length g.table ≤ filled g (length g.blocks)

pub ends_exist : (g : Graph) → edge_ends_exist g ≡ true → (d : Edge) → d ∈ g.edges → (d.source < length g.blocks) × (d.target < length g.blocks)
unfolding edge_ends_exist is_block
ends_exist g e d m =
    let i = mem_at m in
    let is : edge g i.0 ≡ d = at_get_or g.edges i.0 _ i.1 in
    let x = all_at (λ (k : ℕ). is_block g (edge g k).source && is_block g (edge g k).target) (length g.edges) i.0 e (at_lt g.edges i.0 i.1) in
    let y = and_both (is_block g (edge g i.0).source) (is_block g (edge g i.0).target) x in
    (ltb-true _ _ (sym (ap (λ (k : Edge). is_block g k.source) is) ∙ y.0), ltb-true _ _ (sym (ap (λ (k : Edge). is_block g k.target) is) ∙ y.1))

-- the phrases of the rule that are needed
phrases : (h : Held) → well_formed h ≡ true → (is_block h.graph h.graph.entry ≡ true) × (edge_ends_exist h.graph ≡ true) × (covers_table h.graph ≡ true)
unfolding well_formed
phrases h e = (search (and_l, and_r) depth 12, search (and_l, and_r) depth 12, search (and_l, and_r) depth 12)

fills : (g : Graph) → covers_table g ≡ true → leb (length g.table) (filled g (length g.blocks)) ≡ true
unfolding covers_table
fills g e = search (and_l, and_r)

entry_lt : (g : Graph) (b : ℕ) → is_block g b ≡ true → b < length g.blocks
unfolding is_block
entry_lt g b e = ltb-true b (length g.blocks) e

pub sound : (h : Held) → well_formed h ≡ true → Sound h.graph
sound h e =
    let p = phrases h e in
    let g : Graph = h.graph in
    record {
      sources = λ d m. (ends_exist g p.1 d m).0;
      targets = λ d m. (ends_exist g p.1 d m).1;
      some_block = omega (arith, entry_lt g g.entry p.0);
      covered = leb-true (length g.table) (filled g (length g.blocks)) (fills g p.2);
    }
