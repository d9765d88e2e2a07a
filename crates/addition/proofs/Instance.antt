-- Instances: original and clone are one notion, the image of a part under `place`.
--     blocks_lt, blocks_part       the blocks of a node: those of a part, which stood before
--     copied_later, mem_copied     the blocks that a node copies
--     place_first, place_later     where an original and a clone has a block
--     place_apart                  within a node, different blocks have different places
--     clone_owner                  a clone's block is no other node's
--     first_once                   of the nodes of one funclet, one uses the original blocks
--     later_above                  a clone's blocks come behind those that stood
--     moved_in, moved_first, moved_either     moved targets
--     mem_returns, returns_mem     the returning blocks of an instance
use mathlib.Core.Path.{◌≡◌, refl, sym, ◌∙◌, ap}
use mathlib.Core.Logic.{◌⊎◌, inl, inr}
use mathlib.Core.Bool.{Bool, true, false, cond, ◌||◌, false≢true}
use mathlib.Core.List.{List, []}
use mathlib.Core.Option.{Option, none, some}
use Prim.Native.Nat.{ℕ, zero, suc, ◌+◌, ◌≤◌, ◌<◌}
use native.Mathlib.Nat.{not-suc-le-zero}
use native.Mathlib.Decide.{dec_lt}
use native.Mathlib.Omega.{arith}
use borrow.Author.Tests.{eq-eqb}
use lib.ListN.{length}
use Rattle.image.specs.Deal.{UnwindRoute}
use Rattle.graph.specs.Graph.{Graph}
use Rattle.graph.specs.Fold.{some as any, among}
use Rattle.addition.specs.Lists.{rank}
use Rattle.addition.specs.Part.{funclets, part, returning}
use Rattle.addition.specs.Blocks.{block_of}
use Rattle.addition.specs.Trie.{Node, node_at, same_funclet}
use Rattle.addition.specs.Instance.{part_of, blocks_of, later, copied, base, place, moved, returns_of}
use Rattle.addition.specs.Walk.{◌∈◌, Returning}
use Rattle.addition.proofs.Lists.{at, none_in, or_left, or_right, mem_keep, keep_mem, mem_map, map_mem, mem_among, among_mem, at_lt, at_rank, flat-suc, flat_le}
use Rattle.addition.proofs.Closure.{part_lt, returning_is, is_returning}

any_true : (f : ℕ → Bool) (n i : ℕ) → i < n → f i ≡ true → any f n ≡ true
unfolding any
any_true f zero i h e = absurd (not-suc-le-zero h)
any_true f (suc n) i h e = go (dec_lt i n) (λ (k : i < n). any_true f n i k e)
  where
    go : Dec (i < n) → (i < n → any f n ≡ true) → any f n || f n ≡ true
    go (yes k) below = or_left (f n) (below k)
    go (no k) below = let p : i ≡ n = omega arith in or_right (any f n) (ap f (sym p) ∙ e)

self_funclet : (a b : Option ℕ) (f : ℕ) → a ≡ some f → b ≡ some f → same_funclet a b ≡ true
unfolding same_funclet
self_funclet none b f p q = absurd (let z : ◌≡◌ {A = ℕ} 0 1 = cc in omega arith)
self_funclet (some x) none f p q = absurd (let z : ◌≡◌ {A = ℕ} 0 1 = cc in omega arith)
self_funclet (some x) (some y) f p q = eq-eqb x y (cc)

true_or_false : (b : Bool) → (b ≡ true) ⊎ (b ≡ false)
true_or_false true = inl refl
true_or_false false = inr refl

module _ (g : Graph) (rs : List UnwindRoute) (z : List Node) where
  abbrev count : ℕ
  count = length g.blocks

  abbrev blocks : ℕ → List ℕ
  blocks = blocks_of g (funclets rs) z

  abbrev is_later : ℕ → Bool
  is_later = later g (funclets rs) z

  abbrev put : ℕ → ℕ → ℕ
  put = place g (funclets rs) z

  abbrev from : ℕ → ℕ
  from = base g (funclets rs) z

  pub first_or_later : (i : ℕ) → (is_later i ≡ true) ⊎ (is_later i ≡ false)
  first_or_later i = true_or_false (is_later i)

  pub blocks_lt : (i b : ℕ) → b ∈ blocks i → b < count
  unfolding blocks_of part_of
  blocks_lt i b m = go (node_at z i).funclet m
    where
      go : (o : Option ℕ) → b ∈ part_of g (funclets rs) o → b < count
      go none k = absurd (none_in k)
      go (some f) k = part_lt g rs f (block_of g f) b k

  -- the blocks of a node that enters f
  pub blocks_part : (i f : ℕ) → (node_at z i).funclet ≡ some f → blocks i ≡ part g (funclets rs) f (block_of g f)
  unfolding blocks_of part_of
  blocks_part i f e = rw e

  pub place_first : (i b : ℕ) → is_later i ≡ false → put i b ≡ b
  unfolding place
  place_first i b e = rw e

  pub place_later : (i b : ℕ) → is_later i ≡ true → put i b ≡ from i + rank b (blocks i)
  unfolding place
  place_later i b e = rw e

  pub copied_later : (i : ℕ) → is_later i ≡ true → copied g (funclets rs) z i ≡ blocks i
  unfolding copied
  copied_later i e = rw e

  pub mem_copied : (i b : ℕ) → b ∈ copied g (funclets rs) z i → (is_later i ≡ true) × (b ∈ blocks i)
  unfolding copied
  mem_copied i b m = go (is_later i) refl m
    where
      go : (x : Bool) → is_later i ≡ x → b ∈ cond x (blocks i) [] → (is_later i ≡ true) × (b ∈ blocks i)
      go true e k = (e, k)
      go false e k = absurd (none_in k)

  rank_lt : {b : ℕ} {l : List ℕ} → b ∈ l → rank b l < length l
  rank_lt {b} {l} m = at_lt l (rank b l) (at_rank m)

  pub from_above : (i : ℕ) → count ≤ from i
  unfolding base
  from_above i = omega arith

  -- a clone's blocks end before those of the next begin
  from_below : (i j : ℕ) → is_later i ≡ true → i < j → from i + length (blocks i) ≤ from j
  unfolding base
  from_below i j e h =
      let c : List ℕ = blocks i in
      let s : length (copied g (funclets rs) z i) ≡ length (blocks i) = ap length (copied_later i e) in
      omega (arith, flat_le (copied g (funclets rs) z) (suc i) j h, flat-suc (copied g (funclets rs) z) i, s)

  pub place_apart : (i b c : ℕ) → b ∈ blocks i → c ∈ blocks i → put i b ≡ put i c → b ≡ c
  place_apart i b c m k e = go (first_or_later i)
    where
      go : (is_later i ≡ true) ⊎ (is_later i ≡ false) → b ≡ c
      go (inl l) =
          let r : rank b (blocks i) ≡ rank c (blocks i) = omega (arith, e, place_later i b l, place_later i c l) in
          let x : at (blocks i) (rank b (blocks i)) ≡ some b = at_rank m in
          let y : at (blocks i) (rank c (blocks i)) ≡ some c = at_rank k in
          cc
      go (inr l) = sym (place_first i b l) ∙ e ∙ place_first i c l

  pub clone_owner : (i j b c : ℕ) → is_later i ≡ true → b ∈ blocks i → c ∈ blocks j → put i b ≡ put j c → i ≡ j
  clone_owner i j b c l m k e = go (first_or_later j)
    where
      go : (is_later j ≡ true) ⊎ (is_later j ≡ false) → i ≡ j
      go (inr f) = absurd (omega (arith, e, place_later i b l, place_first j c f, from_above i, blocks_lt j c k))
      go (inl f) =
          elim (dec_lt i j) [
            | yes h ↦ absurd (omega (arith, e, place_later i b l, place_later j c f, from_below i j l h, rank_lt m))
            | no h ↦
                elim (dec_lt j i) [
                  | yes h' ↦ absurd (omega (arith, e, place_later i b l, place_later j c f, from_below j i f h', rank_lt k))
                  | no h' ↦ omega arith
                ]
          ]

  pub later_above : (i b : ℕ) → is_later i ≡ true → count ≤ put i b
  later_above i b l = omega (arith, place_later i b l, from_above i)

  pub first_once : (i j f : ℕ) → is_later i ≡ false → is_later j ≡ false → (node_at z i).funclet ≡ some f → (node_at z j).funclet ≡ some f → i ≡ j
  unfolding later
  first_once i j f a b p q =
      elim (dec_lt i j) [
        | yes h ↦ absurd (no_earlier j i b h q p)
        | no h ↦ elim (dec_lt j i) [ yes h' ↦ absurd (no_earlier i j a h' p q) | no h' ↦ omega arith ]
      ]
    where
      no_earlier : (k m : ℕ) → is_later k ≡ false → m < k → (node_at z k).funclet ≡ some f → (node_at z m).funclet ≡ some f → ⊥
      no_earlier k m l h u v = false≢true (sym l ∙ any_true (λ (j : ℕ). same_funclet (node_at z j).funclet (node_at z k).funclet) k m h (self_funclet _ _ f v u))

  pub moved_in : (i t : ℕ) → t ∈ blocks i → moved g (funclets rs) z i t ≡ put i t
  unfolding moved
  moved_in i t m = rw (mem_among m)

  pub moved_first : (i t : ℕ) → is_later i ≡ false → moved g (funclets rs) z i t ≡ t
  unfolding moved
  moved_first i t l = go (among (blocks i) t)
    where
      go : (x : Bool) → cond x (put i t) t ≡ t
      go true = place_first i t l
      go false = refl

  -- a target is in the part, or stays
  pub moved_either : (i t : ℕ) → (t ∈ blocks i) ⊎ (moved g (funclets rs) z i t ≡ t)
  unfolding moved
  moved_either i t = go (among (blocks i) t) refl
    where
      go : (x : Bool) → among (blocks i) t ≡ x → (t ∈ blocks i) ⊎ (cond x (put i t) t ≡ t)
      go true e = inl (among_mem (blocks i) t e)
      go false e = inr refl

  pub mem_returns : (i b : ℕ) → b ∈ blocks i → Returning g b → put i b ∈ returns_of g (funclets rs) z i
  unfolding returns_of
  mem_returns i b m r = mem_map (put i) (mem_keep (returning g) m (is_returning g b r))

  pub returns_mem : (i y : ℕ) → y ∈ returns_of g (funclets rs) z i → (b : ℕ) × (b ∈ blocks i) × Returning g b × (y ≡ put i b)
  unfolding returns_of
  returns_mem i y m =
      let x = map_mem (put i) _ m in
      let k = keep_mem (returning g) (blocks i) x.1 in
      (x.0, k.0, returning_is g x.0 k.1, x.2)
