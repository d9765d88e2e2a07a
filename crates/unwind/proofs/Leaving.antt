-- The exits of one block: of the routes that guard it and the nodes that return there, or of the one node whose copy it is.
--     map-flat                     f of lists one behind the other
--     from_source                  the exits of a node out of a block leave that block
--     roots_length                 a root for each route
--     ways_exits                   the exits of all ways
--     Leaves, exit_leaves, leaves_exit     each is a route's or a node's
--     place-below, source_below    they leave the blocks that stand afterwards
--     standing_exits               those of a block that stood
--     copy_exits_law                   those of a copy
--     upto_rising, blocks_rising   the blocks of an instance rise
use mathlib.Core.Path.{◌≡◌, refl, sym, ◌∙◌, ap}
use mathlib.Core.Logic.{◌⊎◌, inl, inr}
use mathlib.Core.Bool.{Bool, true, false, cond, not, ◌&&◌, false≢true}
use mathlib.Core.List.Memᴰ
use mathlib.Core.List.{List, [], ◌∷◌, ◌++◌, map, map-map, map-append}
use mathlib.Core.Option.{Option, none, some}
use Prim.Native.Nat.{Ordering}
use Prim.Native.Nat.{ℕ, zero, suc, ◌+◌, ◌<◌, compare}
use native.Mathlib.Omega.{arith}
use borrow.Author.Tests.{eq-eqb, eqb-true}
use lib.ListN.{length, get_or}
use Rattle.image.specs.Deal.{UnwindEnd, UnwindRoute}
use Rattle.graph.specs.Graph.{Graph}
use Rattle.graph.specs.Fold.{flat, among}
use Rattle.graph.specs.Route.{route_at}
use Rattle.graph.proofs.FoldLaws.{flat_front}
use Rattle.addition.specs.Lists.{keep, joined, upto, rank}
use Rattle.addition.specs.Order.{Tagged, sorted}
use Rattle.addition.specs.Blocks.{built_blocks, guarded}
use Rattle.addition.specs.Part.{funclets, part, round, rounds, returning}
use Rattle.addition.specs.Trie.{Node, node_at, intern_routes, tries}
use Rattle.addition.specs.Instance.{part_of, blocks_of, later, copied, base, place, entry_of, returns_of}
use Rattle.addition.specs.Ways.{Way, block, end_at, ways_from, route_ways, node_ways, ways}
use Rattle.unwind.specs.Sources.{Exit, exit, compare_exits, is_from, exits_at, exits_from, route_exits, node_exits, copy_exits}
use Rattle.addition.specs.Walk.{◌∈◌}
use Rattle.addition.proofs.Lists.{none_in, and_both, and_true, at_rank, at_lt, mem_keep, keep_mem, mem_joined, joined_mem, mem_map, map_mem, mem_flat, flat_mem, flat-suc, flat_le, upto_mem, mem_among, among_mem}
use Rattle.addition.proofs.Instance.{first_or_later, blocks_lt, place_first, place_later, copied_later, place_apart, clone_owner, later_above}
use Rattle.unwind.proofs.TrieOrder.{number_lt}
use Rattle.unwind.proofs.Rising.{Rising, rising_keep, rising_join, sorted-same, total_exits}

pub map-flat : {A B : Type 0} (f : A → B) (g : ℕ → List A) (n : ℕ) → map f (flat g n) ≡ flat (λ i. map f (g i)) n
unfolding flat
map-flat f g zero = refl
map-flat {B = B} f g (suc n) = map-append f (flat g n) (g n) ∙ ap (λ (t : List B). t ++ map f (g n)) (map-flat f g n)

map-joined : {A B D : Type 0} (f : B → D) (g : A → List B) (l : List A) → map f (joined g l) ≡ joined (λ x. map f (g x)) l
unfolding joined
map-joined f g [] = refl
map-joined {D = D} f g (x ∷ l) = map-append f (g x) (joined g l) ∙ ap (λ (t : List D). map f (g x) ++ t) (map-joined f g l)

pub roots_length : (r : ℕ) (us : List UnwindRoute) (t : List Node) → length (intern_routes r us t).roots ≡ length us
unfolding intern_routes
roots_length r [] t = refl
roots_length r (u ∷ us) t = ap suc (roots_length (suc r) us _)

module _ (g : Graph) (rs : List UnwindRoute) where
  abbrev z : List Node
  z = (tries rs).nodes

  abbrev roots : List ℕ
  roots = (tries rs).roots

  abbrev fs : List ℕ
  fs = funclets rs

  abbrev root : ℕ → Node
  root r = node_at z (get_or roots r 0)

  from_ways : (r b : ℕ) (n : Node) → map exit (ways_from g rs r b n) ≡ exits_from g rs b n
  unfolding ways_from exits_from
  from_ways r b n =
      map-append exit (map on n.edges) (map off n.ends)
      ∙ ap (λ (t : List Exit). t ++ map exit (map off n.ends)) (map-map exit on n.edges)
      ∙ ap (λ (t : List Exit). map (λ (d : Tagged ℕ). exit (on d)) n.edges ++ t) (map-map exit off n.ends)
    where
      on : Tagged ℕ → Way
      on d = record { source = b; route = r; calls = d.calls; end = block (entry_of g fs z d.what) }

      off : Tagged UnwindEnd → Way
      off d = record { source = b; route = r; calls = d.calls; end = end_at g rs b d.what }

  pub from_source : {x : Exit} (b : ℕ) (n : Node) → x ∈ exits_from g rs b n → x.leap.source ≡ b
  unfolding exits_from
  from_source {x} b n m = go (Memᴰ.append_cases (map on n.edges) m)
    where
      on : Tagged ℕ → Exit
      on d = record { leap = record { source = b; end = block (entry_of g fs z d.what) }; calls = d.calls }

      off : Tagged UnwindEnd → Exit
      off d = record { leap = record { source = b; end = end_at g rs b d.what }; calls = d.calls }

      go : (x ∈ map on n.edges) ⊎ (x ∈ map off n.ends) → x.leap.source ≡ b
      go (inl k) = ap (λ (y : Exit). y.leap.source) (map_mem on n.edges k).2
      go (inr k) = ap (λ (y : Exit). y.leap.source) (map_mem off n.ends k).2

  abbrev of_route : ℕ → List Exit
  of_route r = joined (λ b. exits_from g rs b (root r)) (guarded g (route_at rs r))

  abbrev of_node : ℕ → List Exit
  of_node i = joined (λ b. exits_from g rs b (node_at z i)) (returns_of g fs z i)

  joined_ways : (r : ℕ) (n : Node) (l : List ℕ) → map exit (joined (λ b. ways_from g rs r b n) l) ≡ joined (λ b. exits_from g rs b n) l
  joined_ways r n l = map-joined exit (λ b. ways_from g rs r b n) l ∙ (λ i. joined (λ b. from_ways r b n i) l)

  route_ways_law : (r : ℕ) (us : List UnwindRoute) (is : List ℕ) → length is ≡ length us → map exit (route_ways g rs r us is) ≡ flat (λ k. joined (λ b. exits_from g rs b (node_at z (get_or is k 0))) (guarded g (route_at us k))) (length us)
  unfolding route_ways flat
  route_ways_law r [] is e = refl
  route_ways_law r (u ∷ us) [] e = absurd (let k : ◌≡◌ {A = ℕ} 0 (suc (length us)) = e in omega arith)
  route_ways_law r (u ∷ us) (i ∷ is) e =
      map-append exit (joined (λ b. ways_from g rs r b (node_at z i)) (guarded g u)) (route_ways g rs (suc r) us is)
      ∙ ap (λ (t : List Exit). t ++ map exit (route_ways g rs (suc r) us is)) (joined_ways r (node_at z i) (guarded g u))
      ∙ ap (λ (t : List Exit). joined (λ b. exits_from g rs b (node_at z i)) (guarded g u) ++ t) (route_ways_law (suc r) us is (let k : suc (length is) ≡ suc (length us) = e in omega arith))
      ∙ sym (flat_front (λ k. joined (λ b. exits_from g rs b (node_at z (get_or (i ∷ is) k 0))) (guarded g (route_at (u ∷ us) k))) (length us))

  pub ways_exits : map exit (ways g rs) ≡ flat of_route (length rs) ++ flat of_node (length z)
  unfolding ways node_ways tries
  ways_exits =
      map-append exit (route_ways g rs 0 rs roots) (flat (node_ways g rs) (length z))
      ∙ ap (λ (t : List Exit). t ++ map exit (flat (node_ways g rs) (length z))) (route_ways_law 0 rs roots (roots_length 0 rs []))
      ∙ ap (λ (t : List Exit). flat of_route (length rs) ++ t) (map-flat exit (node_ways g rs) (length z) ∙ (λ i. flat (λ j. joined_ways (node_at z j).route (node_at z j) (returns_of g fs z j) i) (length z)))

  -- an exit is a route's or a node's
  pub data Leaves (x : Exit) : Type 0 where
    by_route : (r b : ℕ) → r < length rs → b ∈ guarded g (route_at rs r) → x ∈ exits_from g rs b (root r) → Leaves x
    by_node : (i b : ℕ) → i < length z → b ∈ keep (returning g) (blocks_of g fs z i) → x ∈ exits_from g rs (place g fs z i b) (node_at z i) → Leaves x

  abbrev all_exits : List Exit
  all_exits = map exit (ways g rs)

  pub exit_leaves : {x : Exit} → x ∈ all_exits → Leaves x
  unfolding returns_of
  exit_leaves {x} m = go (Memᴰ.append_cases (flat of_route (length rs)) (rw ways_exits at m))
    where
      go : (x ∈ flat of_route (length rs)) ⊎ (x ∈ flat of_node (length z)) → Leaves x
      go (inl k) =
          let y = flat_mem of_route (length rs) k in
          let j = joined_mem (λ b. exits_from g rs b (root y.0)) (guarded g (route_at rs y.0)) y.2 in
          by_route y.0 j.0 y.1 j.1 j.2
      go (inr k) =
          let y = flat_mem of_node (length z) k in
          let j = joined_mem (λ b. exits_from g rs b (node_at z y.0)) (returns_of g fs z y.0) y.2 in
          let o = map_mem (place g fs z y.0) (keep (returning g) (blocks_of g fs z y.0)) j.1 in
          by_node y.0 o.0 y.1 o.1 (rw o.2 at j.2)

  pub leaves_exit : {x : Exit} → Leaves x → x ∈ all_exits
  unfolding returns_of
  leaves_exit (by_route r b h m k) = rw ways_exits (Memᴰ.append_left (flat of_node (length z)) (mem_flat of_route (length rs) r h (mem_joined (λ b. exits_from g rs b (root r)) m k)))
  leaves_exit (by_node i b h m k) = rw ways_exits (Memᴰ.append_right (flat of_route (length rs)) (mem_flat of_node (length z) i h (mem_joined (λ b. exits_from g rs b (node_at z i)) (mem_map (place g fs z i) m) k)))

  -- ---- where exits are

  abbrev count : ℕ
  count = length g.blocks

  guarded_lt : (r : ℕ) {b : ℕ} → b ∈ guarded g (route_at rs r) → b < count
  unfolding guarded built_blocks
  guarded_lt r {b} m = upto_mem count (keep_mem _ (upto count) (keep_mem _ (keep _ (upto count)) m).0).0

  rank_lt : {b : ℕ} {l : List ℕ} → b ∈ l → rank b l < length l
  rank_lt {b} {l} m = at_lt l (rank b l) (at_rank m)

  pub place-below : (i b : ℕ) → i < length z → b ∈ blocks_of g fs z i → place g fs z i b < count + length (flat (copied g fs z) (length z))
  unfolding base
  place-below i b h m = go (first_or_later g rs z i)
    where
      go : (later g fs z i ≡ true) ⊎ (later g fs z i ≡ false) → place g fs z i b < count + length (flat (copied g fs z) (length z))
      go (inl l) =
          let e : length (copied g fs z i) ≡ length (blocks_of g fs z i) = ap length (copied_later g rs z i l) in
          let r = rank_lt m in
          omega (arith, place_later g rs z i b l, flat_le (copied g fs z) (suc i) (length z) h, flat-suc (copied g fs z) i)
      go (inr l) = omega (arith, place_first g rs z i b l, blocks_lt g rs z i b m)

  pub source_below : (x : Exit) → x ∈ all_exits → x.leap.source < count + length (flat (copied g fs z) (length z))
  source_below x m = go (exit_leaves m)
    where
      go : Leaves x → x.leap.source < count + length (flat (copied g fs z) (length z))
      go (by_route r b h k i) = let e = from_source b (root r) i in omega (arith, guarded_lt r k)
      go (by_node i b h k j) = let e = from_source (place g fs z i b) (node_at z i) j in omega (arith, place-below i b h (keep_mem (returning g) (blocks_of g fs z i) k).0)

  mem_if : {x : Exit} {l : List Exit} (t : Bool) → t ≡ true → x ∈ l → x ∈ cond t l []
  mem_if t e m = rw e m

  if_mem : {x : Exit} {l : List Exit} (t : Bool) → x ∈ cond t l [] → (t ≡ true) × (x ∈ l)
  if_mem true m = (refl, m)
  if_mem false m = absurd (none_in m)

  module _ (b : ℕ) (stood : b < count) where
    abbrev here : List Exit
    here = flat (route_exits g rs b) (length rs) ++ flat (node_exits g rs b) (length z)

    to_here : {x : Exit} → Leaves x → x.leap.source ≡ b → x ∈ here
    unfolding route_exits node_exits
    to_here {x} (by_route r c h m k) e =
        let p : c ≡ b = sym (from_source c (root r) k) ∙ e in
        Memᴰ.append_left (flat (node_exits g rs b) (length z))
        (mem_flat (route_exits g rs b) (length rs) r h
        (mem_if (among (guarded g (route_at rs r)) b) (mem_among (rw p at m)) (rw p at k)))
    to_here {x} (by_node i c h m k) e = go (first_or_later g rs z i)
      where
        at_b : place g fs z i c ≡ b
        at_b = sym (from_source (place g fs z i c) (node_at z i) k) ∙ e

        go : (later g fs z i ≡ true) ⊎ (later g fs z i ≡ false) → x ∈ here
        go (inl l) = absurd (omega (arith, later_above g rs z i c l, at_b))
        go (inr l) =
            let p : c ≡ b = sym (place_first g rs z i c l) ∙ at_b in
            Memᴰ.append_right (flat (route_exits g rs b) (length rs))
            (mem_flat (node_exits g rs b) (length z) i h
            (mem_if (not (later g fs z i) && among (keep (returning g) (blocks_of g fs z i)) b) (and_true (ap not l) (mem_among (rw p at m))) (rw at_b at k)))

    from_here : {x : Exit} → x ∈ here → Leaves x × (x.leap.source ≡ b)
    unfolding route_exits node_exits
    from_here {x} m = go (Memᴰ.append_cases (flat (route_exits g rs b) (length rs)) m)
      where
        go : (x ∈ flat (route_exits g rs b) (length rs)) ⊎ (x ∈ flat (node_exits g rs b) (length z)) → Leaves x × (x.leap.source ≡ b)
        go (inl k) =
            let y = flat_mem (route_exits g rs b) (length rs) k in
            let t = if_mem (among (guarded g (route_at rs y.0)) b) y.2 in
            (by_route y.0 b y.1 (among_mem (guarded g (route_at rs y.0)) b t.0) t.1, from_source b (root y.0) t.1)
        go (inr k) =
            let y = flat_mem (node_exits g rs b) (length z) k in
            let t = if_mem (not (later g fs z y.0) && among (keep (returning g) (blocks_of g fs z y.0)) b) y.2 in
            let a = and_both (not (later g fs z y.0)) (among (keep (returning g) (blocks_of g fs z y.0)) b) t.0 in
            let p : place g fs z y.0 b ≡ b = place_first g rs z y.0 b (first (later g fs z y.0) a.0) in
            (by_node y.0 b y.1 (among_mem (keep (returning g) (blocks_of g fs z y.0)) b a.1) (rw p t.1), from_source b (node_at z y.0) t.1)
          where
            first : (t : Bool) → not t ≡ true → t ≡ false
            first true e = absurd (false≢true e)
            first false e = refl

    pub standing_exits : exits_at all_exits b ≡ sorted compare_exits here
    unfolding exits_at
    standing_exits =
        sorted-same compare_exits total_exits (keep (is_from b) all_exits) here
        (λ x m. let k = keep_mem (is_from b) all_exits m in to_here (exit_leaves k.0) (eqb-true x.leap.source b k.1))
        (λ x m. let k = from_here m in mem_keep (is_from b) (leaves_exit k.0) (eq-eqb x.leap.source b k.1))

  module _ (i o : ℕ) (inside : i < length z) (copies : later g fs z i ≡ true) (own : o ∈ blocks_of g fs z i) where
    abbrev copy : ℕ
    copy = place g fs z i o

    to_copy : {x : Exit} → Leaves x → x.leap.source ≡ copy → x ∈ copy_exits g rs copy i o
    unfolding copy_exits
    to_copy {x} (by_route r c h m k) e = let p = from_source c (root r) k in absurd (omega (arith, later_above g rs z i o copies, guarded_lt r m))
    to_copy {x} (by_node j c h m k) e =
        let p : copy ≡ place g fs z j c = sym e ∙ from_source (place g fs z j c) (node_at z j) k in
        let y = keep_mem (returning g) (blocks_of g fs z j) m in
        let same : i ≡ j = clone_owner g rs z i j o c copies own y.0 p in
        let q : copy ≡ place g fs z i c = rw (sym same) at p in
        let there : c ∈ blocks_of g fs z i = rw (sym same) at y.0 in
        let one : o ≡ c = place_apart g rs z i o c own there q in
        mem_if (returning g o) (rw one y.1) (rw p (rw same k))

    from_copy : {x : Exit} → x ∈ copy_exits g rs copy i o → Leaves x × (x.leap.source ≡ copy)
    unfolding copy_exits
    from_copy m =
        let t = if_mem (returning g o) m in
        (by_node i o inside (mem_keep (returning g) own t.0) t.1, from_source copy (node_at z i) t.1)

    pub copy_exits_law : exits_at all_exits copy ≡ sorted compare_exits (copy_exits g rs copy i o)
    unfolding exits_at
    copy_exits_law =
        sorted-same compare_exits total_exits (keep (is_from copy) all_exits) (copy_exits g rs copy i o)
        (λ x m. let k = keep_mem (is_from copy) all_exits m in to_copy (exit_leaves k.0) (eqb-true x.leap.source copy k.1))
        (λ x m. let k = from_copy m in mem_keep (is_from copy) (leaves_exit k.0) (eq-eqb x.leap.source copy k.1))

-- ---- the blocks of an instance rise

pub upto_rising : (n : ℕ) → Rising compare (upto n)
unfolding upto Rising
upto_rising zero = tt
upto_rising (suc n) = rising_join compare (upto n) (n ∷ []) (upto_rising n) (λ y m. absurd (none_in m), tt) (λ x y i j. less x y i j)
  where
    less : (x y : ℕ) → x ∈ upto n → y ∈ n ∷ [] → compare x y ≡ Ordering.lt
    less x y i (Memᴰ.head e) = number_lt x y (let h = upto_mem n i in omega arith)
    less x y i (Memᴰ.tail j) = absurd (none_in j)

part_rising : (g : Graph) (fs : List ℕ) (f e n : ℕ) → Rising compare (rounds g fs f e n)
unfolding rounds round Rising
part_rising g fs f e zero = tt
part_rising g fs f e (suc n) = rising_keep compare _ (upto (length g.blocks)) (upto_rising (length g.blocks))

pub blocks_rising : (g : Graph) (fs : List ℕ) (z : List Node) (i : ℕ) → Rising compare (blocks_of g fs z i)
unfolding blocks_of part_of part Rising
blocks_rising g fs z i = go (node_at z i).funclet
  where
    go : (o : Option ℕ) → Rising compare (part_of g fs o)
    go none = tt
    go (some f) = part_rising g fs f _ (length g.blocks)
