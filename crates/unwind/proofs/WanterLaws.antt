-- Who wants route edges: the routes, then the nodes.
--     wanter_route, wanter_node, route_is, node_is     which they are
--     set_route, set_node, set_sixteen, word_route, word_node     their blocks
--     ways_node, wanter_ways_law       their ways, out of these blocks
--     all_ways                     those of all
--     wanter_there                 all of them are there
-- Assumes nothing.
use mathlib.Core.Path.{◌≡◌, refl, sym, ap, ap₂, ◌∙◌}
use mathlib.Core.List.{List, ◌++◌, append-nil, append_assoc}
use Prim.Native.Nat.{ℕ, zero, suc, ◌+◌, ◌-◌, ◌*◌, ◌≤◌, ◌<◌}
use native.Mathlib.Decide.{dec_lt}
use native.Mathlib.Omega.{arith}
use borrow.Author.Tests.{lt-ltb, le-ltb}
use lib.Bits.{bit_and}
use lib.ListN.{length, get_or}
use Rattle.image.specs.Image.{RouteImage}
use Rattle.graph.specs.Fold.{flat}
use Rattle.graph.proofs.FoldLaws.{flat-same}
use Rattle.unwind.specs.declared.wants.wanter.Wanter.{Wanter}
use Rattle.addition.specs.Ways.{Way}
use Rattle.unwind.specs.Nodes.{record_in}
use Rattle.unwind.specs.Placed.{set_at, returns_in}
use Rattle.unwind.specs.Wanted.{guard_ways, return_ways, lent_ways}
use Rattle.unwind.specs.Flags.{set_ways}
use Rattle.unwind.specs.Gather.{NodeThere}
use Rattle.unwind.specs.Members.{BlockSets}
use Rattle.unwind.specs.Wanters.{wanter_of, wanter_set, wanter_ways, WanterThere}
use Rattle.unwind.proofs.SlotLaws.{set_long, set_word}
use Rattle.unwind.proofs.ReturnLaws.{returns_word}
use Rattle.unwind.proofs.MemberLaws.{in_set_law}
use Rattle.unwind.proofs.WantLaws.{guard_set, return_set}

module _ (nodes roots bases : List ℕ) (routes k : ℕ) where
  pub wanter_route : k < routes → wanter_of nodes roots bases routes k ≡ record { node = get_or roots k 0; route = k; base = 0 }
  unfolding wanter_of
  wanter_route lt = rw (lt-ltb k routes lt)

  pub wanter_node : routes ≤ k → wanter_of nodes roots bases routes k ≡ record { node = k - routes; route = (record_in nodes (k - routes)).route; base = get_or bases (k - routes) 0 }
  unfolding wanter_of
  wanter_node ge = rw (le-ltb k routes ge)

  pub route_is : k < routes → (n : ℕ) → n ≡ get_or roots k 0 → record { node = n; route = k; base = 0 } ≡ wanter_of nodes roots bases routes k
  route_is lt n e = rw (e, wanter_route lt)

  pub node_is : routes ≤ k → (r b : ℕ) → r ≡ (record_in nodes (k - routes)).route → b ≡ get_or bases (k - routes) 0 → record { node = k - routes; route = r; base = b } ≡ wanter_of nodes roots bases routes k
  node_is ge r b p q = rw (p, q, wanter_node ge)

module _ (guards returns : List ℕ) (routes k : ℕ) where
  pub set_route : k < routes → wanter_set guards returns routes k ≡ set_at guards k
  unfolding wanter_set
  set_route lt = rw (lt-ltb k routes lt)

  pub set_node : routes ≤ k → wanter_set guards returns routes k ≡ set_at returns (k - routes)
  unfolding wanter_set
  set_node ge = rw (le-ltb k routes ge)

  pub set_sixteen : length (wanter_set guards returns routes k) ≡ 16
  set_sixteen =
      elim (dec_lt k routes) [
        | yes lt ↦ rw (set_route lt) (set_long guards k)
        | no ge ↦ rw (set_node (omega arith)) (set_long returns (k - routes))
      ]

  pub word_route : k < routes → (j : ℕ) → j < 16 → get_or guards (16 * k + j) 0 ≡ get_or (wanter_set guards returns routes k) j 0
  word_route lt j few = sym (rw (set_route lt) (set_word guards k j few))

pub word_node : (guards parts returners : List ℕ) (routes k : ℕ) → routes ≤ k → (j : ℕ) → j < 16 → bit_and (get_or parts (16 * (k - routes) + j) 0) (get_or returners j 0) ≡ get_or (wanter_set guards (returns_in parts returners) routes k) j 0
word_node guards parts returners routes k ge j few =
    sym (rw (set_node guards (returns_in parts returners) routes k ge) (set_word (returns_in parts returners) (k - routes) j few ∙ returns_word parts returners (k - routes) j few))

module _ (m : RouteImage) (nodes edges ends heads landings roots guards bases parts returns : List ℕ) (routes : ℕ) where
  abbrev ways : ℕ → List Way
  ways = wanter_ways m nodes edges ends heads landings roots guards bases parts returns routes

  ways_route : (k : ℕ) → k < routes → ways k ≡ guard_ways m nodes edges ends heads landings roots guards k
  unfolding wanter_ways
  ways_route k lt = rw (lt-ltb k routes lt)

  pub ways_node : (k : ℕ) → routes ≤ k → ways k ≡ return_ways m nodes edges ends heads landings bases parts returns (k - routes)
  unfolding wanter_ways
  ways_node k ge = rw (le-ltb k routes ge)

  -- those of wanter x out of the blocks of w
  abbrev out : Wanter → List ℕ → List Way
  out x w = set_ways m nodes edges ends heads landings x.node x.route x.base (set_at parts x.node) w

  pub wanter_ways_law : (k : ℕ) → ways k ≡ out (wanter_of nodes roots bases routes k) (wanter_set guards returns routes k)
  wanter_ways_law k =
      elim (dec_lt k routes) [
        | yes lt ↦
            ways_route k lt
            ∙ guard_set m nodes edges ends heads landings roots guards (get_or roots k 0) k (set_at parts (get_or roots k 0)) (set_at guards k) refl refl
            ∙ ap₂ out (sym (wanter_route nodes roots bases routes k lt)) (sym (set_route guards returns routes k lt))
        | no no_lt ↦
            let ge : routes ≤ k = omega arith in
            ways_node k ge
            ∙ return_set m nodes edges ends heads landings bases parts returns (k - routes) (record_in nodes (k - routes)).route (get_or bases (k - routes) 0) (set_at parts (k - routes)) (set_at returns (k - routes)) refl refl refl refl
            ∙ ap₂ out (sym (wanter_node nodes roots bases routes k ge)) (sym (set_node guards returns routes k ge))
      ]

  -- behind the routes
  behind : (n : ℕ) → flat ways (routes + n) ≡ flat ways routes ++ flat (λ i. ways (routes + i)) n
  unfolding flat
  behind zero = let e : routes + 0 ≡ routes = omega arith in rw e (sym (append-nil (flat ways routes)))
  behind (suc n) =
      let e : routes + suc n ≡ suc (routes + n) = omega arith in
      rw e
      (ap (λ (l : List Way). l ++ ways (routes + n)) (behind n) ∙ append_assoc (flat ways routes) (flat (λ i. ways (routes + i)) n) (ways (routes + n)))

  pub all_ways : (n : ℕ) → flat ways (routes + n) ≡ lent_ways m nodes edges ends heads landings roots guards bases parts returns routes n
  unfolding lent_ways
  all_ways n =
      behind n
      ∙ ap₂ (λ (x y : List Way). x ++ y)
      (flat-same ways (guard_ways m nodes edges ends heads landings roots guards) routes ways_route)
      (flat-same (λ i. ways (routes + i)) (return_ways m nodes edges ends heads landings bases parts returns) n
      (λ i lt. let e : routes + i - routes ≡ i = omega arith in ways_node (routes + i) (omega arith) ∙ ap (return_ways m nodes edges ends heads landings bases parts returns) e))

-- ---- what is read of them

module _ (nodes edges heads landings roots guards bases parts returns : List ℕ) (routes n blocks : ℕ) (roots_in : routes ≤ length roots) (parts_in : 16 * n ≤ length parts) (bases_in : n ≤ length bases)
    (few : (i : ℕ) → i < n → get_or bases i 0 ≤ 1024) (node : (i : ℕ) → i < n → NodeThere nodes edges heads landings i) (root : (r : ℕ) → r < routes → get_or roots r 0 < n) (sets : BlockSets guards returns blocks routes n) where
  of_route : (k : ℕ) → k < routes → WanterThere nodes edges heads landings roots guards bases parts returns routes blocks k
  of_route k r =
      let own = wanter_route nodes roots bases routes k r in
      let some : k - routes < n = omega (arith, root k r) in
      record {
        roots_in = roots_in;
        guards_in = sets.guards_fit;
        node_in = node (k - routes) some;
        bases_in = omega (arith, some, bases_in);
        parts_in = omega (arith, some, parts_in);
        there = rw own (node (get_or roots k 0) (root k r));
        part_in = rw own (omega (arith, root k r, parts_in));
        base_few = rw own (omega arith);
        below = rw (set_route guards returns routes k r) (λ b m. sets.guards_below k b r (in_set_law guards k b (omega (arith, r, sets.guards_fit)) ∙ m));
      }

  of_node : (k : ℕ) → routes ≤ k → k < routes + n → WanterThere nodes edges heads landings roots guards bases parts returns routes blocks k
  of_node k ge lt =
      let own = wanter_node nodes roots bases routes k ge in
      let some : k - routes < n = omega arith in
      record {
        roots_in = roots_in;
        guards_in = sets.guards_fit;
        node_in = node (k - routes) some;
        bases_in = omega (arith, some, bases_in);
        parts_in = omega (arith, some, parts_in);
        there = rw own (node (k - routes) some);
        part_in = rw own (omega (arith, some, parts_in));
        base_few = rw own (few (k - routes) some);
        below = rw (set_node guards returns routes k ge) (λ b m. sets.returns_below (k - routes) b some (in_set_law returns (k - routes) b (omega (arith, some, sets.returns_fit)) ∙ m));
      }

  pub wanter_there : (k : ℕ) → k < routes + n → WanterThere nodes edges heads landings roots guards bases parts returns routes blocks k
  wanter_there k lt =
      elim (dec_lt k routes) [
        | yes r ↦ of_route k r
        | no ge ↦ of_node k (omega arith) lt
      ]
