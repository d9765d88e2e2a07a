-- What is lent where hops are counted and stored, from the instances at hand.
--     block_most, entry_most       the block of an address, and the entry of a funclet
--     entry_few, base_few          the entry of a node, and its first copy
--     leads_in, sides_in, parts_in, few_in     where nodes and ends lead, the sides, the parts, and the first copies
--     place_in_law                     where a node has a block
--     ways_within                      the ways of the addition, as routes want them
--     runs_in, starts_in           the runs of blocks and copies, and where they begin
-- Assumes nothing.
use mathlib.Core.Path.{◌≡◌, refl, sym, ap, ap₂, ◌∙◌, subst}
use mathlib.Core.Bool.{Bool, true, false, cond}
use mathlib.Core.Logic.{⊎_elim}
use mathlib.Core.List.{List, [], ◌∷◌, ◌++◌, map, map-map, map-append}
use mathlib.Core.Option.{Option, none, some}
use Prim.Native.Nat.{ℕ, suc, ◌+◌, ◌-◌, ◌*◌, ◌≤◌, ◌<◌}
use native.Mathlib.Decide.{dec_lt}
use native.Mathlib.Omega.{arith}
use borrow.Author.Tests.{eq-eqb, ne_eqb, ltb-true}
use lib.Dec.{eqb, ltb}
use lib.ListN.{length, get_or, get_or-eq_default, get_or-map}
use lib.Seq.{get_or-take, get_or-append-add}
use Rattle.image.specs.Image.{RouteImage}
use Rattle.image.specs.Deal.{UnwindEnd, UnwindRoute, routes_of}
use Rattle.graph.specs.declared.record.Block.{Block}
use Rattle.graph.specs.declared.record.Edge.{Edge}
use Rattle.graph.specs.Graph.{Graph, block}
use Rattle.graph.specs.Fold.{flat}
use Rattle.graph.specs.BlockSet.{member}
use Rattle.graph.specs.Table.{is_start}
use Rattle.graph.specs.WellFormed.{none_empty}
use Rattle.graph.specs.Route.{route_at}
use Rattle.graph.proofs.FoldLaws.{flat-same, flat_front}
use Rattle.graph.proofs.RouteLaws.{length-routes}
use Rattle.unwind.specs.declared.tries.store.Counts.{Counts}
use Rattle.addition.specs.Lists.{keep, joined, rank, head}
use Rattle.addition.specs.Order.{Tagged}
use Rattle.addition.specs.Blocks.{built_blocks, first_of, leading_by, leading, block_in, block_of, guarded}
use Rattle.unwind.specs.Stands.{Stands}
use Rattle.addition.specs.Part.{funclets, returning}
use Rattle.addition.specs.Trie.{Node, node_at, tries}
use Rattle.unwind.specs.Nodes.{record_in, node_in}
use Rattle.addition.specs.Instance.{entry_block, blocks_of, later, copied, base, place, entry_of, returns_of, clone_blocks}
use Rattle.unwind.specs.Placed.{set_at}
use Rattle.addition.specs.Ways.{Way, block as to_block, end_at, ways_from, route_ways, node_ways, ways}
use Rattle.unwind.specs.Sources.{Exit, exits_from}
use Rattle.unwind.specs.Gather.{in_set}
use Rattle.unwind.specs.Lent.{Leads, Sides, PartsIn}
use Rattle.unwind.specs.Copies.{BasesFew, Bounded}
use Rattle.unwind.specs.Wanted.{way_of, place_in, record_ways, guard_ways, return_ways, lent_ways, RunsFit}
use Rattle.unwind.specs.Instances.{Instances}
use Rattle.addition.specs.Add.{extended}
use Rattle.addition.specs.Walk.{◌∈◌}
use Rattle.addition.proofs.Lists.{keep_mem, mem_among, flat-suc, flat_le}
use Rattle.unwind.proofs.Sources.{joined-map}
use Rattle.addition.proofs.Accepted.{head_mem, built_mem, guarded_mem}
use Rattle.unwind.proofs.Standing.{run_fits}
use Rattle.addition.proofs.Instance.{first_or_later, place_first, place_later, copied_later}
use Rattle.addition.proofs.After.{old_block}
use Rattle.addition.proofs.Sound.{all_at}
use Rattle.addition.proofs.AgainBlocks.{runs_after}
use Rattle.addition.proofs.Again.{new_old}
use Rattle.unwind.proofs.Sets.{Rises, keep_rises, guarded_kept}
use Rattle.unwind.proofs.TrieNodes.{length_nodes}
use Rattle.unwind.proofs.Leaving.{roots_length, place-below}
use Rattle.unwind.proofs.LentLaws.{node_is, record_exits_law}
use Rattle.unwind.proofs.SlotLaws.{set_run}
use Rattle.unwind.proofs.PlaceLaws.{part_rises}
use Rattle.unwind.proofs.ChainLaws.{list_has}
use Rattle.unwind.proofs.ClonesAre.{joined_same, original, copying, placed_at}

-- ---- entries

module _ (g : Graph) where
  pub block_most : (a : ℕ) → block_of g a ≤ length g.blocks
  unfolding block_of leading leading_by block_in
  block_most a = go (head found) refl (is_start g.table a)
    where
      starts : ℕ → Bool
      starts b = eqb (first_of g b).address a

      found : List ℕ
      found = keep starts (built_blocks g)

      go : (o : Option ℕ) → head found ≡ o → (s : Bool) → block_in (leading_by o s) ≤ length g.blocks
      go (some b) e true = omega (arith, (built_mem g b (keep_mem starts (built_blocks g) (head_mem found b e)).0).exists)
      go (some b) e false = omega arith
      go none e true = omega arith
      go none e false = omega arith

  pub entry_most : (o : Option ℕ) → entry_block g o ≤ length g.blocks
  unfolding entry_block
  entry_most none = omega arith
  entry_most (some f) = block_most f

rank_most : (x : ℕ) (l : List ℕ) → rank x l ≤ length l
unfolding rank
rank_most x [] = omega arith
rank_most x (y ∷ l) = go (eqb x y) (rank_most x l)
  where
    go : (t : Bool) → rank x l ≤ length l → cond t 0 (suc (rank x l)) ≤ suc (length l)
    go true h = omega arith
    go false h = omega arith

module _ (g : Graph) (rs : List UnwindRoute) (bounded : Bounded g rs) (i : ℕ) where
  abbrev z : List Node
  z = (tries rs).nodes

  abbrev fs : List ℕ
  fs = funclets rs

  -- a later node's copies end before the limit
  copies_most : i < length z → later g fs z i ≡ true → base g fs z i + length (blocks_of g fs z i) ≤ 1024
  unfolding base
  copies_most h l =
      let e : length (copied g fs z i) ≡ length (blocks_of g fs z i) = ap length (copied_later g rs z i l) in
      omega (arith, flat_le (copied g fs z) (suc i) (length z) h, flat-suc (copied g fs z) i, bounded.few)

  pub entry_few : i < length z → entry_of g fs z i ≤ 1024
  unfolding entry_of
  entry_few h =
      let e : ℕ = entry_block g (node_at z i).funclet in
      ⊎_elim
      (λ l. omega (arith, place_later g rs z i e l, rank_most e (blocks_of g fs z i), copies_most h l))
      (λ l. omega (arith, place_first g rs z i e l, entry_most g (node_at z i).funclet, bounded.few))
      (first_or_later g rs z i)

  pub base_few : i < length z → cond (later g fs z i) (base g fs z i) 0 ≤ 1024
  base_few h =
      ⊎_elim
      (λ l. rw l (omega (arith, copies_most h l)))
      (λ l. rw l (omega arith))
      (first_or_later g rs z i)

in_set_law : (l : List ℕ) (n i b : ℕ) → 16 * n ≤ length l → i < n → in_set l i b ≡ member (set_at l i) b
in_set_law l n i b fit h = ap (λ (w : List ℕ). member w b) (sym (set_run l i (omega arith)))

-- ---- ways

module _ (g : Graph) (rs : List UnwindRoute) where
  abbrev nodes' : List Node
  nodes' = (tries rs).nodes

  ways_of_law : (r b : ℕ) (n : Node) → map (way_of r) (exits_from g rs b n) ≡ ways_from g rs r b n
  unfolding ways_from exits_from
  ways_of_law r b n =
      map-append (way_of r) (map on n.edges) (map off n.ends)
      ∙ ap₂ (λ (s t : List Way). s ++ t) (map-map (way_of r) on n.edges) (map-map (way_of r) off n.ends)
    where
      on : Tagged ℕ → Exit
      on d = record { leap = record { source = b; end = to_block (entry_of g (funclets rs) nodes' d.what) }; calls = d.calls }

      off : Tagged UnwindEnd → Exit
      off d = record { leap = record { source = b; end = end_at g rs b d.what }; calls = d.calls }

  -- those of the routes from number r on
  route_list : (r : ℕ) (us : List UnwindRoute) (is : List ℕ) → length is ≡ length us → route_ways g rs r us is ≡ flat (λ k. joined (λ b. ways_from g rs (r + k) b (node_at nodes' (get_or is k 0))) (guarded g (route_at us k))) (length us)
  unfolding route_ways flat
  route_list r [] is e = refl
  route_list r (u ∷ us) [] e = absurd (let k : ◌≡◌ {A = ℕ} 0 (suc (length us)) = e in omega arith)
  route_list r (u ∷ us) (i ∷ is) e =
      let all : ℕ → List Way = λ k. joined (λ b. ways_from g rs (r + k) b (node_at nodes' (get_or (i ∷ is) k 0))) (guarded g (route_at (u ∷ us) k)) in
      let here : r ≡ r + 0 = omega arith in
      ap₂ (λ (s t : List Way). s ++ t)
      (ap (λ (k : ℕ). joined (λ b. ways_from g rs k b (node_at nodes' i)) (guarded g u)) here)
      (route_list (suc r) us is (let k : suc (length is) ≡ suc (length us) = e in omega arith)
      ∙ flat-same _ (λ k. all (suc k)) (length us)
      (λ k h. let next : suc r + k ≡ r + suc k = omega arith in
      ap (λ (n : ℕ). joined (λ b. ways_from g rs n b (node_at nodes' (get_or is k 0))) (guarded g (route_at us k))) next))
      ∙ sym (flat_front all (length us))

-- ---- what is lent

module _ (g : Graph) (m : RouteImage) (nodes edges ends roots bases heads parts returns guards landings : List ℕ) (c : Counts) (x : Instances g m nodes edges ends roots bases heads parts returns guards landings c) where
  abbrev rs : List UnwindRoute
  rs = routes_of m

  abbrev trie : List Node
  trie = (tries (routes_of m)).nodes

  abbrev funclets' : List ℕ
  funclets' = funclets (routes_of m)

  long : length trie ≡ c.nodes
  long = ap length (sym x.trie.nodes_are) ∙ length_nodes m nodes edges ends c.nodes

  few : length g.blocks ≤ 1024
  few = omega (arith, x.bounded.few)

  rises : (i : ℕ) → Rises (length g.blocks) (blocks_of g funclets' trie i)
  unfolding blocks_of
  rises i = part_rises g funclets' (node_at trie i).funclet

  pub leads_in : Leads g m ends heads landings c
  leads_in =
      record {
        heads_are = λ i h. x.placed.entry_is i h;
        heads_few = λ i h. omega (arith, x.placed.entry_is i h, entry_few g (routes_of m) x.bounded i (omega (arith, long)));
        lands = x.landed;
        blocks_few = λ a. omega (arith, block_most g a, few);
      }

  pub sides_in : Sides g m guards bases returns c
  sides_in =
      record {
        guards_are = λ r b h. in_set_law guards (length m.routes) r b x.guards_fit h ∙ x.guarded.has r h b;
        bases_are = λ i h. x.placed.base_is i h;
        returns_are = λ i b h. in_set_law returns c.nodes i b x.returns_fit h ∙ x.returns_has i h b;
      }

  pub parts_in : PartsIn g m parts c
  parts_in = record { parts_are = λ i b h. in_set_law parts c.nodes i b x.slots.parts_fit h ∙ x.placed.part_has i h b }

  pub few_in : BasesFew bases c.nodes
  few_in = record { few = λ i h. rw (x.placed.base_is i h) (base_few g (routes_of m) x.bounded i (omega (arith, long))) }

  pub place_in_law : (i o : ℕ) → i < c.nodes → o ∈ blocks_of g funclets' trie i → place_in bases parts i o ≡ place g funclets' trie i o
  unfolding place_in
  place_in_law i o h own =
      ⊎_elim
      (λ l.
      rw (ne_eqb (get_or bases i 0) 0 (copying g few x.bounded.some rs trie bases heads parts c.nodes x.placed i h l))
      (placed_at g few x.bounded.some rs trie bases heads parts c.nodes x.placed i h l o (x.placed.part_has i h o ∙ mem_among own)))
      (λ l.
      rw (eq-eqb (get_or bases i 0) 0 (original g few x.bounded.some rs trie bases heads parts c.nodes x.placed i h l))
      (sym (place_first g rs trie i o l)))
      (first_or_later g rs trie i)

  record_ways_law : (r b i : ℕ) → b < 65535 → i < c.nodes → record_ways m nodes edges ends heads landings r b (record_in nodes i) ≡ ways_from g rs r b (node_at trie i)
  unfolding record_ways
  record_ways_law r b i low h =
      ap (map (way_of r)) (record_exits_law g m nodes edges ends roots heads landings guards bases returns c x.trie leads_in b low i h)
      ∙ ways_of_law g rs r b (node_at trie i)

  guard_ways_law : (r : ℕ) → r < length m.routes → guard_ways m nodes edges ends heads landings roots guards r ≡ joined (λ b. ways_from g rs r b (node_at trie (get_or (tries rs).roots r 0))) (guarded g (route_at rs r))
  unfolding guard_ways
  guard_ways_law r h =
      let i : ℕ = get_or roots r 0 in
      let u : UnwindRoute = route_at rs r in
      let root : i ≡ get_or (tries rs).roots r 0 = sym (get_or-take (length m.routes) roots r 0 h) ∙ ap (λ (l : List ℕ). get_or l r 0) x.trie.roots_are in
      ap (joined (λ b. record_ways m nodes edges ends heads landings r b (record_in nodes i))) (list_has (length g.blocks) (guarded g u) (set_at guards r) few (guarded_kept g u) (x.guarded.has r h))
      ∙ joined_same _ (λ b. ways_from g rs r b (node_at trie i)) (guarded g u) (λ b k. record_ways_law r b i (omega (arith, (guarded_mem g u b k).0.exists)) (x.trie.roots_in r h))
      ∙ ap (λ (j : ℕ). joined (λ b. ways_from g rs r b (node_at trie j)) (guarded g u)) root

  return_ways_law : (i : ℕ) → i < c.nodes → return_ways m nodes edges ends heads landings bases parts returns i ≡ node_ways g rs i
  unfolding return_ways node_ways returns_of node_in
  return_ways_law i h =
      let from : List ℕ = keep (returning g) (blocks_of g funclets' trie i) in
      let route : (record_in nodes i).route ≡ (node_at trie i).route = ap (λ (n : Node). n.route) (sym (node_is g m nodes edges ends roots heads landings guards bases returns c x.trie leads_in i h)) in
      ap (joined (λ o. record_ways m nodes edges ends heads landings (record_in nodes i).route (place_in bases parts i o) (record_in nodes i)))
      (list_has (length g.blocks) from (set_at returns i) few (keep_rises (length g.blocks) (blocks_of g funclets' trie i) (returning g) (rises i)) (x.returns_has i h))
      ∙ joined_same _ (λ o. ways_from g rs (record_in nodes i).route (place g funclets' trie i o) (node_at trie i)) from
      (λ o k.
      let own = (keep_mem (returning g) (blocks_of g funclets' trie i) k).0 in
      ap (λ (b : ℕ). record_ways m nodes edges ends heads landings (record_in nodes i).route b (record_in nodes i)) (place_in_law i o h own)
      ∙ record_ways_law (record_in nodes i).route (place g funclets' trie i o) i (omega (arith, place-below g rs i o (omega (arith, long)) own, x.bounded.few)) h)
      ∙ ap (λ (r : ℕ). joined (λ o. ways_from g rs r (place g funclets' trie i o) (node_at trie i)) from) route
      ∙ sym (joined-map (λ b. ways_from g rs (node_at trie i).route b (node_at trie i)) (place g funclets' trie i) from)

  pub ways_within : lent_ways m nodes edges ends heads landings roots guards bases parts returns (length m.routes) c.nodes ≡ ways g (routes_of m)
  unfolding lent_ways ways tries
  ways_within =
      ap₂ (λ (s t : List Way). s ++ t)
      (flat-same _ _ (length m.routes) guard_ways_law
      ∙ ap (flat (λ r. joined (λ b. ways_from g rs r b (node_at trie (get_or (tries rs).roots r 0))) (guarded g (route_at rs r)))) (sym (length-routes m))
      ∙ flat-same _ _ (length rs) (λ r h. let e : r ≡ 0 + r = omega arith in ap (λ (k : ℕ). joined (λ b. ways_from g rs k b (node_at trie (get_or (tries rs).roots r 0))) (guarded g (route_at rs r))) e)
      ∙ sym (route_list g rs 0 rs (tries rs).roots (roots_length 0 rs [])))
      (flat-same _ _ c.nodes return_ways_law ∙ ap (flat (node_ways g rs)) (sym long))

-- ---- runs

pub runs_in : (g : Graph) → Stands g → (fs : List ℕ) (z : List Node) (es : List Edge) → RunsFit (extended g (clone_blocks g fs z) es)
unfolding clone_blocks extended
runs_in g s fs z es = record { fits = λ b. go b (dec_lt b (length g.blocks)) }
  where
    own : List ℕ
    own = flat (copied g fs z) (length z)

    size : ℕ
    size = length g.blocks

    run : (b j : ℕ) → block (extended g (map (block g) own) es) b ≡ block g j → (block (extended g (map (block g) own) es) b).first + (block (extended g (map (block g) own) es) b).count ≤ length g.table
    run b j e = subst (λ (y : Block). y.first + y.count ≤ length g.table) (sym e) (run_fits g s j)

    past : block g size ≡ record { first = 0; count = 0 }
    past = get_or-eq_default g.blocks _ (omega arith)

    go : (b : ℕ) → Dec (b < size) → (block (extended g (map (block g) own) es) b).first + (block (extended g (map (block g) own) es) b).count ≤ length g.table
    go b (yes lt) = run b b (old_block g (map (block g) own) es b lt)
    go b (no ge) =
        let k : ℕ = b - size in
        let at : b ≡ size + k = omega arith in
        run b (get_or own k size)
        (ap (block (extended g (map (block g) own) es)) at
        ∙ get_or-append-add g.blocks (map (block g) own) k _
        ∙ ap (get_or (map (block g) own) k) (sym past)
        ∙ get_or-map (block g) own k size)

-- where an instruction stands, so does the first one of each block
pub starts_in : (g : Graph) → Stands g → (rs : List UnwindRoute) (es : List Edge) → 0 < length g.table → (b : ℕ) → b < length (extended g (clone_blocks g (funclets rs) (tries rs).nodes) es).blocks → (block (extended g (clone_blocks g (funclets rs) (tries rs).nodes) es) b).first < length g.table
unfolding none_empty extended
starts_in g s rs es some_there b h =
    let g' : Graph = extended g (clone_blocks g (funclets rs) (tries rs).nodes) es in
    let full = runs_after g (clone_blocks g (funclets rs) (tries rs).nodes) es (new_old g rs) (λ z. absurd (omega arith)) s.runs in
    let one = all_at (λ (k : ℕ). ltb 0 (block g' k).count) (length g'.blocks) b (rw (ne_eqb (length g.table) 0 (λ z. omega arith)) at full) h in
    omega (arith, ltb-true 0 (block g' b).count one, (runs_in g s (funclets rs) (tries rs).nodes es).fits b)
