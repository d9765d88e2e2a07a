-- What is gathered by the numbers that are lent is what leaves the block.
--     map-table                    f of f 0, f 1, ..
--     count_is, node_is            how many nodes there are in scratch, and a node there
--     child_below                  the node after an edge is an earlier one
--     record_exits_law                 the exits of a node
--     copy_records, block-records  those of a copy, and of a block that stood
--     standing_hops                the hops of a block that stood
--     held_from, block_held, pooled_none    what is gathered from nothing, and room for it
--     node_there, roots_fit        what is read of a node, and the roots
use mathlib.Core.Path.{◌≡◌, refl, sym, ◌∙◌, ap}
use mathlib.Core.Bool.{Bool, true, false, cond, not, ◌&&◌}
use mathlib.Core.List.{List, [], ◌∷◌, ◌++◌, map, map-append}
use mathlib.Core.Option.{some}
use Prim.Native.Nat.{ℕ, zero, suc, ◌+◌, ◌*◌, ◌≤◌, ◌<◌}
use native.Mathlib.Nat.{not-suc-le-zero, min-le_right}
use native.Mathlib.Omega.{arith}
use borrow.Author.Tests.{ne_eqb}
use lib.Dec.{eqb}
use lib.ListN.{length, get_or, take, length-take}
use lib.Seq.{get_or-take}
use Rattle.image.specs.Image.{RouteImage, table}
use Rattle.image.specs.Deal.{UnwindEnd, handler, propagate, resume, end_of, routes_of}
use Rattle.graph.specs.Graph.{Graph}
use Rattle.graph.specs.Fold.{flat, among}
use Rattle.graph.proofs.FoldLaws.{length-table, table_same, get_or_table, flat-same}
use Rattle.graph.proofs.RouteLaws.{length-routes}
use Rattle.unwind.specs.declared.tries.store.Counts.{Counts}
use Rattle.addition.specs.Lists.{keep}
use Rattle.addition.specs.Order.{Tagged, sorted}
use Rattle.addition.specs.Blocks.{block_of}
use Rattle.addition.specs.Part.{funclets, returning}
use Rattle.addition.specs.Trie.{Node, node_at, tries}
use Rattle.unwind.specs.Nodes.{branch_in, record_in, branches, path_record, edge_of, end_at, node_in, nodes_in}
use Rattle.unwind.specs.Routed.{TriesIn}
use Rattle.addition.specs.Instance.{blocks_of, later, base, place, entry_of}
use Rattle.addition.specs.Ways.{block, end_at as hop_end, ways}
use Rattle.unwind.specs.Sources.{Exit, exit, compare_exits, exits_at, exits_from, route_exits, node_exits, copy_exits, hops_on}
use Rattle.unwind.specs.Entries.{end_in, exits_in}
use Rattle.unwind.specs.Gather.{exit_to, edge_exits, end_number, end_exits, record_exits, Gathers, in_set, NodeThere, route_records, node_records, Pooled, Adds}
use Rattle.unwind.specs.Sides.{landing}
use Rattle.unwind.specs.Lent.{Leads, Sides, block_records, Holds, BlockHeld, block_hops}
use Rattle.addition.specs.Walk.{◌∈◌}
use Rattle.addition.proofs.Lists.{none_in, at, lt_at, at_get_or, mem_map}
use Rattle.addition.proofs.Intern.{tries_law}
use Rattle.addition.proofs.Instance.{from_above}
use Rattle.unwind.proofs.Rising.{total_exits}
use Rattle.unwind.proofs.EntryLaws.{table_mem}
use Rattle.unwind.proofs.GatherLaws.{put-all-sorted}
use Rattle.unwind.proofs.PoolLaws.{adds_both, pooled_most}
use Rattle.unwind.proofs.Leaving.{roots_length, standing_exits, copy_exits_law}

pub map-table : {A B : Type 0} (f : A → B) (h : ℕ → A) (n : ℕ) → map f (table h n) ≡ table (λ k. f (h k)) n
unfolding table
map-table f h zero = refl
map-table {B = B} f h (suc n) = map-append f (table h n) (h n ∷ []) ∙ ap (λ (t : List B). t ++ (f (h n) ∷ [])) (map-table f h n)

is_block : (n : ℕ) → n < 65535 → end_in n ≡ block n
unfolding end_in
is_block n h = rw (ne_eqb n 65535 (λ e. omega arith))

at_node : (z : List Node) (i : ℕ) {n : Node} → at z i ≡ some n → node_at z i ≡ n
unfolding node_at
at_node z i e = at_get_or z i _ e

-- ---- gathered from nothing

module _ (m : RouteImage) (b : ℕ) (l l' : List ℕ) (n : ℕ) (xs : List Exit) where
  pub held_from : Gathers m b l 0 xs l' n → Holds m b xs l' n
  unfolding exits_in table sorted
  held_from p = record { ordered = p.ordered; is = p.is ∙ put-all-sorted compare_exits total_exits xs [] }

pub pooled_none : (m : RouteImage) (b : ℕ) (edges ends heads landings l : List ℕ) → 2 * (length edges + length ends) ≤ length l → Pooled m b edges ends heads landings l 0
unfolding exits_in table
pooled_none m b edges ends heads landings l room =
    record { ordered = record { fit = omega arith; rises = λ b i j h k. absurd (not-suc-le-zero k) }; within = λ x k. absurd (none_in k); room = room }

pub block_held : (m : RouteImage) (b : ℕ) (nodes edges ends heads landings roots guards bases returns : List ℕ) (c : Counts) {l l₁ l₂ : List ℕ} {n r : ℕ} (k : ℕ) → length m.routes ≡ k → Adds m b edges ends heads landings l 0 (flat (route_records m b edges ends heads landings nodes roots guards) k) l₁ n → Adds m b edges ends heads landings l₁ n (flat (node_records m b edges ends heads landings nodes bases returns) c.nodes) l₂ r → BlockHeld m b (block_records m b nodes edges ends heads landings roots guards bases returns c) edges ends l l₂ r
unfolding block_records
block_held m b nodes edges ends heads landings roots guards bases returns c {l = l} {l₂ = l₂} {r = r} k e s p =
    let routes = flat (route_records m b edges ends heads landings nodes roots guards) k in
    let others = flat (node_records m b edges ends heads landings nodes bases returns) c.nodes in
    let all = adds_both m b edges ends heads landings routes others s p in
    record { long = all.gathers.long; holds = rw e (held_from m b l l₂ r (routes ++ others) all.gathers); most = pooled_most m b edges ends heads landings l₂ r all.pooled }

module _ (m : RouteImage) (nodes edges ends roots : List ℕ) (c : Counts) (t : TriesIn m nodes edges ends roots c) where
  nodes_long : length (tries (routes_of m)).nodes ≡ c.nodes
  unfolding nodes_in
  nodes_long = ap length (sym t.nodes_are) ∙ length-table (λ i. node_in m edges ends (record_in nodes i)) c.nodes

  node_here : (i : ℕ) → i < c.nodes → node_at (tries (routes_of m)).nodes i ≡ node_in m edges ends (record_in nodes i)
  unfolding nodes_in node_at
  node_here i h = ap (λ (l : List Node). node_at l i) (sym t.nodes_are) ∙ get_or_table (λ i. node_in m edges ends (record_in nodes i)) c.nodes i _ h

  -- the node after edge k of node i
  child_in : (i k : ℕ) → i < c.nodes → k < (record_in nodes i).edges → (branch_in edges ((record_in nodes i).first_edge + k)).what < c.nodes
  unfolding node_in branches edge_of
  child_in i k h j =
      let z : List Node = (tries (routes_of m)).nodes in
      let long = nodes_long in
      let here = lt_at z i (omega arith) in
      let same : here.0 ≡ node_in m edges ends (record_in nodes i) = sym (at_node z i here.1) ∙ node_here i h in
      let low = ((tries_law (routes_of m)).fits.fit i here.0 here.1).lower (edge_of m (branch_in edges ((record_in nodes i).first_edge + k)))
      (rw same (mem_map (edge_of m) (table_mem (λ k. branch_in edges ((record_in nodes i).first_edge + k)) (record_in nodes i).edges k j))) in
      omega arith

  pub node_there : (heads landings : List ℕ) → c.nodes ≤ length heads → c.ends ≤ length landings → (i : ℕ) → i < c.nodes → NodeThere nodes edges heads landings i
  node_there heads landings p q i h =
      let s = t.stored in
      record {
        node_in = omega (arith, s.nodes_fit);
        edges_within = omega (arith, s.edges_within i h, s.edges_fit);
        heads_in = λ k j. omega (arith, child_in i k h j);
        lands_in = omega (arith, s.ends_within i h);
      }

  pub roots_fit : length m.routes ≤ length roots
  unfolding tries
  roots_fit =
      let long : length m.routes ≡ length (take (length m.routes) roots) = sym (ap length t.roots_are ∙ roots_length 0 (routes_of m) [] ∙ length-routes m) in
      omega (arith, long, length-take (length m.routes) roots, min-le_right (length m.routes) (length roots))

module _ (g : Graph) (m : RouteImage) (nodes edges ends roots heads landings guards bases returns : List ℕ) (c : Counts) (t : TriesIn m nodes edges ends roots c) (s : Leads g m ends heads landings c) where
  abbrev z : List Node
  z = (tries (routes_of m)).nodes

  abbrev fs : List ℕ
  fs = funclets (routes_of m)

  pub count_is : length z ≡ c.nodes
  count_is = nodes_long m nodes edges ends roots c t

  pub node_is : (i : ℕ) → i < c.nodes → node_at z i ≡ node_in m edges ends (record_in nodes i)
  node_is = node_here m nodes edges ends roots c t

  -- the node after edge k of node i
  pub child_below : (i k : ℕ) → i < c.nodes → k < (record_in nodes i).edges → (branch_in edges ((record_in nodes i).first_edge + k)).what < c.nodes
  child_below = child_in m nodes edges ends roots c t

  module _ (b : ℕ) (few : b < 65535) where
    edge_same : (i k : ℕ) → i < c.nodes → k < (record_in nodes i).edges → let e = branch_in edges ((record_in nodes i).first_edge + k) in
        exit_to m b e (get_or heads e.what 0) ≡ record { leap = record { source = b; end = block (entry_of g fs z (edge_of m e).what) }; calls = (edge_of m e).calls }
    unfolding edge_of
    edge_same i k h j =
        let e = branch_in edges ((record_in nodes i).first_edge + k) in
        let low = child_below i k h j in
        let p : end_in (get_or heads e.what 0) ≡ block (entry_of g fs z e.what) = is_block (get_or heads e.what 0) (s.heads_few e.what low) ∙ ap block (s.heads_are e.what low) in
        λ x. record { leap = record { source = b; end = p x }; calls = (edge_of m e).calls }

    end_same : (k : ℕ) → k < c.ends → let e = branch_in ends k in
        exit_to m b e (end_number b landings k) ≡ record { leap = record { source = b; end = hop_end g (routes_of m) b (end_at m e).what }; calls = (end_at m e).calls }
    unfolding end_at end_number landing hop_end end_in
    end_same k h =
        let e = branch_in ends k in
        let p : end_in (end_number b landings k) ≡ hop_end g (routes_of m) b (end_of (path_record m e.what)) =
        ap (λ (l : ℕ). end_in (cond (eqb l 65534) b l)) (s.lands.land k h) ∙ go (end_of (path_record m e.what)) in
        λ x. record { leap = record { source = b; end = p x }; calls = (end_at m e).calls }
      where
        go : (u : UnwindEnd) → end_in (cond (eqb (landing g u) 65534) b (landing g u)) ≡ hop_end g (routes_of m) b u
        go (handler a) = let low = s.blocks_few a in rw (ne_eqb (block_of g a) 65534 (λ e. omega arith)) (is_block (block_of g a) (omega arith))
        go propagate = refl
        go resume = is_block b few

    pub record_exits_law : (i : ℕ) → i < c.nodes → record_exits m b edges ends heads landings (record_in nodes i) ≡ exits_from g (routes_of m) b (node_at z i)
    unfolding record_exits edge_exits end_exits exits_from node_in branches
    record_exits_law i h =
        let x = record_in nodes i in
        let on : Tagged ℕ → Exit = λ d. record { leap = record { source = b; end = block (entry_of g fs z d.what) }; calls = d.calls } in
        let off : Tagged UnwindEnd → Exit = λ d. record { leap = record { source = b; end = hop_end g (routes_of m) b d.what }; calls = d.calls } in
        let e : table (λ k. exit_to m b (branch_in edges (x.first_edge + k)) (get_or heads (branch_in edges (x.first_edge + k)).what 0)) x.edges ≡ map on (map (edge_of m) (branches edges x.first_edge x.edges)) =
        table_same _ (λ k. on (edge_of m (branch_in edges (x.first_edge + k)))) x.edges (λ k j. edge_same i k h j)
        ∙ sym (map-table on (λ k. edge_of m (branch_in edges (x.first_edge + k))) x.edges)
        ∙ ap (map on) (sym (map-table (edge_of m) (λ k. branch_in edges (x.first_edge + k)) x.edges)) in
        let f : table (λ k. exit_to m b (branch_in ends (x.first_end + k)) (end_number b landings (x.first_end + k))) x.ends ≡ map off (map (end_at m) (branches ends x.first_end x.ends)) =
        table_same _ (λ k. off (end_at m (branch_in ends (x.first_end + k)))) x.ends (λ k j. end_same (x.first_end + k) (let all = t.stored.ends_within i h in omega arith))
        ∙ sym (map-table off (λ k. end_at m (branch_in ends (x.first_end + k))) x.ends)
        ∙ ap (map off) (sym (map-table (end_at m) (λ k. branch_in ends (x.first_end + k)) x.ends)) in
        (λ u. e u ++ f u) ∙ ap (exits_from g (routes_of m) b) (sym (node_is i h))

    -- ---- those of a copy

    pub copy_records : (i o : ℕ) → i < c.nodes → later g fs z i ≡ true → o ∈ blocks_of g fs z i → place g fs z i o ≡ b → sorted compare_exits (cond (returning g o) (record_exits m b edges ends heads landings (record_in nodes i)) []) ≡ exits_at (map exit (ways g (routes_of m))) b
    unfolding copy_exits
    copy_records i o h l own e =
        let long = count_is in
        let there = copy_exits_law g (routes_of m) i o (omega arith) l own in
        ap (λ (t : List Exit). sorted compare_exits (cond (returning g o) t [])) (record_exits_law i h) ∙ sym (rw e at there)

    -- ---- those of a block that stood

    module _ (k : Sides g m guards bases returns c) where
      abbrev later_is : ℕ → Bool
      later_is = later g fs z

      route_same : (r : ℕ) → r < length m.routes → route_records m b edges ends heads landings nodes roots guards r ≡ route_exits g (routes_of m) b r
      unfolding route_records route_exits
      route_same r h =
          let e : get_or roots r 0 ≡ get_or (tries (routes_of m)).roots r 0 = sym (get_or-take (length m.routes) roots r 0 h) ∙ ap (λ (l : List ℕ). get_or l r 0) t.roots_are in
          let x : record_exits m b edges ends heads landings (record_in nodes (get_or roots r 0)) ≡ exits_from g (routes_of m) b (node_at z (get_or (tries (routes_of m)).roots r 0)) = record_exits_law (get_or roots r 0) (t.roots_in r h) ∙ ap (λ (i : ℕ). exits_from g (routes_of m) b (node_at z i)) e in
          λ u. cond (k.guards_are r b h u) (x u) []

      node_same : b < length g.blocks → (i : ℕ) → i < c.nodes → node_records m b edges ends heads landings nodes bases returns i ≡ node_exits g (routes_of m) b i
      unfolding node_records node_exits
      node_same stood i h =
          let e : (eqb (get_or bases i 0) 0 && in_set returns i b) ≡ (not (later_is i) && among (keep (returning g) (blocks_of g fs z i)) b) = λ u. original u && k.returns_are i b h u in
          λ u. cond (e u) (record_exits_law i h u) []
        where
          go : (x : Bool) → eqb (cond x (base g fs z i) 0) 0 ≡ not x
          go true = ne_eqb (base g fs z i) 0 (λ q. omega (arith, from_above g (routes_of m) z i))
          go false = refl

          original : eqb (get_or bases i 0) 0 ≡ not (later_is i)
          original = ap (λ (n : ℕ). eqb n 0) (k.bases_are i h) ∙ go (later_is i)

      pub block-records : b < length g.blocks → sorted compare_exits (block_records m b nodes edges ends heads landings roots guards bases returns c) ≡ exits_at (map exit (ways g (routes_of m))) b
      unfolding block_records
      block-records stood =
          let routes : flat (route_records m b edges ends heads landings nodes roots guards) (length m.routes) ≡ flat (route_exits g (routes_of m) b) (length (routes_of m)) =
          flat-same _ _ (length m.routes) route_same ∙ ap (flat (route_exits g (routes_of m) b)) (sym (length-routes m)) in
          let others : flat (node_records m b edges ends heads landings nodes bases returns) c.nodes ≡ flat (node_exits g (routes_of m) b) (length z) =
          flat-same _ _ c.nodes (node_same stood) ∙ ap (flat (node_exits g (routes_of m) b)) (sym count_is) in
          (λ u. sorted compare_exits (routes u ++ others u)) ∙ sym (standing_exits g (routes_of m) b stood)

      pub standing_hops : b < length g.blocks → block_hops m nodes edges ends heads landings roots guards bases returns c b ≡ hops_on [] (exits_at (map exit (ways g (routes_of m))) b)
      unfolding block_hops
      standing_hops stood = ap (hops_on []) (block-records stood)
