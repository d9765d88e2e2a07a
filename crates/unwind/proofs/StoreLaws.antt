-- The last stage of an addition, from what it has at hand.
--     edges_held                   no more edges are held than a graph has room for
--     edges_over, hops_over, lists_over, counts_fit     what counts decide
--     exits_kept                   what is at hand where scratch was used
--     all_lent, links_lent         what is lent where hops are counted and stored, and where edges are copied
--     counts_check_law, most_check     19 and 20 by what was counted, and by the most that there can be
--     hops_fit                     19 and 20 let pass: there is room for the hops
--     sets_stood                   behind the copies of edges the blocks of the instances stand
--     joins_stood, hops_lent       behind those of blocks: what hops join, and the hops of the ways that routes want
--     addition_laid, hops_laid     all is stored
--     ok_clear, sized_refused, sized_stored    what is answered
-- Assumes nothing.
use mathlib.Core.Path.{◌≡◌, refl, sym, ap, ◌∙◌, subst}
use mathlib.Core.Bool.{Bool, true, ◌&&◌}
use mathlib.Core.Logic.{inl, inr}
use mathlib.Core.List.{List, [], ◌++◌, map}
use Prim.Native.Nat.{ℕ, ◌+◌, ◌*◌, ◌≤◌, ◌<◌}
use native.Mathlib.Decide.{dec_lt}
use native.Mathlib.Omega.{arith}
use borrow.Author.Tests.{le-leb, lt-leb, leb-true}
use lib.Dec.{leb}
use lib.ListN.{length, get_or, length-append, length-map}
use Rattle.graph.specs.declared.store.Graph.{Graph as Lent}
use Rattle.std.proofs.Common.{Result, Ok, Err}
use Rattle.std.specs.Result.{is_ok}
use Rattle.image.specs.Refusal.{refusal, Check, clear, ◌then◌, unless}
use Rattle.image.specs.Image.{RouteImage}
use Rattle.image.specs.Deal.{UnwindRoute, routes_of}
use Rattle.image.proofs.Checks.{then_left, then_right, unless_clear}
use Rattle.graph.specs.declared.error.AddressBuildError.{AddressBuildError}
use Rattle.graph.specs.declared.record.Block.{Block}
use Rattle.graph.specs.declared.record.Edge.{Edge}
use Rattle.graph.specs.Graph.{Graph, Held, held, block}
use Rattle.graph.specs.Lent.{held_of}
use Rattle.graph.specs.Fold.{flat}
use Rattle.graph.specs.Error.{refusal_of, check_of}
use Rattle.graph.specs.Stored.{Stored}
use Rattle.graph.specs.Adding.{Added, with_blocks}
use Rattle.graph.specs.Answers.{Laid}
use Rattle.graph.specs.Search.{Ends, Linked}
use Rattle.graph.specs.Search as links
use Rattle.unwind.specs.declared.emit.count.Sizes.{Sizes}
use Rattle.unwind.specs.declared.tries.store.Counts.{Counts}
use Rattle.addition.specs.Lists.{keep, joined}
use Rattle.addition.specs.Part.{funclets}
use Rattle.addition.specs.Trie.{Node, tries}
use Rattle.unwind.specs.Routed.{TriesIn}
use Rattle.addition.specs.Instance.{copied, clone_blocks, clone_edges}
use Rattle.unwind.specs.Clones.{copies_in, block_copies, edge_copies, SetsIn}
use Rattle.addition.specs.Ways.{Hop, Way, Leap, leap, ways, hops_of, route_edges}
use Rattle.unwind.specs.Sources.{to_block}
use Rattle.unwind.specs.Most.{guarded_ways, returned_ways}
use Rattle.unwind.specs.Sizes.{HopsSize}
use Rattle.unwind.specs.Lent.{Leads, Sides, PartsIn, Roomy}
use Rattle.unwind.specs.Copies.{BasesFew, Bounded}
use Rattle.unwind.specs.HopWords.{hops_in, HopsLaid, HopsFit}
use Rattle.unwind.specs.Wanted.{lent_ways}
use Rattle.unwind.specs.Flags.{pair, HopsJoin}
use Rattle.addition.specs.Add.{extended, Addition, addition, size_check, added, outcome}
use Rattle.unwind.specs.Answers.{Sized}
use Rattle.unwind.specs.Frames.{AtHand}
use Rattle.addition.specs.Walk.{◌∈◌}
use Rattle.addition.proofs.Lists.{and_both}
use Rattle.addition.proofs.Sound.{sound}
use Rattle.addition.proofs.AgainWays.{way_ends, way_table}
use Rattle.graph.proofs.RecordLaws.{edge_most}
use Rattle.unwind.proofs.StoodLaws.{blocks_stay}
use Rattle.unwind.proofs.Standing.{stands_of}
use Rattle.unwind.proofs.TrieNodes.{length_nodes}
use Rattle.unwind.proofs.ClonesAre.{sets_in, blocks_are, edges_are}
use Rattle.unwind.proofs.LentInstances.{leads_in, sides_in, parts_in, few_in, ways_within, runs_in, starts_in}
use Rattle.unwind.proofs.CloneLaws.{keep_most}
use Rattle.unwind.proofs.CopiesAre.{total_hops}
use Rattle.unwind.proofs.MostLaws.{Fits, most_hops}
use Rattle.unwind.proofs.SizeChecks.{routes-same, edges_refused, hops_refused, sizes_clear}
use Rattle.unwind.proofs.WantLaws.{stood_way}
use Rattle.unwind.proofs.Finished.{copies_graph, finished}

-- ---- counts

-- 19 and 20 of so many edges, and of hops of these sizes
abbrev counts_check : ℕ → Sizes → Check
counts_check n sz = unless (leb n 4096) (refusal 19 0 0) then unless (leb sz.hops 2048 && leb sz.lists 4096) (refusal 20 0 0)

pub edges_held : (l : Lent) → length (held_of l).graph.edges ≤ 4096
edges_held l = omega (arith, edge_most l)

module _ (n : ℕ) (sz : Sizes) where
  pub edges_over : 4096 < n → Check.refused (refusal 19 0 0) ≡ counts_check n sz
  edges_over h = rw (lt-leb n 4096 h)

  pub hops_over : n ≤ 4096 → 2048 < sz.hops → Check.refused (refusal 20 0 0) ≡ counts_check n sz
  hops_over fit h = rw (le-leb n 4096 fit, lt-leb sz.hops 2048 h)

  pub lists_over : n ≤ 4096 → sz.hops ≤ 2048 → 4096 < sz.lists → Check.refused (refusal 20 0 0) ≡ counts_check n sz
  lists_over fit hops h = rw (le-leb n 4096 fit, le-leb sz.hops 2048 hops, lt-leb sz.lists 4096 h)

  pub counts_fit : n ≤ 4096 → sz.hops ≤ 2048 → sz.lists ≤ 4096 → clear ≡ counts_check n sz
  counts_fit fit hops lists = rw (le-leb n 4096 fit, le-leb sz.hops 2048 hops, le-leb sz.lists 4096 lists)

  counts_clear : clear ≡ counts_check n sz → (n ≤ 4096) × (sz.hops ≤ 2048)
  counts_clear e =
      let edges : Check = unless (leb n 4096) (refusal 19 0 0) in
      let few : Bool = leb sz.hops 2048 && leb sz.lists 4096 in (
        leb-true n 4096 (unless_clear (leb n 4096) (refusal 19 0 0) (then_left edges (unless few (refusal 20 0 0)) (sym e))),
        leb-true sz.hops 2048 (and_both (leb sz.hops 2048) (leb sz.lists 4096) (unless_clear few (refusal 20 0 0) (then_right edges (unless few (refusal 20 0 0)) (sym e)))).0,
      )

-- what 19 and 20 let pass
passed : (a : Addition) → size_check a ≡ clear → (length a.graph.edges ≤ 4096) × HopsFit a.hops
unfolding size_check
passed a e =
    let blocks : Check = unless (leb (length a.graph.blocks) 1024) (refusal 18 0 0) in
    let edges : Check = unless (leb (length a.graph.edges) 4096) (refusal 19 0 0) in
    let few : Bool = leb (length a.hops) 2048 && leb (length (joined (λ h. h.calls) a.hops)) 4096 in
    let both = and_both (leb (length a.hops) 2048) (leb (length (joined (λ h. h.calls) a.hops)) 4096) (unless_clear few (refusal 20 0 0) (then_right (blocks then edges) (unless few (refusal 20 0 0)) e)) in (
      leb-true (length a.graph.edges) 4096 (unless_clear (leb (length a.graph.edges) 4096) (refusal 19 0 0) (then_right blocks edges (then_left (blocks then edges) (unless few (refusal 20 0 0)) e))),
      record { hops = leb-true (length a.hops) 2048 both.0; lists = leb-true (length (joined (λ h. h.calls) a.hops)) 4096 both.1 },
    )

-- ---- what is at hand

module _ (w : Lent) (m : RouteImage) {nodes edges ends roots head next bases heads parts returns guards landings exits : List ℕ} {c : Counts} (x : AtHand (held_of w) m nodes edges ends roots head next bases heads parts returns guards landings exits c) where
  abbrev g : Graph
  g = (held_of w).graph

  abbrev rs : List UnwindRoute
  rs = routes_of m

  abbrev z : List Node
  z = (tries rs).nodes

  abbrev new_blocks : List Block
  new_blocks = clone_blocks g (funclets rs) z

  abbrev new_edges : List Edge
  new_edges = clone_edges g (funclets rs) z

  abbrev wanted : List Edge
  wanted = route_edges (extended g new_blocks []) [] (ways g rs)

  pub exits_kept : {exits' : List ℕ} → length exits' ≡ length exits → AtHand (held_of w) m nodes edges ends roots head next bases heads parts returns guards landings exits' c
  exits_kept long =
      record {
        graphed = x.graphed;
        accepted = x.accepted;
        checked = x.checked;
        instances = x.instances;
        links = x.links;
        linked = x.linked;
        exits_fit = record { edges_few = x.exits_fit.edges_few; ends_few = x.exits_fit.ends_few; room = omega (arith, x.exits_fit.room, long) };
      }

  pub all_lent : TriesIn m nodes edges ends roots c × Leads g m ends heads landings c × Sides g m guards bases returns c × PartsIn g m parts c × BasesFew bases c.nodes × Bounded g rs × Roomy edges ends exits × (16 * c.nodes ≤ length parts) × (16 * length m.routes ≤ length guards)
  all_lent =
      let i = x.instances in (
        i.trie,
        leads_in g m nodes edges ends roots bases heads parts returns guards landings c i,
        sides_in g m nodes edges ends roots bases heads parts returns guards landings c i,
        parts_in g m nodes edges ends roots bases heads parts returns guards landings c i,
        few_in g m nodes edges ends roots bases heads parts returns guards landings c i,
        i.bounded,
        x.exits_fit,
        i.slots.parts_fit,
        i.guards_fit,
      )

  all_nodes : length z ≡ c.nodes
  all_nodes = ap length (sym x.instances.trie.nodes_are) ∙ length_nodes m nodes edges ends c.nodes

  few : length g.blocks ≤ 1024
  few = omega (arith, x.instances.bounded.few)

  sets_here : SetsIn g parts c.nodes
  sets_here = sets_in g few x.instances.bounded.some rs z bases heads parts c.nodes x.instances.placed x.instances.slots.parts_fit

  pub links_lent : Ends g × links.Roomy g head next × Linked g head next 0 × (c.nodes ≤ 1024) × SetsIn g parts c.nodes × (c.nodes ≤ length bases)
  links_lent = ((stands_of (held_of w) x.graphed).ends, x.links, x.linked, omega (arith, x.instances.trie.nodes_most), sets_here, x.instances.slots.bases_fit)

  edges_copied : edge_copies g bases parts c.nodes ≡ new_edges
  edges_copied = edges_are g few x.instances.bounded.some rs z bases heads parts c.nodes x.instances.placed all_nodes

  blocks_copied : block_copies g bases parts c.nodes ≡ new_blocks
  blocks_copied = blocks_are g few x.instances.bounded.some rs z bases heads parts c.nodes x.instances.placed all_nodes

  blocks_fit : length g.blocks + length new_blocks ≤ 1024
  unfolding clone_blocks
  blocks_fit = omega (arith, length-map (flat (copied g (funclets rs) z) (length z)) (block g), x.instances.bounded.few)

  pub counts_check_law : (k : ℕ) (sz : Sizes) → k ≡ length (edge_copies g bases parts c.nodes) → HopsSize (hops_of (ways g rs)) sz → counts_check (length g.edges + k + sz.blocks) sz ≡ size_check (addition g rs)
  counts_check_law k sz cloned counted =
      elim (dec_lt 4096 n) [
        | yes over ↦ sym (edges_over n sz over) ∙ sym (edges_refused g rs sz counted k clones bounded over)
        | no edges_few ↦ elim (dec_lt 2048 sz.hops) [
          | yes over ↦ sym (hops_over n sz (omega arith) over) ∙ sym (hops_refused g rs sz counted k clones bounded (omega arith) (inl over))
          | no hops-few ↦ elim (dec_lt 4096 sz.lists) [
            | yes over ↦ sym (lists_over n sz (omega arith) (omega arith) over) ∙ sym (hops_refused g rs sz counted k clones bounded (omega arith) (inr over))
            | no lists_few ↦ sym (counts_fit n sz (omega arith) (omega arith) (omega arith)) ∙ sym (sizes_clear g rs sz counted k clones bounded (omega arith) (omega arith) (omega arith)).0
          ]
        ]
      ]
    where
      n : ℕ
      n = length g.edges + k + sz.blocks

      clones : k ≡ length new_edges
      clones = cloned ∙ ap length edges_copied

      bounded : Bounded g rs
      bounded = x.instances.bounded

  -- 19 and 20 by the most that there can be
  pub most_check : (k most : ℕ) → k ≡ length (edge_copies g bases parts c.nodes) → guarded_ways nodes roots guards (length g.blocks) (length m.routes) + returned_ways nodes returns (length g.blocks) c.nodes ≤ most
      → clear ≡ counts_check (length g.edges + k + most) (record { hops = most; lists = most; blocks = most }) → clear ≡ size_check (addition g rs)
  most_check k most cloned above fit =
      let all = all_lent in
      let total = total_hops g m nodes edges ends roots heads landings guards bases parts returns c all.0 all.1 all.2 all.3 (omega (arith, all.5.few)) all.5.some in
      let fits : Fits (hops_of (ways g rs)) _ = subst (λ (hs : List Hop). Fits hs (guarded_ways nodes roots guards (length g.blocks) (length m.routes) + returned_ways nodes returns (length g.blocks) c.nodes)) total (most_hops m nodes edges ends heads landings roots guards bases parts returns c all.8 x.instances.returns_fit (length g.blocks)) in
      let sz : Sizes = record { hops = length (hops_of (ways g rs)); lists = length (joined (λ h. h.calls) (hops_of (ways g rs))); blocks = length (keep (λ h. to_block h.end) (hops_of (ways g rs))) } in
      let few = counts_clear (length g.edges + k + most) (record { hops = most; lists = most; blocks = most }) fit in
      let blocks = keep_most (λ (h : Hop). to_block h.end) (hops_of (ways g rs)) in
      counts_fit (length g.edges + k + sz.blocks) sz (omega (arith, few.0, blocks, fits.hops)) (omega (arith, few.1, fits.hops)) (omega (arith, few.1, fits.lists))
      ∙ counts_check_law k sz cloned (record { hops = refl; lists = refl; blocks = refl })

  pub hops_lent : {h h' : List ℕ} → HopsLaid m h h' (hops_of (ways g rs)) → hops_in m h' ≡ hops_of (lent_ways m nodes edges ends heads landings roots guards bases parts returns (length m.routes) c.nodes)
  hops_lent laid = laid.holds ∙ ap hops_of (sym (ways_within g m nodes edges ends roots bases heads parts returns guards landings c x.instances))

  -- ---- behind the copies of edges

  module _ {w₁ : Lent} (cloned : Added w w₁ (edge_copies g bases parts c.nodes) [] []) where
    blocks_stood : (held_of w₁).graph.blocks ≡ g.blocks
    blocks_stood = blocks_stay cloned

    pub sets_stood : SetsIn (held_of w₁).graph parts c.nodes
    sets_stood = record { fit = sets_here.fit; stand = λ i b h k. rw blocks_stood (sets_here.stand i b h k) }

    copies_same : block_copies (held_of w₁).graph bases parts c.nodes ≡ new_blocks
    unfolding block_copies
    copies_same = ap (λ (l : List Block). map (λ (b : ℕ). get_or l b (record { first = 0; count = 0 })) (flat (copies_in bases parts) c.nodes)) blocks_stood ∙ blocks_copied

    -- ---- behind the copies of blocks

    module _ (fits : size_check (addition g rs) ≡ clear) {w₂ : Lent} (copies : Stored w₁ w₂ (with_blocks (held_of w₁) (block_copies (held_of w₁).graph bases parts c.nodes))) where
      edges_fit : length g.edges + length new_edges + length wanted ≤ 4096
      unfolding addition extended
      edges_fit = omega (arith, (passed (addition g rs) fits).0, length-append g.edges (new_edges ++ wanted), length-append new_edges wanted)

      edges_stored : Added w w₁ new_edges [] []
      edges_stored = subst (λ (l : List Edge). Added w w₁ l [] []) edges_copied cloned

      blocks_stored : Stored w₁ w₂ (with_blocks (held_of w₁) new_blocks)
      blocks_stored = subst (λ (l : List Block). Stored w₁ w₂ (with_blocks (held_of w₁) l)) copies_same copies

      graph_is : (held_of w₂).graph ≡ extended g new_blocks new_edges
      graph_is = copies_graph {w = w} {w₁ = w₁} {w₂ = w₂} x.graphed new_blocks new_edges edges_stored blocks_stored blocks_fit (omega (arith, edges_fit))

      pub joins_stood : {h h' : List ℕ} → HopsLaid m h h' (hops_of (ways g rs)) → HopsJoin h' (held_of w₂).graph
      unfolding extended
      joins_stood {h} {h'} laid =
          subst (HopsJoin h') (sym graph_is)
          (record { runs = runs_in g (stands_of (held_of w) x.graphed) (funclets rs) z new_edges; joins = λ s t stands. join s t (stood_way m h' (ways g rs) laid.holds (pair s t) stands) })
        where
          long : length (extended g new_blocks new_edges).blocks ≡ length g.blocks + length new_blocks
          long = length-append g.blocks new_blocks

          join : (s t : ℕ) → (v : Way) × (v ∈ ways g rs) × (pair s t ≡ leap v) → (s < length (extended g new_blocks new_edges).blocks) × (t < length (extended g new_blocks new_edges).blocks) × ((block (extended g new_blocks new_edges) t).first < length (extended g new_blocks new_edges).table)
          join s t v =
              let ends = way_ends g rs (sound (held_of w) x.graphed) x.checked v.0 v.1 in
              let there : t < length (extended g new_blocks new_edges).blocks = omega (arith, long, ends.end t (ap (λ (l : Leap). l.end) (sym v.2))) in (
                omega (arith, long, ends.source, ap (λ (l : Leap). l.source) v.2),
                there,
                starts_in g (stands_of (held_of w) x.graphed) rs new_edges (way_table g rs (sound (held_of w) x.graphed) x.checked v.0 v.1) t there,
              )

      pub addition_laid : {w₃ : Lent} → Added w₂ w₃ (route_edges (held_of w₂).graph [] (lent_ways m nodes edges ends heads landings roots guards bases parts returns (length m.routes) c.nodes)) [] [] → Laid w w₃ (addition g rs).graph
      unfolding addition
      addition_laid {w₃} routed =
          finished {w = w} {w₁ = w₁} {w₂ = w₂} x.graphed new_blocks new_edges edges_stored blocks_stored blocks_fit {w₃ = w₃} wanted
          (subst (λ (l : List Edge). Added w₂ w₃ l [] []) edges_wanted routed) edges_fit
        where
          edges_wanted : route_edges (held_of w₂).graph [] (lent_ways m nodes edges ends heads landings roots guards bases parts returns (length m.routes) c.nodes) ≡ wanted
          edges_wanted =
              ap (λ (k : Graph). route_edges k [] (lent_ways m nodes edges ends heads landings roots guards bases parts returns (length m.routes) c.nodes)) graph_is
              ∙ ap (route_edges (extended g new_blocks new_edges) []) (ways_within g m nodes edges ends roots bases heads parts returns guards landings c x.instances)
              ∙ routes-same g new_blocks new_edges [] (ways g rs)

-- ---- hops

module _ (g : Graph) (m : RouteImage) where
  pub hops_fit : size_check (addition g (routes_of m)) ≡ clear → HopsFit (hops_of (ways g (routes_of m)))
  unfolding addition
  hops_fit e = (passed (addition g (routes_of m)) e).1

  pub hops_laid : {h h' : List ℕ} → HopsLaid m h h' (hops_of (ways g (routes_of m))) → HopsLaid m h h' (addition g (routes_of m)).hops
  unfolding addition
  hops_laid laid = laid

-- ---- answers

pub ok_clear : (r : Result Unit AddressBuildError) → is_ok r ≡ true → check_of r ≡ clear
ok_clear (Ok x) e = refl
ok_clear (Err x) e = cc

module _ (m : RouteImage) (w : Lent) (h : List ℕ) where
  abbrev gives : Addition
  gives = addition (held_of w).graph (routes_of m)

  pub sized_refused : (e : AddressBuildError) → Check.refused (refusal_of e) ≡ size_check (addition (held_of w).graph (routes_of m)) → Sized m w w h h (Err e)
  unfolding outcome
  sized_refused e is = record { answer = ap (λ (k : Check). outcome k gives) is; leaves = (refl, refl) }

  pub sized_stored : {w' : Lent} {h' : List ℕ} → size_check (addition (held_of w).graph (routes_of m)) ≡ clear → Laid w w' (addition (held_of w).graph (routes_of m)).graph → HopsLaid m h h' (addition (held_of w).graph (routes_of m)).hops → Sized m w w' h h' (Ok tt)
  unfolding outcome held
  sized_stored {w'} {h'} fits laid hops =
      record {
        answer = (λ t. added (record { graph = graph_is t; hops = hops.holds t })) ∙ sym (ap (λ (k : Check). outcome k gives) fits);
        leaves = (record { holds = laid.holds ∙ ap held (sym graph_is); kept = laid.kept }, hops.kept);
      }
    where
      graph_is : (held_of w').graph ≡ gives.graph
      graph_is = ap (λ (k : Held). k.graph) laid.holds
