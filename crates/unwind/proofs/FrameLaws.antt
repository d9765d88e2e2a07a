-- The scratch of an addition, from its lengths to the instances that stand in it.
--     all_few, all_small           no routes and no graph has more
--     scratched, roomed            its room for the tries, and where they stand
--     listed                       its stack is room for a list of the nodes
--     nodes_checked                the checks of the nodes in scratch
--     placements, at_hand          the instances, and then the sides
-- Assumes nothing.
use mathlib.Core.Path.{◌≡◌, sym, ap, ◌∙◌}
use mathlib.Core.List.{List}
use Prim.Native.Nat.{ℕ, ◌≤◌, ◌<◌}
use native.Mathlib.Omega.{arith}
use borrow.Author.Tests.{ltb-true}
use lib.ListN.{length}
use Rattle.graph.specs.declared.store.Graph.{Graph as Lent}
use Rattle.image.specs.Refusal.{Check, clear}
use Rattle.image.specs.Record.{route_from, path_from, step_from}
use Rattle.image.specs.Image.{RouteImage, routes_in}
use Rattle.image.specs.Deal.{routes_of}
use Rattle.image.specs.Accepted.{AcceptedRoutes}
use Rattle.image.specs.declared.section.RouteLayout.{RouteLayout}
use Rattle.image.proofs.Tables.{length-records}
use Rattle.graph.specs.Graph.{Graph, Held}
use Rattle.graph.specs.Lent.{held_of}
use Rattle.graph.specs.Fold.{checks}
use Rattle.graph.specs.Search.{Linked, Roomy}
use Rattle.graph.specs.WellFormed.{is_block}
use Rattle.graph.proofs.RecordLaws.{block_most, edge_most}
use Rattle.unwind.specs.declared.tries.store.Counts.{Counts}
use Rattle.addition.specs.Lists.{keep}
use Rattle.addition.specs.Part.{funclets, returning}
use Rattle.unwind.specs.Stands.{Stands, Has}
use Rattle.addition.specs.Trie.{Node, node_at, tries}
use Rattle.unwind.specs.Nodes.{nodes_in}
use Rattle.unwind.specs.Routed.{Scratch, TriesIn}
use Rattle.addition.specs.Instance.{blocks_of}
use Rattle.unwind.specs.PartSearch.{Returners}
use Rattle.unwind.specs.Placed.{set_at, returns_in, PlacedAll}
use Rattle.unwind.specs.Sides.{Lands, GuardsIn}
use Rattle.addition.specs.Add.{node_check}
use Rattle.unwind.specs.Answers.{RoutesChecked}
use Rattle.unwind.specs.Frames.{Few, Small, Frame, Room, NodesPass, Placements, AtHand}
use Rattle.unwind.proofs.Standing.{stands_of}
use Rattle.unwind.proofs.TrieNodes.{length_nodes}
use Rattle.unwind.proofs.ClonesAre.{sets_in}
use Rattle.unwind.proofs.ReturnLaws.{returns_long, returns_kept}
use Rattle.unwind.proofs.SizeChecks.{placed_in, bounded_in}

-- ---- lengths

-- all routes that are accepted
pub all_few : (s : List ℕ) (y : RouteLayout) → AcceptedRoutes (routes_in s y) → Few y 512 128 32
all_few s y ok =
    let steps-are = length-records step_from s y.steps in
    let paths-are = length-records path_from s y.paths in
    let routes-are = length-records route_from s y.routes in
    record { steps_few = omega arith; paths_few = omega arith; routes_few = omega arith }

-- all graphs
pub all_small : (w : Lent) → Small (held_of w).graph 1024 4096
all_small w = record { blocks_few = block_most w; edges_few = edge_most w }

module _ (s : List ℕ) (y : RouteLayout) (g : Graph) {starts nodes edges ends stack roots head next bases heads parts guards landings exits : List ℕ} (f : Frame y g starts nodes edges ends stack roots head next bases heads parts guards landings exits) where
  pub scratched : Scratch (routes_in s y) starts nodes edges ends stack roots
  scratched =
      let steps-are = length-records step_from s y.steps in
      let paths-are = length-records path_from s y.paths in
      let routes-are = length-records route_from s y.routes in
      let z = f.sizes in
      record {
        starts_fit = omega (arith, f.few.paths_few, z.starts_are);
        nodes_fit = omega (arith, f.few.steps_few, f.few.routes_few, z.nodes_are, z.slots_are);
        edges_fit = omega (arith, f.few.steps_few, z.edges_are);
        ends_fit = omega (arith, f.few.paths_few, z.ends_are);
        stack_fit = omega (arith, f.few.steps_few, f.stack_long, z.edges_are);
        roots_fit = omega (arith, f.few.routes_few);
      }

  -- where the tries stand
  pub roomed : {nodes' edges' ends' roots' : List ℕ} {c : Counts}
      → TriesIn (routes_in s y) nodes' edges' ends' roots' c → length nodes' ≡ length nodes → length edges' ≡ length edges → length ends' ≡ length ends
      → Room g (routes_in s y) edges' ends' head next bases heads parts guards landings exits c
  roomed t nodes-kept edges-kept ends-kept =
      let routes-are = length-records route_from s y.routes in
      let z = f.sizes in
      record {
        links = record { blocks = f.small.blocks_few; edges = f.small.edges_few };
        unlinked = f.unlinked;
        slots = record { bases_fit = omega (arith, t.stored.nodes_fit, z.nodes_are); entries_fit = omega (arith, t.stored.nodes_fit, z.nodes_are, f.heads_long); parts_fit = omega (arith, t.stored.nodes_fit, z.nodes_are, z.parts_are) };
        guards_fit = omega (arith, f.few.routes_few, z.guards_are);
        landings_fit = omega (arith, t.stored.ends_fit, z.ends_are);
        exits_fit = record { edges_few = omega (arith, z.steps_most, z.edges_are); ends_few = omega (arith, z.paths_most, z.ends_are); room = omega (arith, z.edges_are, z.ends_are, z.exits_are) };
        firsts_fit = omega (arith, f.small.blocks_few, z.blocks_most);
        unplaced = f.unplaced;
      }

  -- the stack, for a list of the nodes
  pub listed : {nodes' edges' ends' roots' : List ℕ} {c : Counts} → TriesIn (routes_in s y) nodes' edges' ends' roots' c → length nodes' ≡ length nodes → c.nodes ≤ length stack
  listed t nodes-kept =
      let z = f.sizes in
      omega (arith, t.stored.nodes_fit, z.nodes_are, z.slots_are, f.stack_long, z.edges_are, z.routes_most)

-- ---- what stands

module _ {h : Held} {n : ℕ} {m : RouteImage} (checked : RoutesChecked h n m) where
  abbrev g : Graph
  g = h.graph

  blocks_some : Stands g → 0 < length g.blocks
  unfolding is_block
  blocks_some s = omega (arith, ltb-true g.entry (length g.blocks) s.ends.entry)

  module _ {nodes edges ends roots : List ℕ} {c : Counts} (t : TriesIn m nodes edges ends roots c) where
    pub nodes_checked : {k : Check} → ((edges' : List ℕ) → k ≡ checks (λ i. node_check g (node_at (nodes_in m nodes edges' ends c.nodes) i)) c.nodes) → k ≡ checks (λ i. node_check g (node_at (tries (routes_of m)).nodes i)) (length (tries (routes_of m)).nodes)
    nodes_checked found =
        let z : List Node = nodes_in m nodes edges ends c.nodes in
        found edges
        ∙ ap (checks (λ i. node_check g (node_at z i))) (sym (length_nodes m nodes edges ends c.nodes))
        ∙ ap (λ (z : List Node). checks (λ i. node_check g (node_at z i)) (length z)) t.nodes_are

    pub placements : {head next bases heads parts guards landings exits head' next' bases' heads' parts' exits' : List ℕ}
        → Room g m edges ends head next bases heads parts guards landings exits c
        → NodesPass g (routes_of m) → Linked g head' next' 0 → Roomy g head' next' → PlacedAll g m nodes c.nodes bases' heads' parts' clear → length exits' ≡ length exits
        → Placements g m nodes edges ends roots head' next' bases' heads' parts' guards landings exits' c
    placements room passed linked links p exits_long =
        record {
          trie = t;
          checked = passed;
          links = links;
          linked = linked;
          slots = p.slots;
          placed = placed_in g m nodes edges ends roots _ _ _ c t p;
          bounded = bounded_in g m nodes edges ends roots _ _ _ c t p (blocks_some (stands_of h checked.graphed));
          guards_fit = room.guards_fit;
          landings_fit = room.landings_fit;
          exits_fit = record { edges_few = room.exits_fit.edges_few; ends_few = room.exits_fit.ends_few; room = rw exits_long room.exits_fit.room };
        }

  -- the sets of the blocks from which nodes return
  module _ {nodes edges ends roots head next bases heads parts guards landings exits : List ℕ} {c : Counts} (p : Placements g m nodes edges ends roots head next bases heads parts guards landings exits c) (returners : List ℕ) (returned : Returners g returners) where
    abbrev z : List Node
    z = (tries (routes_of m)).nodes

    returns_are : (i : ℕ) → i < c.nodes → Has (set_at (returns_in parts returners) i) (keep (returning g) (blocks_of g (funclets (routes_of m)) z i))
    returns_are i lt =
        let sets = sets_in g (omega (arith, p.bounded.few)) p.bounded.some (routes_of m) z bases heads parts c.nodes p.placed p.slots.parts_fit in
        returns_kept parts returners g (blocks_of g (funclets (routes_of m)) z i) i returned (λ b. sets.stand i b lt) (p.placed.part_has i lt)

    pub at_hand : {guards' landings' : List ℕ}
        → GuardsIn g m guards' (length m.routes) → length guards' ≡ length guards → Lands g m ends landings' c.ends → length landings' ≡ length landings
        → AtHand h m nodes edges ends roots head next bases heads parts (returns_in parts returners) guards' landings' exits c
    at_hand guarded long landed landings_long =
        record {
          graphed = checked.graphed;
          accepted = checked.accepted;
          checked = p.checked;
          instances = record { trie = p.trie; slots = p.slots; placed = p.placed; returns_fit = rw (returns_long parts returners) p.slots.parts_fit; returns_has = returns_are; guards_fit = omega arith; guarded = guarded; landed = landed; bounded = p.bounded; landings_fit = omega (arith, p.landings_fit) };
          links = p.links;
          linked = p.linked;
          exits_fit = p.exits_fit;
        }
