-- What the hops are gathered from: the tries, and where their nodes, ends and routes lie in the graph before.
use Rattle.std.specs.Prelude.{◌≡◌, cond, List, [], ◌++◌, ℕ, ◌+◌, ◌*◌, ◌/◌, ◌≤◌, ◌<◌, length, get_or}
use Rattle.image.specs.Image.{RouteImage}
use Rattle.image.specs.Deal.{routes_of}
use Rattle.graph.specs.Graph.{Graph}
use Rattle.graph.specs.Fold.{flat, among}
use Rattle.graph.specs.Route.{route_at}
use Rattle.unwind.specs.declared.tries.store.Counts.{Counts}
use Rattle.addition.specs.Lists.{keep}
use Rattle.addition.specs.Order.{sorted}
use Rattle.addition.specs.Blocks.{block_of, guarded}
use Rattle.addition.specs.Part.{funclets, returning}
use Rattle.addition.specs.Trie.{tries}
use Rattle.addition.specs.Instance.{blocks_of, later, base, entry_of}
use Rattle.addition.specs.Ways.{Hop}
use Rattle.unwind.specs.Sources.{Exit, compare_exits, hops_on}
use Rattle.unwind.specs.Entries.{exits_in, Ordered}
use Rattle.unwind.specs.Gather.{in_set, route_records, node_records}
use Rattle.unwind.specs.Sides.{Lands}

module _ (g : Graph) (m : RouteImage) where
  -- where nodes and ends lead: the entry of each node, and where each end of the trie lands
  pub record Leads (ends heads landings : List ℕ) (c : Counts) : Type 0 where
    pub heads_are : (i : ℕ) → i < c.nodes → get_or heads i 0 ≡ entry_of g (funclets (routes_of m)) (tries (routes_of m)).nodes i
    pub heads_few : (i : ℕ) → i < c.nodes → get_or heads i 0 < 65535
    pub lands : Lands g m ends landings c.ends
    pub blocks_few : (a : ℕ) → block_of g a < 65534

  -- which blocks a route guards, and which nodes return from a block, as sets of sixteen words each
  pub record Sides (guards bases returns : List ℕ) (c : Counts) : Type 0 where
    pub guards_are : (r b : ℕ) → r < length m.routes → in_set guards r b ≡ among (guarded g (route_at (routes_of m) r)) b
    pub bases_are : (i : ℕ) → i < c.nodes → get_or bases i 0 ≡ cond (later g (funclets (routes_of m)) (tries (routes_of m)).nodes i) (base g (funclets (routes_of m)) (tries (routes_of m)).nodes i) 0
    pub returns_are : (i b : ℕ) → i < c.nodes → in_set returns i b ≡ among (keep (returning g) (blocks_of g (funclets (routes_of m)) (tries (routes_of m)).nodes i)) b

  -- the original blocks of each node
  pub record PartsIn (parts : List ℕ) (c : Counts) : Type 0 where
    pub parts_are : (i b : ℕ) → i < c.nodes → in_set parts i b ≡ among (blocks_of g (funclets (routes_of m)) (tries (routes_of m)).nodes i) b

-- room for the exits of one block
pub record Roomy (edges ends exits : List ℕ) : Type 0 where
  pub edges_few : length edges ≤ 65536
  pub ends_few : length ends ≤ 65536
  pub room : 2 * (length edges + length ends) ≤ length exits

module _ (m : RouteImage) (b : ℕ) where
  -- the exits of a block that stood, by the numbers that are lent
  unfoldable pub block_records : List ℕ → List ℕ → List ℕ → List ℕ → List ℕ → List ℕ → List ℕ → List ℕ → List ℕ → Counts → List Exit
  block_records nodes edges ends heads landings roots guards bases returns c =
      flat (route_records m b edges ends heads landings nodes roots guards) (length m.routes)
      ++ flat (node_records m b edges ends heads landings nodes bases returns) c.nodes

  -- scratch holds exits, sorted
  pub record Holds (xs : List Exit) (l : List ℕ) (n : ℕ) : Type 0 where
    pub ordered : Ordered m l n
    pub is : exits_in m b l n ≡ sorted compare_exits xs

  -- n of them, no more than edges and ends
  pub record BlockHeld (xs : List Exit) (edges ends l l' : List ℕ) (n : ℕ) : Type 0 where
    pub long : length l' ≡ length l
    pub holds : Holds xs l' n
    pub most : n ≤ length edges / 3 + length ends / 3

-- the hops out of block b, by the numbers that are lent
unfoldable pub block_hops : RouteImage → List ℕ → List ℕ → List ℕ → List ℕ → List ℕ → List ℕ → List ℕ → List ℕ → List ℕ → Counts → ℕ → List Hop
block_hops m nodes edges ends heads landings roots guards bases returns c b =
    hops_on [] (sorted compare_exits (block_records m b nodes edges ends heads landings roots guards bases returns c))
