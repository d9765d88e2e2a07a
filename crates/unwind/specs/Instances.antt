-- What the addition has at hand when it counts and stores: the tries, the instances of their nodes, and their sides.
use Rattle.std.specs.Prelude.{List, ℕ, ◌*◌, ◌≤◌, ◌<◌, length}
use Rattle.image.specs.Image.{RouteImage}
use Rattle.image.specs.Deal.{routes_of}
use Rattle.graph.specs.Graph.{Graph}
use Rattle.unwind.specs.declared.tries.store.Counts.{Counts}
use Rattle.addition.specs.Lists.{keep}
use Rattle.addition.specs.Part.{funclets, returning}
use Rattle.addition.specs.Trie.{tries}
use Rattle.addition.specs.Instance.{blocks_of}
use Rattle.unwind.specs.Stands.{Has}
use Rattle.unwind.specs.Routed.{TriesIn}
use Rattle.unwind.specs.Placed.{set_at, Slots, Placed}
use Rattle.unwind.specs.Sides.{Lands, GuardsIn}
use Rattle.unwind.specs.Copies.{Bounded}

pub record Instances (g : Graph) (m : RouteImage) (nodes edges ends roots bases heads parts returns guards landings : List ℕ) (c : Counts) : Type 0 where
  pub trie : TriesIn m nodes edges ends roots c
  pub slots : Slots c.nodes bases heads parts
  pub placed : Placed g (funclets (routes_of m)) (tries (routes_of m)).nodes bases heads parts c.nodes
  pub returns_fit : 16 * c.nodes ≤ length returns
  pub returns_has : (i : ℕ) → i < c.nodes → Has (set_at returns i) (keep (returning g) (blocks_of g (funclets (routes_of m)) (tries (routes_of m)).nodes i))
  pub guards_fit : 16 * length m.routes ≤ length guards
  pub guarded : GuardsIn g m guards (length m.routes)
  pub landed : Lands g m ends landings c.ends
  pub bounded : Bounded g (routes_of m)
  pub landings_fit : c.ends ≤ length landings
