-- The blocks that stood before: what the loops over them are given.
use Rattle.std.specs.Prelude.{◌≡◌, Bool, true, List, ℕ, ◌≤◌, length}
use Rattle.image.specs.Image.{routes_in}
use Rattle.image.specs.There.{RoutesThere}
use Rattle.image.specs.declared.section.RouteLayout.{RouteLayout}
use Rattle.unwind.specs.declared.tries.store.Counts.{Counts}
use Rattle.unwind.specs.Routed.{TriesIn}
use Rattle.unwind.specs.Placed.{returns_in}
use Rattle.unwind.specs.Lent.{Roomy}
use Rattle.unwind.specs.Alike.{Moves, Turning}
use Rattle.unwind.specs.Members.{BlockSets}

module _ (s : List ℕ) (y : RouteLayout) (nodes edges ends heads landings roots guards bases parts returners : List ℕ) (stored : Counts) (blocks : ℕ) (originals exits : List ℕ) where
  -- tries whose nodes are placed, and room in scratch
  pub record Given : Type 0 where
    pub tries : TriesIn (routes_in s y) nodes edges ends roots stored
    pub few : blocks ≤ 1024
    pub roomy : Roomy edges ends exits
    pub sets : BlockSets guards (returns_in parts returners) blocks (length (routes_in s y).routes) stored.nodes
    pub there : RoutesThere s y
    pub heads_fit : stored.nodes ≤ length heads
    pub landings_fit : stored.ends ≤ length landings
    pub bases_fit : stored.nodes ≤ length bases
    pub originals_fit : stored.nodes ≤ length originals

  -- and where it is worth knowing, turns marks where the ways out differ
  pub record Ready (worth : Bool) (turns : List ℕ) : Type 0 where
    pub given : Given
    pub turning : worth ≡ true → Moves landings stored.ends × Turning guards y.routes.count (returns_in parts returners) stored.nodes blocks turns
