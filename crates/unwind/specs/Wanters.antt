-- Who wants route edges, in order: the routes, out of the blocks that they guard, and then the nodes, out of those from which
-- they return.
use Rattle.std.specs.Prelude.{◌≡◌, true, cond, List, ℕ, ◌+◌, ◌-◌, ◌*◌, ◌≤◌, ◌<◌, ltb, length, get_or}
use Rattle.image.specs.Image.{RouteImage}
use Rattle.graph.specs.BlockSet.{member}
use Rattle.unwind.specs.declared.wants.wanter.Wanter.{Wanter}
use Rattle.addition.specs.Ways.{Way}
use Rattle.unwind.specs.Nodes.{record_in}
use Rattle.unwind.specs.Placed.{set_at}
use Rattle.unwind.specs.Gather.{NodeThere}
use Rattle.unwind.specs.Wanted.{guard_ways, return_ways}

-- wanter k: route k, and behind the routes node by node
unfoldable pub wanter_of : List ℕ → List ℕ → List ℕ → ℕ → ℕ → Wanter
wanter_of nodes roots bases routes k =
    cond (ltb k routes) (record { node = get_or roots k 0; route = k; base = 0 }) (record { node = k - routes; route = (record_in nodes (k - routes)).route; base = get_or bases (k - routes) 0 })

-- its blocks
unfoldable pub wanter_set : List ℕ → List ℕ → ℕ → ℕ → List ℕ
wanter_set guards returns routes k = cond (ltb k routes) (set_at guards k) (set_at returns (k - routes))

-- its ways
unfoldable pub wanter_ways : RouteImage → List ℕ → List ℕ → List ℕ → List ℕ → List ℕ → List ℕ → List ℕ → List ℕ → List ℕ → List ℕ → ℕ → ℕ → List Way
wanter_ways m nodes edges ends heads landings roots guards bases parts returns routes k =
    cond (ltb k routes) (guard_ways m nodes edges ends heads landings roots guards k) (return_ways m nodes edges ends heads landings bases parts returns (k - routes))

-- all that is read of it is there
pub record WanterThere (nodes edges heads landings roots guards bases parts returns : List ℕ) (routes blocks k : ℕ) : Type 0 where
  pub roots_in : routes ≤ length roots
  pub guards_in : 16 * routes ≤ length guards
  pub node_in : NodeThere nodes edges heads landings (k - routes)
  pub bases_in : k - routes < length bases
  pub parts_in : 16 * (k - routes) + 16 ≤ length parts
  pub there : NodeThere nodes edges heads landings (wanter_of nodes roots bases routes k).node
  pub part_in : 16 * (wanter_of nodes roots bases routes k).node + 16 ≤ length parts
  pub base_few : (wanter_of nodes roots bases routes k).base ≤ 1024
  pub below : (b : ℕ) → member (wanter_set guards returns routes k) b ≡ true → b < blocks
