use mathlib.Core.Path.{◌≡◌}
use mathlib.Core.List.{List, []}
use Prim.Native.Nat.{ℕ, ◌+◌, ◌<◌}
use native.Mathlib.Omega.{arith}
use lib.ListN.{length}
use Rattle.image.specs.Record.{route_from}
use Rattle.image.specs.Image.{RouteImage, routes_in}
use Rattle.image.proofs.Tables.{length-records}
use Rattle.graph.specs.Fold.{flat}
use Rattle.addition.specs.Ways.{Way}
use Rattle.unwind.specs.Placed.{returns_in}
use Rattle.unwind.specs.Wanted.{lent_ways}
use Rattle.unwind.specs.Flags.{WaysStand}
use Rattle.unwind.specs.Wanters.{wanter_ways, WanterThere}
use Rattle.unwind.proofs.LentLaws.{node_there, roots_fit}
use Rattle.unwind.proofs.WantLaws.{hops_join, ways_stand, stand_flat, flat_start, flat_next, flags_none}
use Rattle.unwind.proofs.WanterLaws.{all_ways, wanter_there}
use Rattle.unwind.proofs.wants.add_route_edges.Goals as goal

pub overflow_add-all : goal.overflow_add-all
overflow_add-all c =
    let count : length (routes_in c.args.s.now c.args.y).routes ≡ c.args.y.routes.count = length-records route_from c.args.s.now c.args.y.routes in
    omega (arith, c.requires.4.nodes_most, count, c.requires.8.guards_fit)

pub loop-k-init : goal.loop-k-init
loop-k-init c =
    let ways : RouteImage → List ℕ → ℕ → List Way = λ m e. wanter_ways m c.args.nodes.now c.args.edges.now e c.args.heads.now c.args.landings.now c.args.roots.now c.args.guards.now c.args.bases.now c.args.parts.now (returns_in c.args.parts.now c.args.returners.now) c.args.y.routes.count in
    (omega arith, λ m e. flat_start (ways m e))

pub want_by-requires : goal.want_by-requires
want_by-requires c =
    let ways : RouteImage → List ℕ → ℕ → List Way = λ m e. wanter_ways m c.args.nodes.now c.args.edges.now e c.args.heads.now c.args.landings.now c.args.roots.now c.args.guards.now c.args.bases.now c.args.parts.now (returns_in c.args.parts.now c.args.returners.now) c.args.y.routes.count in
    let whole : let m = routes_in c.args.s.now c.args.y in
    flat (ways m c.args.ends.now) (c.args.y.routes.count + c.args.stored.nodes) ≡ lent_ways m c.args.nodes.now c.args.edges.now c.args.ends.now c.args.heads.now c.args.landings.now c.args.roots.now c.args.guards.now c.args.bases.now c.args.parts.now (returns_in c.args.parts.now c.args.returners.now) c.args.y.routes.count c.args.stored.nodes = all_ways (routes_in c.args.s.now c.args.y) c.args.nodes.now c.args.edges.now c.args.ends.now c.args.heads.now c.args.landings.now c.args.roots.now c.args.guards.now c.args.bases.now c.args.parts.now (returns_in c.args.parts.now c.args.returners.now) c.args.y.routes.count c.args.stored.nodes in
    let count : length (routes_in c.args.s.now c.args.y).routes ≡ c.args.y.routes.count = length-records route_from c.args.s.now c.args.y.routes in
    let stand : WaysStand c.args.h.now (flat (ways (routes_in c.args.s.now c.args.y) c.args.ends.now) (c.args.y.routes.count + c.args.stored.nodes)) = rw (whole) (ways_stand (routes_in c.args.s.now c.args.y) c.args.h.now _ (rw (count) at c.requires.3)) in
    let there : (k : ℕ) → k < c.args.y.routes.count + c.args.stored.nodes
    → WanterThere c.args.nodes.now c.args.edges.now c.args.heads.now c.args.landings.now c.args.roots.now c.args.guards.now c.args.bases.now c.args.parts.now (returns_in c.args.parts.now c.args.returners.now) c.args.y.routes.count c.args.blocks k = let m = routes_in c.args.s.now c.args.y in
    let t = c.requires.4 in
    wanter_there c.args.nodes.now c.args.edges.now c.args.heads.now c.args.landings.now c.args.roots.now c.args.guards.now c.args.bases.now c.args.parts.now (returns_in c.args.parts.now c.args.returners.now) c.args.y.routes.count c.args.stored.nodes c.args.blocks
    (omega (arith, count, roots_fit m c.args.nodes.now c.args.edges.now c.args.ends.now c.args.roots.now c.args.stored t))
    c.requires.1
    c.requires.7
    c.requires.2
    (node_there m c.args.nodes.now c.args.edges.now c.args.ends.now c.args.roots.now c.args.stored t c.args.heads.now c.args.landings.now c.requires.5 c.requires.6)
    (λ r h. t.roots_in r (omega (arith, count, h)))
    (rw (count) at c.requires.8) in
    let m = routes_in c.args.s.now c.args.y in
    let e = c.args.ends.now in
    let test = c.loop-k-test.true in
    ((m, e, stand_flat (ways m e) _ c.loop-k.k test (stand)), hops_join (c.loop-k.invariant.1 m e).runs c.requires.0, there c.loop-k.k test, c.requires.9)

pub overflow_step-k : goal.overflow_step-k
overflow_step-k c =
    let count : length (routes_in c.args.s.now c.args.y).routes ≡ c.args.y.routes.count = length-records route_from c.args.s.now c.args.y.routes in
    let next_fits : (k : ℕ) → k < c.args.y.routes.count + c.args.stored.nodes → k + 1 < 18446744073709551616 = λ k lt. omega (arith, lt, count, c.requires.4.nodes_most, c.requires.8.guards_fit) in
    record { fits = next_fits c.loop-k.k c.loop-k-test.true }

pub loop-k-preserved : goal.loop-k-preserved
loop-k-preserved c =
    let ways : RouteImage → List ℕ → ℕ → List Way = λ m e. wanter_ways m c.args.nodes.now c.args.edges.now e c.args.heads.now c.args.landings.now c.args.roots.now c.args.guards.now c.args.bases.now c.args.parts.now (returns_in c.args.parts.now c.args.returners.now) c.args.y.routes.count in
    (omega (arith, c.loop-k-test.true), λ m e. flat_next (ways m e) c.loop-k.k (c.loop-k.invariant.1 m e) (c.want_by.ensures m e))

pub returns : goal.returns
returns c =
    let count : length (routes_in c.args.s.now c.args.y).routes ≡ c.args.y.routes.count = length-records route_from c.args.s.now c.args.y.routes in
    let ways : RouteImage → List ℕ → ℕ → List Way = λ m e. wanter_ways m c.args.nodes.now c.args.edges.now e c.args.heads.now c.args.landings.now c.args.roots.now c.args.guards.now c.args.bases.now c.args.parts.now (returns_in c.args.parts.now c.args.returners.now) c.args.y.routes.count in
    let whole : let m = routes_in c.args.s.now c.args.y in
    flat (ways m c.args.ends.now) (c.args.y.routes.count + c.args.stored.nodes) ≡ lent_ways m c.args.nodes.now c.args.edges.now c.args.ends.now c.args.heads.now c.args.landings.now c.args.roots.now c.args.guards.now c.args.bases.now c.args.parts.now (returns_in c.args.parts.now c.args.returners.now) c.args.y.routes.count c.args.stored.nodes = all_ways (routes_in c.args.s.now c.args.y) c.args.nodes.now c.args.edges.now c.args.ends.now c.args.heads.now c.args.landings.now c.args.roots.now c.args.guards.now c.args.bases.now c.args.parts.now (returns_in c.args.parts.now c.args.returners.now) c.args.y.routes.count c.args.stored.nodes in
    let all : c.loop-k.k ≡ c.args.y.routes.count + c.args.stored.nodes = omega (arith, c.loop-k.invariant.0) in
    let wanted = rw all at (c.loop-k.invariant.1 (routes_in c.args.s.now c.args.y) c.args.ends.now) in
    rw (count) (rw (whole) at (wanted.added [] (flags_none c.args.h.now)))
