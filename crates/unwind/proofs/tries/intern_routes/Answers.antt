use mathlib.Core.Path.{◌≡◌, ap}
use Prim.Native.Nat.{◌<◌}
use native.Mathlib.Omega.{arith}
use lib.ListN.{length}
use Rattle.image.specs.Record.{route_from}
use Rattle.image.specs.Image.{routes_in}
use Rattle.image.specs.declared.record.Route.{Route}
use Rattle.image.proofs.Tables.{length-records}
use Rattle.graph.proofs.RouteLaws.{paths_in}
use Rattle.unwind.proofs.SeenLaws.{seen_none}
use Rattle.unwind.proofs.TrieRoutes.{route_start, route_grouped, route_room, place_small, route_next, route_done}
use borrow.Author.Rules.{rules}
use Rattle.unwind.proofs.tries.intern_routes.Goals as goal

pub loop-r-init : goal.loop-r-init
loop-r-init c = (search rules, route_start _ c.requires.0 _ _ _ _ _ _ c.requires.1, seen_none _ _)

pub intern-root-requires-clause-grouped : goal.intern-root-requires-clause-grouped
intern-root-requires-clause-grouped c =
    let among : c.loop-r.r < length (routes_in c.args.s.now c.args.y).routes = rw (length-records route_from c.args.s.now c.args.y.routes) (omega arith) in
    rw (c.root_group-group.ensures, c.route_in-count.ensures) (route_grouped _ c.requires.0 _ _ _ _ _ _ c.requires.1 _ _ _ _ _ _ _ _ c.loop-r.invariant.1 among _ c.path_starts.ensures)

pub intern-root-requires-clause-room : goal.intern-root-requires-clause-room
intern-root-requires-clause-room c =
    let among : c.loop-r.r < length (routes_in c.args.s.now c.args.y).routes = rw (length-records route_from c.args.s.now c.args.y.routes) (omega arith) in
    rw (c.root_group-group.ensures, c.route_in-count.ensures) (route_room _ c.requires.0 _ _ _ _ _ _ c.requires.1 _ _ _ _ _ _ _ _ c.loop-r.invariant.1 among)

pub intern-root-requires-clause-lower : goal.intern-root-requires-clause-lower
intern-root-requires-clause-lower c = c.loop-r.invariant.1.lower

pub overflow_cast-roots : goal.overflow_cast-roots
overflow_cast-roots c =
    let among : c.loop-r.r < length (routes_in c.args.s.now c.args.y).routes = rw (length-records route_from c.args.s.now c.args.y.routes) (omega arith) in
    let done = rw (c.root_group-group.ensures, c.route_in-count.ensures) at c.intern-root.ensures.interns in
    omega (arith, place_small _ c.requires.0 _ _ _ _ _ _ c.requires.1 _ _ _ _ _ _ _ _ c.loop-r.invariant.1 (among) _ _ _ _ _ done)

pub offset_bounds-roots-r : goal.offset_bounds-roots-r
offset_bounds-roots-r c =
    let among : c.loop-r.r < length (routes_in c.args.s.now c.args.y).routes = rw (length-records route_from c.args.s.now c.args.y.routes) (omega arith) in
    omega (arith, among, c.requires.0.routes_most)

pub bounds-roots-r : goal.bounds-roots-r
bounds-roots-r c =
    let among : c.loop-r.r < length (routes_in c.args.s.now c.args.y).routes = rw (length-records route_from c.args.s.now c.args.y.routes) (omega arith) in
    omega (arith, among, c.requires.1.roots_fit, c.loop-r.invariant.1.roots_long)

pub overflow_add-first : goal.overflow_add-first
overflow_add-first c =
    let among : c.loop-r.r < length (routes_in c.args.s.now c.args.y).routes = rw (length-records route_from c.args.s.now c.args.y.routes) (omega arith) in
    omega (arith, paths_in (routes_in c.args.s.now c.args.y) c.requires.0 c.loop-r.r (among), c.requires.0.paths_most, c.loop-r.invariant.1.first_is, ap (λ (x : Route). x.paths) c.route_in-count.ensures)

pub overflow_step-r : goal.overflow_step-r
overflow_step-r c =
    let among : c.loop-r.r < length (routes_in c.args.s.now c.args.y).routes = rw (length-records route_from c.args.s.now c.args.y.routes) (omega arith) in
    omega (arith, among, c.requires.0.routes_most)

pub loop-r-preserved : goal.loop-r-preserved
loop-r-preserved c =
    let among : c.loop-r.r < length (routes_in c.args.s.now c.args.y).routes = rw (length-records route_from c.args.s.now c.args.y.routes) (omega arith) in
    let done = rw (c.root_group-group.ensures, c.route_in-count.ensures) at c.intern-root.ensures.interns in
    rw c.route_in-count.ensures (
      omega (arith, c.loop-r-test.true),
      route_next _ c.requires.0 _ _ _ _ _ _ c.requires.1 _ _ _ _ _ _ _ _ c.loop-r.invariant.1 (among) _ _ _ _ _ done c.intern-root.auto.nodes c.intern-root.auto.edges c.intern-root.auto.ends c.intern-root.auto.stack,
      c.intern-root.ensures.seen,
    )

pub shape_of-nodes : goal.shape_of-nodes
shape_of-nodes c = c.loop-r.invariant.1.nodes_long

pub shape_of-edges : goal.shape_of-edges
shape_of-edges c = c.loop-r.invariant.1.edges_long

pub shape_of-ends : goal.shape_of-ends
shape_of-ends c = c.loop-r.invariant.1.ends_long

pub shape_of-stack : goal.shape_of-stack
shape_of-stack c = c.loop-r.invariant.1.stack_long

pub shape_of-roots : goal.shape_of-roots
shape_of-roots c = c.loop-r.invariant.1.roots_long

pub returns : goal.returns
returns c = let m = routes_in c.args.s.now c.args.y in
    let all : c.loop-r.r ≡ length m.routes = rw (length-records route_from c.args.s.now c.args.y.routes) (omega (arith, c.loop-r-test.false, c.loop-r.invariant.0)) in
    (route_done m c.requires.0 _ _ _ _ _ _ c.requires.1 _ _ _ _ _ _ _ _ c.loop-r.invariant.1 all)
