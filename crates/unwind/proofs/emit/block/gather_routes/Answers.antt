use mathlib.Core.Path.{◌≡◌, refl, sym, ◌∙◌}
use native.Mathlib.Omega.{arith}
use Rattle.image.specs.Image.{routes_in}
use Rattle.graph.specs.Fold.{flat}
use Rattle.unwind.specs.Gather.{route_records}
use Rattle.unwind.proofs.PoolLaws.{adds_none, adds-some, adds_next}
use Rattle.unwind.proofs.MemberLaws.{routes_quiet}
use borrow.Author.Rules.{rules}
use borrow.Author.Tests.{not-true}
use Rattle.unwind.proofs.emit.block.gather_routes.Goals as goal

pub returns-then-not-has_block : goal.returns-then-not-has_block
returns-then-not-has_block c = let m = routes_in c.args.s.now c.args.y in
    let none = sym (c.requires.7.has c.args.b refl) ∙ sym c.has_block.ensures ∙ not-true _ c.if-not-has_block.true-raw in
    adds-some m c.args.b c.args.edges.now c.args.ends.now c.args.heads.now c.args.landings.now (sym (routes_quiet m c.args.b c.args.nodes.now c.args.edges.now c.args.ends.now c.args.heads.now c.args.landings.now c.args.roots.now c.args.guards.now c.args.count none))
    (adds_none m c.args.b c.args.edges.now c.args.ends.now c.args.heads.now c.args.landings.now c.args.exits.now c.args.held c.requires.0)

pub loop-r-init : goal.loop-r-init
unfolding flat
loop-r-init c = (omega arith, adds_none (routes_in c.args.s.now c.args.y) c.args.b c.args.edges.now c.args.ends.now c.args.heads.now c.args.landings.now c.args.exits.now c.args.held c.requires.0)

pub gather_route-n-requires : goal.gather_route-n-requires
gather_route-n-requires c = (c.loop-r.invariant.1.pooled, c.requires.1, omega (arith, c.requires.2, c.loop-r-test.true), c.requires.3.fits c.loop-r.r (omega (arith, c.loop-r-test.true)), search rules, c.requires.5.there c.loop-r.r (omega (arith, c.loop-r-test.true)), omega (arith, c.requires.6, c.loop-r-test.true))

pub loop-r-preserved : goal.loop-r-preserved
loop-r-preserved c = (omega (arith, c.loop-r-test.true), adds_next (routes_in c.args.s.now c.args.y) c.args.b c.args.edges.now c.args.ends.now c.args.heads.now c.args.landings.now (route_records (routes_in c.args.s.now c.args.y) c.args.b c.args.edges.now c.args.ends.now c.args.heads.now c.args.landings.now c.args.nodes.now c.args.roots.now c.args.guards.now) c.loop-r.r c.loop-r.invariant.1 c.gather_route-n.ensures)

pub shape_of-exits : goal.shape_of-exits
shape_of-exits c = c.loop-r.invariant.1.gathers.long

pub returns : goal.returns
returns c = let all : c.loop-r.r ≡ c.args.count = omega (arith, c.loop-r.invariant.0) in
    rw all at c.loop-r.invariant.1
