use mathlib.Core.Path.{◌≡◌, sym, ap, ◌∙◌, subst}
use native.Mathlib.Omega.{arith}
use lib.ListN.{get_or}
use Rattle.image.specs.Image.{routes_in}
use Rattle.graph.specs.Fold.{flat}
use Rattle.unwind.specs.declared.tries.store.NodeRecord.{NodeRecord}
use Rattle.unwind.specs.Nodes.{record_in, NodeFits}
use Rattle.unwind.specs.Gather.{NodeThere, return_records}
use Rattle.unwind.proofs.PoolLaws.{adds_none, adds-some, adds_next}
use Rattle.unwind.proofs.ReturnLaws.{records_here, records-none}
use borrow.Author.Rules.{rules}
use borrow.Author.Tests.{not-true, not-false}
use Rattle.unwind.proofs.emit.block.gather_nodes.Goals as goal

pub returns-then-not-has_in : goal.returns-then-not-has_in
returns-then-not-has_in c = let m = routes_in c.args.s.now c.args.y in
    let out = sym c.has_in.ensures ∙ not-true _ c.if-not-has_in.true-raw in
    adds-some m c.args.b c.args.edges.now c.args.ends.now c.args.heads.now c.args.landings.now (sym (records-none c.args.parts.now c.args.returners.now m c.args.b c.args.edges.now c.args.ends.now c.args.heads.now c.args.landings.now c.args.nodes.now c.args.originals.now c.args.count c.requires.6 out))
    (adds_none m c.args.b c.args.edges.now c.args.ends.now c.args.heads.now c.args.landings.now c.args.exits.now c.args.held c.requires.0)

pub loop-k-init : goal.loop-k-init
unfolding flat
loop-k-init c = (omega arith, adds_none (routes_in c.args.s.now c.args.y) c.args.b c.args.edges.now c.args.ends.now c.args.heads.now c.args.landings.now c.args.exits.now c.args.held c.requires.0)

pub gather_returned-n-requires : goal.gather_returned-n-requires
gather_returned-n-requires c = let read = c.number_in-i.ensures in
    let here = ap (record_in c.args.nodes.now) (sym read.0) in
    let fits = subst (λ (x : NodeRecord). NodeFits c.args.edges.now c.args.ends.now x) here (c.requires.2.fits c.loop-k.k (omega (arith, c.loop-k-test.true))) in
    let there = subst (NodeThere c.args.nodes.now c.args.edges.now c.args.heads.now c.args.landings.now) (sym read.0) (c.requires.4.there c.loop-k.k (omega (arith, c.loop-k-test.true))) in
    (c.loop-k.invariant.1.pooled, c.requires.1, omega (arith, read.0, c.requires.6 c.loop-k.k (omega (arith, c.loop-k-test.true))), fits, search rules, there)

pub loop-k-preserved : goal.loop-k-preserved
loop-k-preserved c = let here = ap (return_records (routes_in c.args.s.now c.args.y) c.args.b c.args.edges.now c.args.ends.now c.args.heads.now c.args.landings.now c.args.nodes.now c.args.parts.now) c.number_in-i.ensures.0 in (
  omega (arith, c.loop-k-test.true),
  adds_next (routes_in c.args.s.now c.args.y) c.args.b c.args.edges.now c.args.ends.now c.args.heads.now c.args.landings.now (λ k. return_records (routes_in c.args.s.now c.args.y) c.args.b c.args.edges.now c.args.ends.now c.args.heads.now c.args.landings.now c.args.nodes.now c.args.parts.now (get_or c.args.originals.now k 0)) c.loop-k.k c.loop-k.invariant.1 (adds-some (routes_in c.args.s.now c.args.y) c.args.b c.args.edges.now c.args.ends.now c.args.heads.now c.args.landings.now here c.gather_returned-n.ensures),
)

pub shape_of-exits : goal.shape_of-exits
shape_of-exits c = c.loop-k.invariant.1.gathers.long

pub returns : goal.returns
returns c = let m = routes_in c.args.s.now c.args.y in
    let all : c.loop-k.k ≡ c.args.count = omega (arith, c.loop-k.invariant.0) in
    let is = sym c.has_in.ensures ∙ not-false _ c.if-not-has_in.false-raw in
    adds-some m c.args.b c.args.edges.now c.args.ends.now c.args.heads.now c.args.landings.now (records_here c.args.parts.now c.args.returners.now m c.args.b c.args.edges.now c.args.ends.now c.args.heads.now c.args.landings.now c.args.nodes.now c.args.originals.now c.args.count c.requires.6 is)
    (rw all at c.loop-k.invariant.1)
