use mathlib.Core.Path.{sym, ap, ◌∙◌}
use Prim.Native.Nat.{◌<◌}
use native.Mathlib.Omega.{arith}
use borrow.Author.Tests.{not-true, not-false, ltb-true, eqb-true, lt-ltb, eq-eqb}
use mathlib.Core.Bool.{true≢false}
use lib.Dec.{eqb, ltb}
use lib.ListN.{length}
use Rattle.image.proofs.Checks.{checks-more, checks_stop}
use Rattle.graph.specs.declared.record.TableEntry.{TableEntry}
use Rattle.graph.specs.Graph.{block}
use Rattle.graph.specs.Lent.{held_of}
use Rattle.graph.proofs.CheckLaws.{checks_clear}
use Rattle.graph.proofs.RecordLaws.{entry_most}
use Rattle.graph.proofs.TableLaws.{below_most}
use Rattle.unwind.specs.Stands.{route_of}
use Rattle.addition.specs.Add.{range_leads}
use Rattle.addition.proofs.Lists.{and_both, and_true}
use Rattle.unwind.proofs.RouteChecks.{lead_before, lead_yes, lead_no, lead_all, begins_yes, begins_no, before_next}
use Rattle.unwind.proofs.checks.check_leads.Goals as goal

pub loop-p-init : goal.loop-p-init
loop-p-init c = let g = (held_of c.args.g.now).graph in (
  c.block_from-b.ensures,
  λ from to low ps. checks_clear (range_leads g (route_of from to ps)) c.args.first
      (λ i h. lead_before g c.requires.stands (route_of from to ps) i (omega (arith, low, below_most g.table from)) (omega (arith, low))),
)

pub returns-then-not-begins_at : goal.returns-then-not-begins_at
returns-then-not-begins_at c =
    let inside : c.loop-p.p < length (held_of c.args.g.now).graph.table = omega (arith, c.requires.past_within, c.loop-p-test.true) in
    let g = (held_of c.args.g.now).graph in
    let h = inside in
    let out = sym c.begins_at.ensures ∙ not-true _ c.if-not-begins_at.true-raw in
    let none = begins_no g c.requires.stands c.args.built c.requires.built c.loop-p.p c.loop-p.b c.loop-p.invariant.0 h (λ lt e. true≢false (sym (and_true (lt-ltb c.loop-p.b c.args.built lt) (eq-eqb _ c.loop-p.p e)) ∙ out)) in
    let read = ap (λ (x : TableEntry). x.address) c.table_in-address.ensures in
    λ from to low high ps. sym (checks_stop (range_leads g (route_of from to ps)) c.loop-p.p (length g.table) _ h (c.loop-p.invariant.1 from to low ps)
    (rw read (lead_no g c.requires.stands (route_of from to ps) c.loop-p.p h (omega (arith, low, c.loop-p.auto.p)) (omega (arith, high, c.loop-p-test.true)) none)))

pub overflow_step-p : goal.overflow_step-p
overflow_step-p c =
    let inside : c.loop-p.p < length (held_of c.args.g.now).graph.table = omega (arith, c.requires.past_within, c.loop-p-test.true) in
    omega (arith, inside, entry_most c.args.g.now)

pub loop-p-preserved : goal.loop-p-preserved
loop-p-preserved c = let inside : c.loop-p.p < length (held_of c.args.g.now).graph.table = omega (arith, c.requires.past_within, c.loop-p-test.true) in
    let g = (held_of c.args.g.now).graph in
    let h = inside in
    let both = and_both (ltb c.loop-p.b c.args.built) (eqb (block g c.loop-p.b).first c.loop-p.p) (sym c.begins_at.ensures ∙ not-false _ c.if-not-begins_at.false-raw) in
    let lt = ltb-true c.loop-p.b c.args.built both.0 in
    let is = eqb-true (block g c.loop-p.b).first c.loop-p.p both.1 in (
      before_next g c.requires.stands c.args.built c.requires.built c.loop-p.p c.loop-p.b c.loop-p.invariant.0 lt is,
      λ from to low ps. checks-more (range_leads g (route_of from to ps)) c.loop-p.p (c.loop-p.invariant.1 from to low ps)
          ∙ lead_yes g c.requires.stands (route_of from to ps) c.loop-p.p c.loop-p.b (begins_yes g c.requires.stands c.args.built c.requires.built c.loop-p.p c.loop-p.b c.loop-p.invariant.0 h lt is),
    )

pub returns : goal.returns
returns c = λ from to low high ps. sym (lead_all (held_of c.args.g.now).graph c.requires.stands (route_of from to ps) c.loop-p.p (omega (arith, high)) (c.loop-p.invariant.1 from to low ps))
