use mathlib.Core.Path.{sym, ap, ◌∙◌}
use Prim.Native.Nat.{◌-◌, ◌<◌}
use native.Mathlib.Omega.{arith}
use lib.ListN.{length}
use Rattle.graph.specs.Lent.{held_of}
use Rattle.addition.specs.Part.{ordinary}
use Rattle.unwind.proofs.PartLaws.{seeking_start, seeking_on, seeking_less, seeking_found, seeking_none}
use Rattle.unwind.proofs.part.leads_on.Goals as goal

pub loop-at-init : goal.loop-at-init
loop-at-init c = seeking_start (held_of c.args.g.now).graph c.args.b c.args.head.now c.args.next.now c.requires.stands.ends c.requires.roomy c.requires.linked _ c.number_in-at.ensures.0

pub returns-then-is_ordinary : goal.returns-then-is_ordinary
unfolding ordinary
returns-then-is_ordinary c = let ne = c.loop-at-test.true in
    let kind = sym (c.is_ordinary.ensures ∙ ap ordinary c.edge_in.ensures) in
    sym (seeking_found (held_of c.args.g.now).graph c.args.b c.args.head.now c.args.next.now c.requires.stands.ends c.requires.roomy c.requires.linked c.loop-at.at (c.loop-at.at - 1) (omega arith) c.loop-at.invariant (kind ∙ c.if-is_ordinary.true))

pub loop-at-smaller : goal.loop-at-smaller
loop-at-smaller c = let ne = c.loop-at-test.true in
    seeking_less (held_of c.args.g.now).graph c.args.b c.args.head.now c.args.next.now c.requires.stands.ends c.requires.roomy c.requires.linked c.loop-at.at (c.loop-at.at - 1) (omega arith) c.loop-at.invariant _ c.number_in-at-in-loop-at.ensures.0

pub loop-at-preserved : goal.loop-at-preserved
unfolding ordinary
loop-at-preserved c = let ne = c.loop-at-test.true in
    let kind = sym (c.is_ordinary.ensures ∙ ap ordinary c.edge_in.ensures) in
    seeking_on (held_of c.args.g.now).graph c.args.b c.args.head.now c.args.next.now c.requires.stands.ends c.requires.roomy c.requires.linked c.loop-at.at (c.loop-at.at - 1) (omega arith) c.loop-at.invariant _ c.number_in-at-in-loop-at.ensures.0 (kind ∙ c.if-is_ordinary.false)

pub returns : goal.returns
returns c = sym (seeking_none (held_of c.args.g.now).graph c.args.b c.loop-at.at c.loop-at-test.false c.loop-at.invariant)

pub edge_in-requires : goal.edge_in-requires
edge_in-requires c =
    let edge-lt : c.loop-at.at - 1 < length (held_of c.args.g.now).graph.edges = let ne = c.loop-at-test.true in (c.loop-at.invariant.on.here (c.loop-at.at - 1) (omega arith)).0 in
    edge-lt
