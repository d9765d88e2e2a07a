use mathlib.Core.Path.{◌≡◌, ap, ◌∙◌}
use Prim.Native.Nat.{◌+◌, ◌-◌}
use native.Mathlib.Omega.{arith}
use lib.ListN.{length}
use Rattle.graph.specs.Lent.{held_of}
use Rattle.graph.proofs.RecordLaws.{edge_most}
use Rattle.unwind.proofs.ChainLaws.{chain, OnChain, chain_start, chain_next, chain_none}
use Rattle.unwind.proofs.CloneLaws.{out_most}
use Rattle.unwind.proofs.clones.out_degree.Goals as goal

pub loop-at-init : goal.loop-at-init
loop-at-init c = let s = chain_start (held_of c.args.g.now).graph c.args.b c.args.head.now c.args.next.now c.requires.ends c.requires.roomy c.requires.linked _ c.number_in-at.ensures.0 in
    (s.0, omega (arith, ap length s.1))

pub overflow_add-count : goal.overflow_add-count
overflow_add-count c = omega (arith, c.loop-at.invariant.1, out_most (held_of c.args.g.now).graph c.args.b, edge_most c.args.g.now)

pub loop-at-smaller : goal.loop-at-smaller
loop-at-smaller c =
    let further : OnChain (held_of c.args.g.now).graph c.args.b c.number_in-at-in-loop-at.result × (length (chain (held_of c.args.g.now).graph c.args.b c.loop-at.at) ≡ 1 + length (chain (held_of c.args.g.now).graph c.args.b c.number_in-at-in-loop-at.result)) = let ne = c.loop-at-test.true in
    let s = chain_next (held_of c.args.g.now).graph c.args.b c.args.head.now c.args.next.now c.requires.ends c.requires.roomy c.requires.linked c.loop-at.at (c.loop-at.at - 1) c.number_in-at-in-loop-at.result (omega arith) c.loop-at.invariant.0 c.number_in-at-in-loop-at.ensures.0 in
    (s.0, ap length s.1 ∙ omega arith) in
    omega (arith, (further).1)

pub loop-at-preserved : goal.loop-at-preserved
loop-at-preserved c =
    let further : OnChain (held_of c.args.g.now).graph c.args.b c.number_in-at-in-loop-at.result × (length (chain (held_of c.args.g.now).graph c.args.b c.loop-at.at) ≡ 1 + length (chain (held_of c.args.g.now).graph c.args.b c.number_in-at-in-loop-at.result)) = let ne = c.loop-at-test.true in
    let s = chain_next (held_of c.args.g.now).graph c.args.b c.args.head.now c.args.next.now c.requires.ends c.requires.roomy c.requires.linked c.loop-at.at (c.loop-at.at - 1) c.number_in-at-in-loop-at.result (omega arith) c.loop-at.invariant.0 c.number_in-at-in-loop-at.ensures.0 in
    (s.0, ap length s.1 ∙ omega arith) in
    ((further).0, omega (arith, (further).1, c.loop-at.invariant.1))

pub returns-clause-counts : goal.returns-clause-counts
returns-clause-counts c = let none = ap length (chain_none (held_of c.args.g.now).graph c.args.b c.loop-at.at c.loop-at-test.false) in
    omega (arith, c.loop-at.invariant.1, none)

pub returns-clause-small : goal.returns-clause-small
returns-clause-small c = omega (arith, c.loop-at.invariant.1, out_most (held_of c.args.g.now).graph c.args.b, edge_most c.args.g.now)

pub number_in-at-requires-in-loop-at : goal.number_in-at-requires-in-loop-at
number_in-at-requires-in-loop-at c = let ne = c.loop-at-test.true in
    let here = c.loop-at.invariant.0.here (c.loop-at.at - 1) (omega arith) in
    omega (arith, here.0, c.requires.roomy.edges)
