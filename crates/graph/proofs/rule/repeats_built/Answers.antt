use mathlib.Core.Path.{sym, ap, ◌∙◌}
use Prim.Native.Nat.{◌+◌, ◌-◌, ◌/◌}
use native.Mathlib.Omega.{arith}
use Rattle.graph.specs.Lent.{held_of}
use Rattle.graph.specs.declared.record.Block.{Block}
use Rattle.graph.proofs.RuleLaws.{go_left, go_right, repeats_here, repeats_nowhere}
use Rattle.graph.proofs.rule.repeats_built.Goals as goal

pub returns-then-own-copy : goal.returns-then-own-copy
returns-then-own-copy c = let g = (held_of c.args.g.now).graph in
    let first = ap (λ (x : Block). x.first) (sym c.block_in-own.ensures) ∙ c.if-own-copy.true ∙ ap (λ (x : Block). x.first) c.block_at-copy.ensures in
    rw (c.block_in-own.ensures, c.block_at-copy.ensures) (repeats_here g c.requires.covers c.requires.none c.args.built c.requires.built c.args.b (c.loop-lo.lo + (c.loop-lo.hi - c.loop-lo.lo) / 2) (omega arith) first)

pub loop-lo-preserved-then-own-copy-2 : goal.loop-lo-preserved-then-own-copy-2
loop-lo-preserved-then-own-copy-2 c = let g = (held_of c.args.g.now).graph in
    let own = ap (λ (x : Block). x.first) c.block_in-own.ensures in
    let copy = ap (λ (x : Block). x.first) c.block_at-copy.ensures in
    (omega arith, omega arith, go_right g c.requires.covers c.requires.none c.args.built c.requires.built c.args.b c.loop-lo.lo c.loop-lo.hi (c.loop-lo.lo + (c.loop-lo.hi - c.loop-lo.lo) / 2) c.loop-lo.invariant.2 (omega arith) (omega (arith, own, copy, c.if-own-copy-2.true)))

pub loop-lo-preserved : goal.loop-lo-preserved
loop-lo-preserved c = let g = (held_of c.args.g.now).graph in
    let own = ap (λ (x : Block). x.first) c.block_in-own.ensures in
    let copy = ap (λ (x : Block). x.first) c.block_at-copy.ensures in
    (omega arith, omega arith, go_left g c.requires.covers c.requires.none c.args.built c.requires.built c.args.b c.loop-lo.lo c.loop-lo.hi (c.loop-lo.lo + (c.loop-lo.hi - c.loop-lo.lo) / 2) c.loop-lo.invariant.2 (omega arith) (omega (arith, own, copy, c.if-own-copy-2.false, c.if-own-copy.false)))

pub returns : goal.returns
returns c = sym (repeats_nowhere (held_of c.args.g.now).graph c.requires.covers c.requires.none c.args.built c.requires.built c.args.b c.loop-lo.lo c.loop-lo.hi c.loop-lo.invariant.2 (omega arith))
