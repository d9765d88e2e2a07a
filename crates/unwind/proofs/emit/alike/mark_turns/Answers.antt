use mathlib.Core.Path.{◌∙◌}
use native.Mathlib.Omega.{arith}
use lib.ListN.{length-set}
use Rattle.unwind.specs.Placed.{returns_in}
use Rattle.unwind.proofs.AlikeLaws.{steady_returns, marks_none, marks_more, marks_turning}
use Rattle.unwind.proofs.emit.alike.mark_turns.Goals as goal

pub overflow_add-words : goal.overflow_add-words
overflow_add-words c = omega (arith, c.requires.2)

pub loop-k-init : goal.loop-k-init
loop-k-init c = (omega arith, c.sixteen.ensures, marks_none c.args.guards.now c.args.routes (returns_in c.args.parts.now c.args.returners.now) c.args.nodes c.args.turns.now)

pub sets_turn-guarded-requires : goal.sets_turn-guarded-requires
sets_turn-guarded-requires c = (c.requires.0, omega (arith, c.loop-k-test.true, c.requires.2))

pub sets_turn-requires : goal.sets_turn-requires
sets_turn-requires c = (c.requires.1, omega (arith, c.loop-k-test.true, c.requires.2))

pub turns_at-requires : goal.turns_at-requires
turns_at-requires c = omega (arith, c.loop-k-test.true, c.requires.2)

pub offset_bounds-turns-k : goal.offset_bounds-turns-k
offset_bounds-turns-k c = omega (arith, c.loop-k-test.true, c.requires.2)

pub bounds-turns-k : goal.bounds-turns-k
bounds-turns-k c = omega (arith, c.loop-k-test.true, c.requires.2, c.loop-k.invariant.1)

pub loop-k-preserved : goal.loop-k-preserved
loop-k-preserved c = let test = c.loop-k-test.true in (
  omega (arith, test),
  length-set c.loop-k.turns c.loop-k.k _ ∙ c.loop-k.invariant.1,
  marks_more c.args.guards.now c.args.routes (returns_in c.args.parts.now c.args.returners.now) c.args.nodes c.loop-k.turns c.loop-k.k _ _ (omega (arith, test, c.loop-k.invariant.1, c.requires.2)) c.sets_turn-guarded.ensures (steady_returns c.args.parts.now c.args.returners.now c.args.nodes c.loop-k.k _ (omega (arith, test, c.requires.2)) c.turns_at.ensures c.sets_turn.ensures) c.loop-k.invariant.2,
)

pub returns : goal.returns
returns c = marks_turning c.args.guards.now c.args.routes (returns_in c.args.parts.now c.args.returners.now) c.args.nodes c.args.blocks c.loop-k.turns c.loop-k.k c.requires.2 (omega (arith, c.loop-k-test.false)) c.loop-k.invariant.2
