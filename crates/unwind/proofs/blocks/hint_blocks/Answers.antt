use Prim.Native.Nat.{◌<◌}
use native.Mathlib.Omega.{arith}
use lib.ListN.{length}
use Rattle.graph.specs.Lent.{held_of}
use Rattle.unwind.proofs.Standing.{first_lt}
use Rattle.unwind.proofs.blocks.hint_blocks.Goals as goal

pub first_of-requires : goal.first_of-requires
first_of-requires c = let g = (held_of c.args.g.now).graph in
    let some_there : 0 < length g.table = omega (arith, c.if-table_count-eq0.false, c.table_count.ensures) in
    (omega (arith, c.requires.built.0, c.loop-b-test.true), first_lt g c.requires.stands c.args.built c.requires.built c.loop-b.b some_there c.loop-b-test.true)
