use mathlib.Core.Path.{◌≡◌}
use lib.ListN.{get_or, take}
use Prim.Native.Nat.{◌+◌, ◌/◌}
use native.Mathlib.Omega.{arith}
use Rattle.std.proofs.lemmas.List.{get_or-take}
use Rattle.graph.proofs.BlockLaws.{lowest_is, none_more}
use Rattle.graph.proofs.blockset.lowest_below.Goals as goal

pub returns-then-word-ne0 : goal.returns-then-word-ne0
returns-then-word-ne0 c = let word : get_or (take ((c.args.past + 63) / 64) c.args.w.now) c.loop-i.i 0 ≡ get_or c.args.w.now c.loop-i.i 0 = get_or-take ((c.args.past + 63) / 64) c.args.w.now c.loop-i.i 0 (omega arith) in
    let zeros = rw word at c.zeros_of.ensures in
    rw zeros.0 (lowest_is c.args.w.now c.loop-i.i zeros.2 (omega arith) (rw word at c.if-word-ne0.true) c.loop-i.invariant)

pub loop-i-preserved : goal.loop-i-preserved
loop-i-preserved c = let word : get_or (take ((c.args.past + 63) / 64) c.args.w.now) c.loop-i.i 0 ≡ get_or c.args.w.now c.loop-i.i 0 = get_or-take ((c.args.past + 63) / 64) c.args.w.now c.loop-i.i 0 (omega arith) in
    none_more c.args.w.now c.loop-i.i 0 (rw word at c.if-word-ne0.false) c.loop-i.invariant
