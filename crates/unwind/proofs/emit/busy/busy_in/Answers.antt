use mathlib.Core.Path.{◌≡◌}
use Prim.Native.Nat.{◌<◌}
use native.Mathlib.Omega.{arith}
use lib.ListN.{get_or}
use lib.Seq.{length-take-le, get_or-take}
use Rattle.unwind.proofs.BusyLaws.{joins_none, joins_more, busy_in}
use Rattle.unwind.proofs.emit.busy.busy_in.Goals as goal

pub loop-i-init : goal.loop-i-init
loop-i-init c = joins_none c.args.parts.now (λ n. get_or c.args.originals.now n 0) c.args.w

pub bounds-parts-i : goal.bounds-parts-i
bounds-parts-i c = let inside : c.loop-i.i-index < c.args.listed = rw (length-take-le c.args.listed c.args.originals.now c.requires.1) at c.loop-i-test.true in
    rw get_or-take (omega (arith, c.requires.0, c.requires.2 c.loop-i.i-index inside))

pub loop-i-preserved : goal.loop-i-preserved
loop-i-preserved c = let inside : c.loop-i.i-index < c.args.listed = rw (length-take-le c.args.listed c.args.originals.now c.requires.1) at c.loop-i-test.true in
    rw get_or-take (joins_more c.args.parts.now (λ n. get_or c.args.originals.now n 0) c.args.w c.loop-i.i-index c.loop-i.all c.requires.0 c.loop-i.invariant)

pub returns : goal.returns
returns c = let all : c.loop-i.i-index ≡ c.args.listed = omega (arith, length-take-le c.args.listed c.args.originals.now c.requires.1) in
    busy_in c.args.guarded c.args.parts.now c.args.returners.now c.args.originals.now c.args.listed c.args.w c.loop-i.all c.requires.0 (rw all at c.loop-i.invariant)
