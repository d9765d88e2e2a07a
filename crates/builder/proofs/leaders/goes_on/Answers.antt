-- The next instruction is there. Assumes nothing.
use mathlib.Core.Path.{ap, ap₂}
use Prim.Native.Nat.{suc}
use native.Mathlib.Omega.{arith}
use native.Mathlib.Numerals.{add-one}
use borrow.Author.Tests.{lt-ltb}
use lib.Dec.{eqb}
use Rattle.builder.specs.Code.{image_of}
use Rattle.image.specs.declared.record.Instruction.{Instruction}
use Rattle.graph.specs.Transfer.{size}
use Rattle.graph.specs.Leaders.{goes_on}
use Rattle.builder.proofs.leaders.goes_on.Goals as goal

pub returns-then-q-size : goal.returns-then-q-size
unfolding goes_on
returns-then-q-size c = let m = image_of c.args.code.now in
    rw (lt-ltb (suc c.args.q) (size m) (omega arith), ← add-one c.args.q)
    (ap₂ eqb (ap (λ (i : Instruction). i.end) c.requires.instruction) (ap (λ (i : Instruction). i.address) c.instruction.ensures))
