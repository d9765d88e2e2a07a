-- Each frame is taken where there is room in it. Assumes nothing.
use mathlib.Core.Path.{◌≡◌}
use native.Mathlib.Omega.{arith}
use Rattle.image.specs.Record.{instruction_from}
use Rattle.image.specs.Whole.{contents}
use Rattle.image.proofs.Tables.{length-records}
use Rattle.graph.specs.Transfer.{size}
use Rattle.builder.proofs.build.build_read.Goals as goal

pub build_framed-requires-clause-few : goal.build_framed-requires-clause-few
build_framed-requires-clause-few c =
    let image = c.args.image.now in
    let there = image.there.instructions_there in
    let count : size (contents image) ≡ image.layout.code.instructions.count = length-records instruction_from image.bytes.now image.layout.code.instructions in
    omega (arith, count, rw there.0 at there.1, c.if-image.true)
