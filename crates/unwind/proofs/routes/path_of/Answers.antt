-- By the law of records past the last. Assumes nothing.
use mathlib.Core.Path.{sym}
use Rattle.image.specs.Record.{path_from}
use Rattle.image.proofs.Tables.{records_past}
use Rattle.unwind.proofs.routes.path_of.Goals as goal

pub returns : goal.returns
returns c = sym (records_past path_from c.args.s.now c.args.y.paths c.args.i c.if-i-count.false)
