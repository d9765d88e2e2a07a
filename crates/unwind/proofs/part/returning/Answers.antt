-- `returning` meets its contract, test by test. Assumes nothing.
use Rattle.graph.specs.Lent.{held_of}
use Rattle.unwind.proofs.Standing.{run_fits}
use Rattle.unwind.proofs.part.returning.Goals as goal

pub last_of-flow-requires : goal.last_of-flow-requires
last_of-flow-requires c = (record { fits = run_fits (held_of c.args.g.now).graph c.requires.stands }, c.requires.block)
