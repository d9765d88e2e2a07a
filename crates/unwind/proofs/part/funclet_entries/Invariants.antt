-- `funclet_entries` meets its contract. The loop's invariant: the set has the entries of the nodes passed. Assumes nothing.
use Rattle.unwind.proofs.FuncletLaws.{Barring}
use Rattle.unwind.proofs.part.funclet_entries.Given as goal

abbrev pub invariant-loop-i : goal.invariant-loop-i
invariant-loop-i l = Barring l.nodes l.heads l.i l.set
