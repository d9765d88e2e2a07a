-- `busy_in` meets its contract. The invariant: the words of the parts of the nodes passed are joined. Assumes nothing.
use lib.ListN.{get_or}
use Rattle.unwind.specs.Gather.{in_set}
use Rattle.unwind.specs.Members.{Joins}
use Rattle.unwind.proofs.emit.busy.busy_in.Given as goal

abbrev pub invariant-loop-i : goal.invariant-loop-i
invariant-loop-i l = Joins (λ n b. in_set l.parts (get_or l.originals n 0) b) l.i-index l.w l.all
