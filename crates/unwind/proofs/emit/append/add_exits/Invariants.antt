-- `add_exits` meets its contract. The invariant: the entries passed are stored. Assumes nothing.
use Prim.Native.Nat.{◌≤◌}
use Rattle.unwind.specs.HopWords.{rows_in, rows_on, HopsStored}
use Rattle.unwind.proofs.emit.append.add_exits.Given as goal

abbrev pub invariant-loop-k : goal.invariant-loop-k
invariant-loop-k l = (l.k ≤ l.n) × HopsStored l.initial.h l.h (rows_on (rows_in l.initial.h) l.b l.exits l.k)
