-- `want_ends` meets its contract. The loop's invariant: what the ends before k want is added. Assumes nothing.
use mathlib.Core.List.{map}
use Prim.Native.Nat.{◌≤◌}
use Rattle.graph.specs.Lent.{held_of}
use Rattle.unwind.specs.Gather.{end_exits}
use Rattle.unwind.specs.Wanted.{way_of}
use Rattle.unwind.specs.Flags.{HopsJoin, AllWanted}
use Rattle.unwind.proofs.wants.want_ends.Given as goal

abbrev pub invariant-loop-k : goal.invariant-loop-k
invariant-loop-k l = (l.k ≤ l.count) × HopsJoin l.h (held_of l.g).graph × AllWanted l.h l.initial.g l.initial.done (λ m ends. map (way_of l.r) (end_exits m l.b ends l.landings l.first l.k)) l.g l.done
