-- `want_edges` meets its contract. The loop's invariant: what the edges before k want is added. Assumes nothing.
use mathlib.Core.List.{map}
use Prim.Native.Nat.{◌≤◌}
use Rattle.image.specs.Image.{RouteImage}
use Rattle.graph.specs.Lent.{held_of}
use Rattle.unwind.specs.Gather.{edge_exits}
use Rattle.unwind.specs.Wanted.{way_of}
use Rattle.unwind.specs.Flags.{HopsJoin, EdgesWanted}
use Rattle.unwind.proofs.wants.want_edges.Given as goal

abbrev pub invariant-loop-k : goal.invariant-loop-k
invariant-loop-k l = (l.k ≤ l.count) × HopsJoin l.h (held_of l.g).graph × ((m : RouteImage) → EdgesWanted l.h l.initial.g l.initial.done (map (way_of l.r) (edge_exits m l.b l.edges l.heads l.first l.k)) l.g l.done)
