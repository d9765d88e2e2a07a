-- `want_set` meets its contract. The loop's invariant: what is wanted out of the blocks before `from` is added. Assumes nothing.
use mathlib.Core.List.{List}
use Prim.Native.Nat.{ℕ}
use Rattle.image.specs.Image.{RouteImage}
use Rattle.graph.specs.BlockSet.{size_of}
use Rattle.graph.proofs.NextLaws.{left_from}
use Rattle.unwind.specs.Placed.{set_at, returns_in}
use Rattle.unwind.specs.Wanters.{wanter_set}
use Rattle.unwind.proofs.WantLaws.{SetWanting, out_of}
use Rattle.unwind.proofs.wants.want_set.Given as goal

abbrev pub invariant-loop-o : goal.invariant-loop-o
invariant-loop-o l = (m : RouteImage) (ends : List ℕ) → SetWanting l.h (out_of m l.nodes l.edges ends l.heads l.landings l.x.node l.x.route l.x.base (set_at l.parts l.x.node)) (wanter_set l.guards (returns_in l.parts l.returners) l.routes l.k) l.initial.g l.initial.done (left_from (wanter_set l.guards (returns_in l.parts l.returners) l.routes l.k) l.from) l.g l.done

abbrev pub decreases-loop-o : goal.decreases-loop-o
decreases-loop-o l = size_of (left_from (wanter_set l.guards (returns_in l.parts l.returners) l.routes l.k) l.from)
