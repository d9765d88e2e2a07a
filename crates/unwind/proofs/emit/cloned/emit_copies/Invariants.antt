-- `emit_copies` meets its contract. The invariant: the sink has the hops of the blocks before `from`. Assumes nothing.
use mathlib.Core.Path.{◌≡◌}
use mathlib.Core.List.{List, ◌++◌}
use lib.ListN.{length}
use Rattle.image.specs.Image.{routes_in}
use Rattle.graph.specs.Fold.{flat}
use Rattle.graph.specs.BlockSet.{size_of}
use Rattle.graph.proofs.NextLaws.{left_from}
use Rattle.addition.specs.Ways.{Hop}
use Rattle.unwind.specs.Placed.{set_at, returns_in}
use Rattle.unwind.specs.Copies.{copy_number, copy_hops}
use Rattle.unwind.proofs.MemberLaws.{Taking}
use Rattle.unwind.proofs.emit.cloned.emit_copies.Given as goal

abbrev pub invariant-loop-o : goal.invariant-loop-o
invariant-loop-o g l = (length l.exits ≡ length l.initial.exits)
    × Taking (λ k. (hs : List Hop) (old : g.row.V.Denot) → g.V.Sink.holds (routes_in l.s l.y) l.base hs old l.initial.sink → g.V.Sink.holds (routes_in l.s l.y) (copy_number l.parts l.i l.base k) (hs ++ flat (copy_hops (routes_in l.s l.y) l.nodes l.edges l.ends l.heads l.landings l.parts (returns_in l.parts l.returners) l.i l.base) k) old l.sink) (set_at (returns_in l.parts l.returners) l.i) l.blocks (left_from (set_at (returns_in l.parts l.returners) l.i) l.from)

abbrev pub decreases-loop-o : goal.decreases-loop-o
decreases-loop-o g l = size_of (left_from (set_at (returns_in l.parts l.returners) l.i) l.from)
