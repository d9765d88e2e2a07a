-- `spot_of` meets its contract. The invariant: those passed stay before the branch. Assumes nothing.
use mathlib.Core.List.{map}
use Prim.Native.Nat.{◌≤◌}
use Rattle.image.specs.Image.{routes_in}
use Rattle.unwind.specs.Nodes.{branches}
use Rattle.unwind.specs.Interning.{ordered, meaning}
use Rattle.unwind.proofs.TrieRuns.{Beyond}
use Rattle.unwind.proofs.tries.runs.spot_of.Given as goal

abbrev pub invariant-loop-j : goal.invariant-loop-j
invariant-loop-j l = let m = routes_in l.s l.y in
    (l.j ≤ l.n) × Beyond (ordered l.kind) (meaning m l.kind l.b) (map (meaning m l.kind) (branches l.list l.at l.n)) l.j
