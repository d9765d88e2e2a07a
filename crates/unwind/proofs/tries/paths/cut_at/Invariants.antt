-- `cut_at` meets its contract. The invariant: the steps passed are calls. Assumes nothing.
use Prim.Native.Nat.{◌≤◌}
use Rattle.image.specs.Image.{routes_in}
use Rattle.unwind.proofs.TriePaths.{Called}
use Rattle.unwind.proofs.tries.paths.cut_at.Given as goal

abbrev pub invariant-loop-i : goal.invariant-loop-i
invariant-loop-i l = (l.i ≤ l.n) × Called (routes_in l.s l.y) l.a l.n l.i
