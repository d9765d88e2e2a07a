-- `lay_ends` meets its contract. The invariant: the ends of the paths passed are laid. Assumes nothing.
use Prim.Native.Nat.{◌≤◌}
use Rattle.image.specs.Image.{routes_in}
use Rattle.unwind.proofs.TrieLaid.{EndsBelow}
use Rattle.unwind.proofs.tries.lay.lay_ends.Given as goal

abbrev pub invariant-loop-k : goal.invariant-loop-k
invariant-loop-k l = (l.k ≤ l.g.count) × EndsBelow (routes_in l.s l.y) l.g l.initial.ends l.at l.ends l.n l.k
