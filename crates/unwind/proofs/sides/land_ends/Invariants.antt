-- `land_ends` meets its contract. The loop's invariant: the ends before k have their blocks. Assumes nothing.
use mathlib.Core.Path.{◌≡◌}
use lib.ListN.{length}
use Rattle.image.specs.Image.{routes_in}
use Rattle.graph.specs.Lent.{held_of}
use Rattle.unwind.specs.Sides.{Lands}
use Rattle.unwind.proofs.sides.land_ends.Given as goal

abbrev pub invariant-loop-k : goal.invariant-loop-k
invariant-loop-k l = (length l.landings ≡ length l.initial.landings) × Lands (held_of l.g).graph (routes_in l.s l.y) l.ends l.landings l.k
