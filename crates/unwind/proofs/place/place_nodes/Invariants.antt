-- `place_nodes` meets its contract. The loop's invariant: the nodes before i are placed, the firsts are those of them, the entries from i on are
-- those of the funclets, and the next copy is block `base`. Assumes nothing.
use mathlib.Core.Path.{◌≡◌}
use Prim.Native.Nat.{ℕ, ◌≤◌, ◌<◌}
use lib.ListN.{length, get_or}
use Rattle.image.specs.Image.{routes_in}
use Rattle.graph.specs.Lent.{held_of}
use Rattle.addition.specs.Instance.{entry_block}
use Rattle.unwind.specs.Placed.{funclet_at, SameSizes, Firsts}
use Rattle.unwind.proofs.PlaceLaws.{PlacedTo}
use Rattle.unwind.proofs.place.place_nodes.Given as goal

abbrev pub invariant-loop-i : goal.invariant-loop-i
invariant-loop-i l = (l.base ≤ 1024) × SameSizes l.initial.bases l.initial.entries l.initial.parts l.bases l.entries l.parts × PlacedTo (held_of l.g).graph (routes_in l.s l.y) l.nodes l.n l.bases l.entries l.parts l.i l.base
    × Firsts (held_of l.g).graph (routes_in l.s l.y) l.nodes l.firsts l.i × (length l.firsts ≡ length l.initial.firsts)
    × ((j : ℕ) → l.i ≤ j → j < l.n → get_or l.entries j 0 ≡ entry_block (held_of l.g).graph (funclet_at (routes_in l.s l.y) l.nodes j))
