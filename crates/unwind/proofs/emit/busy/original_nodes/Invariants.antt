-- `original_nodes` meets its contract. The invariant: those of the nodes passed are listed. Assumes nothing.
use mathlib.Core.Path.{◌≡◌}
use Prim.Native.Nat.{◌≤◌}
use lib.ListN.{length}
use Rattle.unwind.specs.Placed.{returns_in}
use Rattle.unwind.specs.Members.{Originals}
use Rattle.unwind.proofs.emit.busy.original_nodes.Given as goal

abbrev pub invariant-loop-i : goal.invariant-loop-i
invariant-loop-i l = (l.i ≤ l.n) × (length l.list ≡ length l.initial.list) × Originals l.bases (returns_in l.parts l.returners) l.list l.i l.w l.count
