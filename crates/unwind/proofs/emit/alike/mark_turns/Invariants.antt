-- `mark_turns` meets its contract. The invariant: the words passed are marked. Assumes nothing.
use mathlib.Core.Path.{◌≡◌}
use Prim.Native.Nat.{◌+◌, ◌/◌, ◌≤◌}
use lib.ListN.{length}
use Rattle.unwind.specs.Placed.{returns_in}
use Rattle.unwind.proofs.AlikeLaws.{Marked}
use Rattle.unwind.proofs.emit.alike.mark_turns.Given as goal

abbrev pub invariant-loop-k : goal.invariant-loop-k
invariant-loop-k l = (l.k ≤ (l.blocks + 63) / 64) × (length l.turns ≡ 16) × Marked l.guards l.routes (returns_in l.parts l.returners) l.nodes l.turns l.k
