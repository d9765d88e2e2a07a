-- The invariant: the entries before p are stored. Assumes nothing.
use Prim.Native.Nat.{◌-◌, ◌≤◌}
use lib.ListN.{take}
use Rattle.builder.specs.Code.{image_of}
use Rattle.graph.specs.Transfer.{table_of}
use Rattle.graph.specs.Lent.{held_of}
use Rattle.graph.specs.Stored.{Stored}
use Rattle.graph.specs.Adding.{with_table}
use Rattle.builder.proofs.blocks.store_table.Given as goal

abbrev pub invariant-loop-p : goal.invariant-loop-p
invariant-loop-p l = (l.p ≤ l.n) × Stored l.initial.g l.g (with_table (held_of l.initial.g) (take l.p (table_of (image_of l.code))))

abbrev pub decreases-loop-p : goal.decreases-loop-p
decreases-loop-p l = l.n - l.p
