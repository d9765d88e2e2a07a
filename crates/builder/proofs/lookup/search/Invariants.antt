-- The invariant: wherever the address stands, it stands from lo on and before hi. Assumes nothing.
use Prim.Native.Nat.{◌-◌, ◌≤◌}
use Rattle.builder.specs.Code.{image_of}
use Rattle.graph.specs.Transfer.{table_of, size}
use Rattle.graph.proofs.TableLaws.{Between}
use Rattle.builder.proofs.lookup.search.Given as goal

abbrev pub invariant-loop-lo : goal.invariant-loop-lo
invariant-loop-lo l = (l.lo ≤ l.hi) × (l.hi ≤ size (image_of l.code)) × Between (table_of (image_of l.code)) l.a l.lo l.hi

abbrev pub decreases-loop-lo : goal.decreases-loop-lo
decreases-loop-lo l = l.hi - l.lo
