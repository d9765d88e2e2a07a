-- The invariant: the instructions before p are clear, and this is the greatest of their ends. Assumes nothing.
use mathlib.Core.Path.{◌≡◌}
use Prim.Native.Nat.{◌-◌, ◌≤◌}
use lib.ListN.{length, take}
use Rattle.graph.specs.Transfer.{entries_of}
use Rattle.image.specs.Refusal.{clear}
use Rattle.graph.specs.Fold.{checks}
use Rattle.graph.specs.Table.{code_end_of}
use Rattle.graph.specs.Build.{instruction_check}
use Rattle.builder.proofs.checks.check_table.Given as goal

abbrev pub invariant-loop-p : goal.invariant-loop-p
invariant-loop-p l = (l.p ≤ l.n) × (checks (instruction_check (entries_of l.table)) l.p ≡ clear) × (length l.hints ≡ length l.initial.hints) × (l.greatest ≡ code_end_of (take l.p (entries_of l.table)))

abbrev pub decreases-loop-p : goal.decreases-loop-p
decreases-loop-p l = l.n - l.p
