-- Nothing is told of the hints but that they stay as many. Assumes nothing.
use mathlib.Core.Path.{◌≡◌}
use lib.ListN.{length}
use Rattle.unwind.proofs.blocks.hint_blocks.Given as goal

abbrev pub invariant-loop-b : goal.invariant-loop-b
invariant-loop-b l = length l.hints ≡ length l.initial.hints
