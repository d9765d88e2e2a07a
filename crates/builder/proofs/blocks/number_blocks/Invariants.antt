-- The invariant: the numbers of the positions before p, and that of the last. Assumes nothing.
use mathlib.Core.Path.{◌≡◌}
use Prim.Native.Nat.{ℕ, ◌-◌, ◌≤◌, ◌<◌, max}
use lib.ListN.{length, get_or}
use Rattle.image.specs.Image.{Image}
use Rattle.graph.specs.Transfer.{size}
use Rattle.graph.specs.Blocks.{block_of}
use Rattle.builder.specs.Marks.{Leading}
use Rattle.builder.proofs.blocks.number_blocks.Given as goal

abbrev pub invariant-loop-p : goal.invariant-loop-p
invariant-loop-p l = (1 ≤ l.p) × (l.p ≤ max 1 l.n) × (l.block < l.p) × (length l.numbers ≡ length l.initial.numbers) × ((m : Image) → size m ≡ l.n → Leading m l.marks → (l.block ≡ block_of m (l.p - 1)) × ((q : ℕ) → q < l.p → get_or l.numbers q 0 ≡ block_of m q))

abbrev pub decreases-loop-p : goal.decreases-loop-p
decreases-loop-p l = l.n - l.p
