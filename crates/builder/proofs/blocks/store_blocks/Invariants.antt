-- The invariant: the blocks that end before p are stored, and p's block begins at `first`. Assumes nothing.
use mathlib.Core.Path.{◌≡◌}
use Prim.Native.Nat.{◌-◌, ◌≤◌, ◌<◌}
use Rattle.image.specs.Image.{Image}
use Rattle.graph.specs.Lent.{held_of}
use Rattle.graph.specs.Stored.{Stored}
use Rattle.graph.specs.Adding.{with_blocks}
use Rattle.graph.specs.Fold.{flat}
use Rattle.graph.specs.Transfer.{size}
use Rattle.graph.specs.Blocks.{first_of, block_end}
use Rattle.builder.specs.Marks.{Leading}
use Rattle.builder.proofs.blocks.store_blocks.Given as goal

abbrev pub invariant-loop-p : goal.invariant-loop-p
invariant-loop-p l = (l.p ≤ l.n) × (l.first ≤ l.p) × ((m : Image) → size m ≡ l.n → Leading m l.marks → Stored l.initial.g l.g (with_blocks (held_of l.initial.g) (flat (λ q. block_end m q) l.p)) × (l.p < l.n → l.first ≡ first_of m l.p))

abbrev pub decreases-loop-p : goal.decreases-loop-p
decreases-loop-p l = l.n - l.p
