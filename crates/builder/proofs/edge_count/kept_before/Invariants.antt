-- The invariant: the counts up to p are stored. Assumes nothing.
use mathlib.Core.Path.{◌≡◌}
use Prim.Native.Nat.{ℕ, ◌-◌, ◌≤◌}
use lib.ListN.{length, get_or}
use Rattle.builder.specs.Code.{image_of}
use Rattle.builder.specs.EdgeCount.{kept_before}
use Rattle.builder.proofs.edge_count.kept_before.Given as goal

abbrev pub invariant-loop-p : goal.invariant-loop-p
invariant-loop-p l = (l.p ≤ l.n) × (l.n ≤ 512) × (length l.kept ≡ 513) × ((q : ℕ) → q ≤ l.p → get_or l.kept q 0 ≡ kept_before (image_of l.code) q)

abbrev pub decreases-loop-p : goal.decreases-loop-p
decreases-loop-p l = l.n - l.p
