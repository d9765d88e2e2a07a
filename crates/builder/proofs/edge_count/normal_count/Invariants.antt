-- The invariant: the cursor stands at p, and the edges of the instructions before p are counted. Assumes nothing.
use mathlib.Core.Path.{◌≡◌}
use mathlib.Core.Bool.{cond}
use mathlib.Core.List.{[]}
use Prim.Native.Nat.{◌-◌, ◌≤◌}
use lib.ListN.{length}
use Rattle.builder.specs.Code.{image_of}
use Rattle.graph.specs.Fold.{flat}
use Rattle.graph.specs.Blocks.{is_terminator}
use Rattle.graph.specs.Edges.{edges_at}
use Rattle.builder.specs.Cursor.{cursor_at}
use Rattle.builder.proofs.edge_count.normal_count.Given as goal

abbrev pub invariant-loop-p : goal.invariant-loop-p
invariant-loop-p l = (l.p ≤ l.n) × (l.c ≡ cursor_at (image_of l.code) l.p) × (l.edges ≡ length (flat (λ q. cond (is_terminator (image_of l.code) q) (edges_at (image_of l.code) q) []) l.p))

abbrev pub decreases-loop-p : goal.decreases-loop-p
decreases-loop-p l = l.n - l.p
