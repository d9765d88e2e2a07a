-- The invariant: the cursor stands at p, and what the instructions before p give is added. Assumes nothing.
use mathlib.Core.Path.{◌≡◌}
use mathlib.Core.Bool.{cond}
use mathlib.Core.List.{[]}
use Prim.Native.Nat.{◌-◌, ◌≤◌}
use Rattle.builder.specs.Code.{image_of}
use Rattle.graph.specs.Fold.{flat}
use Rattle.graph.specs.Blocks.{is_terminator}
use Rattle.graph.specs.Edges.{edges_at, unresolved_at}
use Rattle.graph.specs.Adding.{Added}
use Rattle.builder.specs.Cursor.{cursor_at}
use Rattle.builder.proofs.edges.add_normal_edges.Given as goal

abbrev pub invariant-loop-p : goal.invariant-loop-p
invariant-loop-p l = (l.p ≤ l.n) × (l.c ≡ cursor_at (image_of l.numbered.code) l.p) × Added l.initial.g l.g (flat (λ q. cond (is_terminator (image_of l.numbered.code) q) (edges_at (image_of l.numbered.code) q) []) l.p) (flat (λ q. cond (is_terminator (image_of l.numbered.code) q) (unresolved_at (image_of l.numbered.code) q) []) l.p) []

abbrev pub decreases-loop-p : goal.decreases-loop-p
decreases-loop-p l = l.n - l.p
