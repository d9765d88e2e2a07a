-- The invariant: the edges of the handlers before h are counted. Assumes nothing.
use mathlib.Core.Path.{◌≡◌}
use Prim.Native.Nat.{◌-◌, ◌≤◌}
use lib.ListN.{length}
use Rattle.builder.specs.Code.{image_of}
use Rattle.graph.specs.Fold.{flat}
use Rattle.builder.specs.Emit.{handler_edges}
use Rattle.builder.proofs.edge_count.exception_count.Given as goal

abbrev pub invariant-loop-h : goal.invariant-loop-h
invariant-loop-h l = (l.h ≤ l.n) × (l.n ≤ 32) × (l.edges ≡ length (flat (λ k. handler_edges (image_of l.checked.code) k) l.h))

abbrev pub decreases-loop-h : goal.decreases-loop-h
decreases-loop-h l = l.n - l.h
