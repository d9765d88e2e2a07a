use mathlib.Core.Path.{◌≡◌}
use Prim.Native.Nat.{◌+◌}
use Rattle.builder.specs.Code.{image_of}
use Rattle.builder.specs.Marks.{edge_target, edge_mark}
use Rattle.builder.proofs.MarkLaws.{marks_none, marks_more}
use native.Mathlib.Omega.{arith}
use borrow.Author.Rules.{rules}
use Rattle.builder.proofs.leaders.flows.mark_edges.Goals as goal

pub loop-k-init : goal.loop-k-init
loop-k-init c = (search rules, marks_none (λ j p. edge_target _ (_ + j) p))

pub loop-k-preserved : goal.loop-k-preserved
loop-k-preserved c = (search rules, marks_more (λ j p. edge_target (image_of c.args.checked.now.code) (c.args.first + j) p) c.loop-k.k c.loop-k.invariant.1 c.mark_edge.ensures)

pub returns : goal.returns
unfolding edge_mark
returns c = let all : c.loop-k.k ≡ c.args.n = omega arith in
    rw all at c.loop-k.invariant.1
