use mathlib.Core.Path.{◌≡◌}
use native.Mathlib.Omega.{arith}
use Rattle.image.specs.Image.{routes_in}
use Rattle.unwind.proofs.TrieLaid.{edges_start, edges_more}
use borrow.Author.Rules.{rules}
use Rattle.unwind.proofs.tries.lay.lay_edges.Goals as goal

pub loop-k-init : goal.loop-k-init
loop-k-init c = (search rules, edges_start _ _ _ _ _)

pub put_sorted-count-requires-clause-room : goal.put_sorted-count-requires-clause-room
put_sorted-count-requires-clause-room c = let so_far = c.loop-k.invariant.1 in omega (arith, so_far.laid.most, so_far.long, c.requires.room)

pub loop-k-preserved : goal.loop-k-preserved
loop-k-preserved c = let m = routes_in c.args.s.now c.args.y in (
  search rules,
  edges_more m c.args.stack.now c.args.top c.args.edges.now c.args.at c.loop-k.edges _ c.loop-k.count _ c.loop-k.k c.branch_in.result c.loop-k.invariant.1 c.branch_in.ensures.is c.put_sorted-count.auto.list c.put_sorted-count.ensures,
)

pub shape_of-edges : goal.shape_of-edges
shape_of-edges c = c.loop-k.invariant.1.long

pub returns : goal.returns
returns c = let m = routes_in c.args.s.now c.args.y in
    let all : c.loop-k.k ≡ c.args.n = omega arith in
    rw all at c.loop-k.invariant.1.laid
