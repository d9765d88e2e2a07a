use mathlib.Core.Path.{◌≡◌, ap}
use mathlib.Core.Logic.{⊎_elim}
use native.Mathlib.Omega.{arith}
use Rattle.unwind.specs.declared.tries.store.Branch.{Branch}
use Rattle.unwind.proofs.LowerLaws.{children_start, children_new, children_still}
use Rattle.unwind.proofs.tries.nodes.behind_children.Goals as goal

pub loop-k-init : goal.loop-k-init
loop-k-init c = (omega arith, children_start _ _)

pub overflow_add-low : goal.overflow_add-low
overflow_add-low c = omega (arith, c.branch_in-child.ensures.small.what)

pub loop-k-preserved : goal.loop-k-preserved
loop-k-preserved c = let child = ap (λ (b : Branch). b.what) c.branch_in-child.ensures.is in (
  omega arith,
  ⊎_elim (λ w. children_new c.args.edges.now c.args.first c.loop-k.k _ _ child w.low-is) (λ w. children_still c.args.edges.now c.args.first c.loop-k.k _ c.loop-k.low w.low-is c.loop-k.invariant.1) c.if-low-child.branch-raw,
)

pub returns : goal.returns
returns c = let all : c.loop-k.k ≡ c.args.n = omega arith in
    rw all at c.loop-k.invariant.1
