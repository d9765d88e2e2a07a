use mathlib.Core.Path.{refl, ap, ◌∙◌}
use Prim.Native.Nat.{ℕ, ◌+◌}
use native.Mathlib.Omega.{arith}
use Rattle.image.specs.Image.{routes_in, table}
use Rattle.unwind.specs.declared.tries.store.Branch.{Branch}
use Rattle.unwind.specs.Nodes.{branch_in}
use Rattle.unwind.specs.Gather.{exit_to}
use Rattle.unwind.proofs.GatherLaws.{gather_none, gather_next}
use Rattle.unwind.proofs.emit.gather.gather_branches.Goals as goal

pub loop-k-init : goal.loop-k-init
unfolding table
loop-k-init g c = (omega arith, omega arith, refl, c.requires.ordered, λ f h b. gather_none (routes_in c.args.s.now c.args.y) b c.args.exits.now c.args.held c.requires.ordered)

pub loop-k-preserved : goal.loop-k-preserved
loop-k-preserved g c = let put = c.put_entry-n.ensures in
    let there : ℕ → Branch = λ k. branch_in c.args.list.now (c.args.first + k) in (
      omega (arith, c.loop-k-test.true),
      omega (arith, put.most, c.loop-k.invariant.1),
      put.long ∙ c.loop-k.invariant.2,
      put.ordered,
      λ f h b.
          gather_next (routes_in c.args.s.now c.args.y) b c.args.exits.now c.args.held (λ k. exit_to (routes_in c.args.s.now c.args.y) b (there k) (f k)) c.loop-k.k c.entry_to.result (c.loop-k.invariant.4 f h b) put
          (c.entry_to.ensures.is (routes_in c.args.s.now c.args.y) b
          ∙ ap (λ (e : Branch). exit_to (routes_in c.args.s.now c.args.y) b e c.end_of-end.result) c.branch_in-e.ensures.is
          ∙ ap (exit_to (routes_in c.args.s.now c.args.y) b (there c.loop-k.k)) (h c.loop-k.k c.end_of-end.result c.loop-k-test.true (rw (← c.branch_in-e.ensures.is) c.end_of-end.ensures))),
    )
