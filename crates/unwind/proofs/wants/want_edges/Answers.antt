use mathlib.Core.Path.{◌≡◌, sym, ap, ◌∙◌, subst}
use mathlib.Core.List.{[]}
use Prim.Native.Nat.{ℕ, ◌+◌}
use native.Mathlib.Omega.{arith}
use lib.ListN.{get_or}
use Rattle.image.specs.Image.{table}
use Rattle.unwind.specs.declared.tries.store.Branch.{Branch}
use Rattle.unwind.specs.Nodes.{branch_in}
use Rattle.unwind.specs.Gather.{edge_exits}
use Rattle.unwind.specs.Flags.{leap_to, HopStands}
use Rattle.unwind.proofs.WantLaws.{hops_join, wants_none, want_next}
use Rattle.unwind.proofs.wants.want_edges.Goals as goal

pub loop-k-init : goal.loop-k-init
unfolding edge_exits table
loop-k-init c = (omega arith, c.requires.2, λ m. wants_none c.args.h.now c.args.g.now c.args.done.now)

pub number_in-t-requires : goal.number_in-t-requires
number_in-t-requires c = omega (arith, c.requires.4 c.loop-k.k c.loop-k-test.true, ap (λ (e : Branch). e.what) c.branch_in-e.ensures.is)

pub want-requires : goal.want-requires
want-requires c = let is = c.number_in-t.ensures.0 ∙ ap (λ (e : Branch). get_or c.args.heads.now e.what 0) c.branch_in-e.ensures.is in
    (c.requires.0, subst (λ (t : ℕ). HopStands c.args.h.now (leap_to c.args.b t)) (sym is) (c.requires.1 c.loop-k.k c.loop-k-test.true), c.loop-k.invariant.1)

pub loop-k-preserved : goal.loop-k-preserved
unfolding edge_exits
loop-k-preserved c = let there : ℕ → Branch = λ j. branch_in c.args.edges.now (c.args.first + j) in
    let is = c.number_in-t.ensures.0 ∙ ap (λ (e : Branch). get_or c.args.heads.now e.what 0) c.branch_in-e.ensures.is in (
      omega (arith, c.loop-k-test.true),
      hops_join (c.want.ensures []).runs c.loop-k.invariant.1,
      λ m. want_next m c.args.r c.args.b there (λ j. get_or c.args.heads.now (there j).what 0) c.loop-k.k _ is (c.loop-k.invariant.2 m) c.want.ensures,
    )

pub returns : goal.returns
returns c = let all : c.loop-k.k ≡ c.args.count = omega (arith, c.loop-k.invariant.0) in
    rw all at c.loop-k.invariant.2
