use mathlib.Core.Path.{◌≡◌, sym, subst}
use mathlib.Core.List.{[]}
use Prim.Native.Nat.{ℕ, ◌+◌}
use native.Mathlib.Omega.{arith}
use Rattle.image.specs.Image.{table}
use Rattle.unwind.specs.Nodes.{branch_in}
use Rattle.unwind.specs.Gather.{end_number, end_exits}
use Rattle.unwind.specs.Flags.{leap_to, HopStands}
use Rattle.unwind.proofs.WantLaws.{hops_join, wants_none, want_next}
use Rattle.unwind.proofs.wants.want_ends.Goals as goal

pub loop-k-init : goal.loop-k-init
unfolding end_exits table
loop-k-init c = (omega arith, c.requires.2, λ m ends. wants_none c.args.h.now c.args.g.now c.args.done.now)

pub end_number-t-requires : goal.end_number-t-requires
end_number-t-requires c = (c.requires.3, omega (arith, c.requires.4, c.loop-k-test.true))

pub want-requires : goal.want-requires
want-requires c = (c.requires.0, subst (λ (t : ℕ). HopStands c.args.h.now (leap_to c.args.b t)) (sym c.end_number-t.ensures.0) (c.requires.1 c.loop-k.k c.loop-k-test.true), c.loop-k.invariant.1)

pub loop-k-preserved : goal.loop-k-preserved
unfolding end_exits
loop-k-preserved c = (
  omega (arith, c.loop-k-test.true),
  hops_join (c.want.ensures []).runs c.loop-k.invariant.1,
  λ m ends. want_next m c.args.r c.args.b (λ j. branch_in ends (c.args.first + j)) (λ j. end_number c.args.b c.args.landings.now (c.args.first + j)) c.loop-k.k _ c.end_number-t.ensures.0 (c.loop-k.invariant.2 m ends) c.want.ensures,
)

pub returns : goal.returns
returns c = let all : c.loop-k.k ≡ c.args.count = omega (arith, c.loop-k.invariant.0) in
    rw all at c.loop-k.invariant.2
