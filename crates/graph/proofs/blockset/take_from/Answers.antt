-- `take_from` meets its contract: a block that is there has a digit to turn. Assumes nothing.
use mathlib.Core.Path.{◌≡◌, sym, ◌∙◌}
use mathlib.Core.Bool.{true}
use Prim.Native.Nat.{◌%◌, ◌<◌}
use native.Mathlib.Omega.{arith}
use Rattle.graph.specs.BlockSet.{member}
use Rattle.graph.proofs.Bit.{one_shifted}
use Rattle.graph.proofs.BlockLaws.{member_below, excluding_is, excluding-none}
use Rattle.graph.proofs.blockset.take_from.Goals as goal

pub bounds-w-k : goal.bounds-w-k
bounds-w-k c =
    let there : member c.args.w.now c.args.b ≡ true = sym c.has_in.ensures ∙ c.if-has_in.true in
    let below : c.args.b < 1024 = member_below _ _ c.sixteen.ensures there in
    omega (arith, below)

pub bounds-w-k-then-has_in : goal.bounds-w-k-then-has_in
bounds-w-k-then-has_in c =
    let there : member c.args.w.now c.args.b ≡ true = sym c.has_in.ensures ∙ c.if-has_in.true in
    let below : c.args.b < 1024 = member_below _ _ c.sixteen.ensures there in
    omega (arith, below)

pub returns-then-has_in : goal.returns-then-has_in
returns-then-has_in c =
    let there : member c.args.w.now c.args.b ≡ true = sym c.has_in.ensures ∙ c.if-has_in.true in
    let below : c.args.b < 1024 = member_below _ _ c.sixteen.ensures there in
    rw (one_shifted (c.args.b % 64) (omega arith)) (sym (excluding_is c.args.w.now c.sixteen.ensures c.args.b (below) (there)))

pub returns-else-has_in : goal.returns-else-has_in
returns-else-has_in c = sym (excluding-none c.args.w.now c.args.b (sym c.has_in.ensures ∙ c.if-has_in.false))
