-- `mark_wanted` meets its contract. Assumes nothing.
use Prim.Native.Nat.{◌%◌}
use native.Mathlib.Omega.{arith}
use borrow.Author.Rules.{rules}
use Rattle.graph.specs.BlockSet.{member}
use Rattle.graph.proofs.Bit.{one_shifted}
use Rattle.unwind.proofs.FlagLaws.{flag-set}
use Rattle.unwind.proofs.wants.flags.mark_wanted.Goals as goal

pub returns : goal.returns
unfolding member
returns c = (search rules, rw (one_shifted (c.args.k % 64) (omega arith)) (flag-set c.args.done.now c.args.k _ c.requires))
