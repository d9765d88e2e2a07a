-- `put_block` meets its contract: the word and its digit are the set's. Assumes nothing.
use Prim.Native.Nat.{◌%◌}
use native.Mathlib.Omega.{arith}
use Rattle.graph.proofs.Bit.{one_shifted}
use Rattle.unwind.proofs.SlotLaws.{put-including}
use Rattle.unwind.proofs.slots.put_block.Goals as goal

pub returns : goal.returns
returns c = rw (one_shifted (c.args.b % 64) (omega arith)) (put-including c.args.sets.now c.args.i c.args.b c.requires.1 c.requires.0)
