-- `put_set` meets its contract. Assumes nothing.
use native.Mathlib.Omega.{arith}
use Rattle.unwind.proofs.SlotLaws.{set_over}
use Rattle.unwind.proofs.slots.put_set.Goals as goal

pub returns : goal.returns
returns c = rw c.copy_from_slice.ensures.after (set_over c.args.sets.now c.args.i _ c.args.w.now (omega arith) c.sixteen.ensures c.requires)
