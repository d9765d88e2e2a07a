-- `set_at` meets its contract. Assumes nothing.
use mathlib.Core.Path.{◌≡◌, sym, ◌∙◌}
use Prim.Native.Nat.{◌+◌, ◌*◌, ◌-◌}
use native.Mathlib.Omega.{arith}
use Rattle.unwind.proofs.SlotLaws.{set_run}
use Rattle.unwind.proofs.slots.set_at.Goals as goal

pub returns : goal.returns
returns c = let size : 16 * c.args.i + 16 - 16 * c.args.i ≡ 16 = omega arith in
    rw size at c.copy_from_slice.ensures.after ∙ sym (set_run c.args.sets.now c.args.i c.requires)
