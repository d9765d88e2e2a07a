-- `empty_set` meets its contract. Assumes nothing.
use mathlib.Core.Path.{◌≡◌}
use Prim.Native.Nat.{◌+◌, ◌*◌, ◌-◌}
use native.Mathlib.Omega.{arith}
use lib.ListN.{drop, length-drop}
use lib.Seq.{length-take-le}
use Rattle.unwind.proofs.SlotLaws.{set_emptied}
use Rattle.unwind.proofs.slots.empty_set.Goals as goal

pub returns : goal.returns
returns c = let size : 16 * c.args.i + 16 - 16 * c.args.i ≡ 16 = omega arith in
    rw (c.fill.ensures.after (λ y e. e))
    (set_emptied c.args.sets.now c.args.i _ _ size (rw size (length-take-le 16 (drop (16 * c.args.i) c.args.sets.now) (omega (arith, length-drop (16 * c.args.i) c.args.sets.now, c.requires)))) c.requires)
