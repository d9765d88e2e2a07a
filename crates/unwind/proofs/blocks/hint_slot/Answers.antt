-- `hint_slot` has no contract: no product is too great. Assumes nothing.
use Prim.Native.Nat.{◌*◌, ◌%◌}
use native.Mathlib.Omega.{arith}
use Rattle.image.proofs.Checks.{product}
use Rattle.unwind.proofs.blocks.hint_slot.Goals as goal

pub overflow_mul-result : goal.overflow_mul-result
overflow_mul-result c = omega (arith, product (c.args.a % 4294967296 * 2654435769 % 4294967296) (c.args.n % 4294967296) (omega arith) (omega arith))
