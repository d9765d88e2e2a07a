-- `lowest_below` meets its contract. The loop's invariant: none of the first 64 i blocks is there. Assumes nothing.
use mathlib.Core.Path.{◌≡◌}
use mathlib.Core.Bool.{false}
use Prim.Native.Nat.{ℕ, ◌*◌, ◌≤◌, ◌<◌}
use Rattle.graph.specs.BlockSet.{member}
use Rattle.graph.proofs.blockset.lowest_below.Given as goal

abbrev pub invariant-loop-i : goal.invariant-loop-i
invariant-loop-i l = (c : ℕ) → 0 ≤ c → c < 64 * l.i → member l.w c ≡ false
