-- `same_steps` meets its contract. The invariant: the steps passed are the same, so that those left decide. Assumes nothing.
use mathlib.Core.Path.{◌≡◌}
use Prim.Native.Nat.{◌+◌, ◌-◌, ◌≤◌}
use Rattle.image.specs.Image.{routes_in}
use Rattle.unwind.specs.Interning.{same_steps}
use Rattle.unwind.proofs.tries.paths.same_steps.Given as goal

abbrev pub invariant-loop-i : goal.invariant-loop-i
invariant-loop-i l = (l.i ≤ l.n) × (same_steps (routes_in l.s l.y) l.a l.b l.n ≡ same_steps (routes_in l.s l.y) (l.a + l.i) (l.b + l.i) (l.n - l.i))
