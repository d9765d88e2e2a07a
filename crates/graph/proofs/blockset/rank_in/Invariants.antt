-- `rank_in` meets its contract. The loop's invariant: b is none of the first 64 i blocks, and n is how many of these there are.
-- Assumes nothing.
use mathlib.Core.Path.{◌≡◌}
use Prim.Native.Nat.{◌*◌, ◌≤◌}
use Rattle.graph.specs.Fold.{count}
use Rattle.graph.specs.BlockSet.{member}
use Rattle.graph.proofs.blockset.rank_in.Given as goal

abbrev pub invariant-loop-i : goal.invariant-loop-i
invariant-loop-i l = record { past : 64 * l.i ≤ l.b; few : l.n ≤ 64 * l.i; counted : l.n ≡ count (member l.w) (64 * l.i) }
