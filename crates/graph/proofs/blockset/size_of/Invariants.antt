-- `size_of` meets its contract. The loop's invariant: n is how many of the first 64 i blocks there are. Assumes nothing.
use mathlib.Core.Path.{◌≡◌}
use Prim.Native.Nat.{◌*◌, ◌≤◌}
use Rattle.graph.specs.Fold.{count}
use Rattle.graph.specs.BlockSet.{member}
use Rattle.graph.proofs.blockset.size_of.Given as goal

abbrev pub invariant-loop-word : goal.invariant-loop-word
invariant-loop-word l = record { few : l.n ≤ 64 * l.word-index; counted : l.n ≡ count (member l.w) (64 * l.word-index) }
