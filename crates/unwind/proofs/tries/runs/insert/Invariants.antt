-- `insert` meets its contract. The invariant: the branches from k on stand one further, and those before it as they did.
-- Assumes nothing.
use mathlib.Core.Path.{◌≡◌}
use Prim.Native.Nat.{ℕ, ◌+◌, ◌≤◌, ◌<◌}
use lib.ListN.{length}
use Rattle.unwind.specs.Nodes.{branch_in}
use Rattle.unwind.proofs.tries.runs.insert.Given as goal

abbrev pub invariant-loop-k : goal.invariant-loop-k
invariant-loop-k l = (l.p ≤ l.k) × (length l.list ≡ length l.initial.list) × ((j : ℕ) → j < l.k → branch_in l.list j ≡ branch_in l.initial.list j) × ((j : ℕ) → l.k ≤ j → j < l.n → branch_in l.list (j + 1) ≡ branch_in l.initial.list j)
