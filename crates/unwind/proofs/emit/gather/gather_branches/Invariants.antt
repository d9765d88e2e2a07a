-- `gather_branches` meets its contract. The invariant: the branches passed are gathered. Assumes nothing.
use mathlib.Core.Path.{◌≡◌}
use Prim.Native.Nat.{ℕ, ◌+◌, ◌≤◌, ◌<◌}
use lib.ListN.{length}
use Rattle.image.specs.Image.{routes_in}
use Rattle.unwind.specs.Nodes.{branch_in}
use Rattle.unwind.specs.Entries.{Ordered}
use Rattle.unwind.specs.Gather.{branch_exits, Gathers}
use Rattle.unwind.proofs.emit.gather.gather_branches.Given as goal

abbrev pub invariant-loop-k : goal.invariant-loop-k
invariant-loop-k g l = (l.k ≤ l.count) × (l.n ≤ l.held + l.k) × (length l.exits ≡ length l.initial.exits) × Ordered (routes_in l.s l.y) l.exits l.n
    × ((f : ℕ → ℕ) → ((k r : ℕ) → k < l.count → goal.F-post g l.end_of (l.first + k) (branch_in l.list (l.first + k)) r → r ≡ f k) → (b : ℕ) → Gathers (routes_in l.s l.y) b l.initial.exits l.held (branch_exits (routes_in l.s l.y) b l.list f l.first l.k) l.exits l.n)
