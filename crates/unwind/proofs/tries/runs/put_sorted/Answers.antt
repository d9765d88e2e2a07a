-- `put_sorted` meets its contract. Assumes nothing.
use mathlib.Core.Path.{◌≡◌}
use mathlib.Core.List.{List, map}
use Prim.Native.Nat.{ℕ, ◌≤◌, Ordering}
use native.Mathlib.Omega.{arith}
use Rattle.std.proofs.Common.{Option, Some}
use Rattle.image.specs.Image.{routes_in}
use Rattle.unwind.specs.declared.tries.store.Branch.{Branch}
use Rattle.unwind.specs.Nodes.{branches}
use Rattle.unwind.specs.Interning.{ordered, meaning}
use Rattle.unwind.specs.Runs.{SpotOf}
use Rattle.unwind.proofs.TrieRuns.{length_meant, run_present, run_inserted}
use Rattle.unwind.proofs.tries.runs.put_sorted.Goals as goal

-- the place is one of the run's, or behind it
low : {A : Type 0} (cmp : A → A → Ordering) (of : Branch → A) (x : A) (l : List ℕ) (at n : ℕ) {r : Option ℕ} {j : ℕ} → r ≡ Some j → SpotOf cmp x (map of (branches l at n)) r → j ≤ n
low cmp of x l at n e spot = let here = rw e at spot in rw length_meant at here.0

pub overflow_add-at : goal.overflow_add-at
overflow_add-at c = omega (arith, low _ _ _ _ _ _ c.in-Some.is c.spot_of.ensures)

pub insert-requires-clause-within : goal.insert-requires-clause-within
insert-requires-clause-within c = omega (arith, low _ _ _ _ _ _ c.in-Some.is c.spot_of.ensures)

pub returns-in_default : goal.returns-in_default
returns-in_default c = let m = routes_in c.args.s.now c.args.y in
    run_present (ordered c.args.kind) (meaning m c.args.kind) c.args.list.now c.args.at c.args.n c.args.b (rw c.in_default.is at c.spot_of.ensures)

pub returns : goal.returns
returns c = let m = routes_in c.args.s.now c.args.y in
    run_inserted (ordered c.args.kind) (meaning m c.args.kind) c.args.list.now c.args.at c.args.n c.args.b _ _ (rw c.in-Some.is at c.spot_of.ensures) c.insert.ensures
