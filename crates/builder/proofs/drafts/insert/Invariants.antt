-- `insert` meets its contract. The loop's invariant: with `next` and those not yet moved behind it, the list is what it is to be.
-- Assumes nothing.
use mathlib.Core.Path.{◌≡◌}
use mathlib.Core.List.{◌∷◌, ◌++◌}
use Prim.Native.Nat.{ℕ, ◌-◌, ◌≤◌, ◌<◌}
use lib.ListN.{length, get_or, take, drop}
use Rattle.builder.specs.Drafts.{put}
use Rattle.builder.proofs.drafts.insert.Given as goal

abbrev pub invariant-loop-k : goal.invariant-loop-k
invariant-loop-k l = let gs = take l.count l.initial.list in
    (l.j ≤ l.k) × (l.k ≤ l.count) × (length l.list ≡ 32) × (l.next < 32) × ((i : ℕ) → get_or l.list i 0 < 32) × ((i : ℕ) → l.k ≤ i → get_or l.list i 0 ≡ get_or l.initial.list i 0) × (take l.k l.list ++ l.next ∷ drop l.k gs ≡ put l.j l.h gs)

abbrev pub decreases-loop-k : goal.decreases-loop-k
decreases-loop-k l = l.count - l.k
