-- `follow` meets its contract. The loop's invariant: in the bounded graph the links of b are followed up to `at`, and no set but i
-- changed. Assumes nothing.
use Prim.Native.Nat.{ℕ}
use Rattle.graph.specs.Lent.{held_of}
use Rattle.graph.proofs.SearchLaws.{Going, togo}
use Rattle.unwind.specs.PartSearch.{bounded}
use Rattle.unwind.specs.Placed.{set_at, SetChanged}
use Rattle.unwind.proofs.part.follow.Given as goal

abbrev pub invariant-loop-at : goal.invariant-loop-at
invariant-loop-at l = ((e : ℕ) → Going (bounded (held_of l.g).graph l.barriers e) l.b l.at (set_at l.initial.parts l.i) l.initial.pending (set_at l.parts l.i) l.pending) × SetChanged l.initial.parts l.i l.parts

abbrev pub decreases-loop-at : goal.decreases-loop-at
decreases-loop-at l = togo (bounded (held_of l.g).graph l.barriers 0) l.at
