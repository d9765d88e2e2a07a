-- `repeats_built` meets its contract. The invariant: a built block that begins as b does stands from lo on and before hi.
-- Assumes nothing.
use Prim.Native.Nat.{◌-◌, ◌≤◌}
use Rattle.graph.specs.Lent.{held_of}
use Rattle.graph.proofs.RuleLaws.{Between}
use Rattle.graph.proofs.rule.repeats_built.Given as goal

abbrev pub invariant-loop-lo : goal.invariant-loop-lo
invariant-loop-lo l = (l.lo ≤ l.hi) × (l.hi ≤ l.built) × Between (held_of l.g).graph l.b l.built l.lo l.hi

abbrev pub decreases-loop-lo : goal.decreases-loop-lo
decreases-loop-lo l = l.hi - l.lo
