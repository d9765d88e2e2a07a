-- `check_leads` meets its contract. The loop's invariant: the instructions before p lead their blocks where the range has them, and
-- b is the first built block that does not begin before p. Assumes nothing.
use mathlib.Core.Path.{◌≡◌}
use mathlib.Core.List.{List}
use Prim.Native.Nat.{ℕ}
use Rattle.image.specs.Refusal.{clear, checks}
use Rattle.image.specs.Deal.{UnwindPath}
use Rattle.graph.specs.Lent.{held_of}
use Rattle.graph.specs.Table.{below}
use Rattle.unwind.specs.Stands.{Before, route_of}
use Rattle.addition.specs.Add.{range_leads}
use Rattle.unwind.proofs.checks.check_leads.Given as goal

abbrev pub invariant-loop-p : goal.invariant-loop-p
invariant-loop-p l = Before (held_of l.g).graph l.built l.p l.b × ((start end : ℕ) → l.first ≡ below (held_of l.g).graph.table start → (ps : List UnwindPath) → checks (range_leads (held_of l.g).graph (route_of start end ps)) l.p ≡ clear)
