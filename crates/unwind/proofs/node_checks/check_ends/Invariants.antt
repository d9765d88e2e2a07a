-- `check_ends` meets its contract. The loop's invariant: the ends before k are clear. Assumes nothing.
use mathlib.Core.Path.{◌≡◌}
use Rattle.image.specs.Refusal.{clear, checks}
use Rattle.image.specs.Image.{routes_in}
use Rattle.graph.specs.Lent.{held_of}
use Rattle.unwind.proofs.NodeChecks.{ends_check}
use Rattle.unwind.proofs.node_checks.check_ends.Given as goal

abbrev pub invariant-loop-k : goal.invariant-loop-k
invariant-loop-k l = checks (ends_check (held_of l.g).graph (routes_in l.s l.y) l.ends l.first) l.k ≡ clear
