-- `built_count` meets its contract. The loop's invariant: what is left of the table, and it is not full before i unless i is 0.
-- Assumes nothing.
use mathlib.Core.Path.{◌≡◌}
use mathlib.Core.Logic.{◌⊎◌}
use Prim.Native.Nat.{◌+◌, ◌<◌}
use lib.ListN.{length}
use Rattle.graph.specs.Lent.{held_of}
use Rattle.graph.specs.WellFormed.{filled}
use Rattle.graph.proofs.rule.built_count.Given as goal

abbrev pub invariant-loop-i : goal.invariant-loop-i
invariant-loop-i l =
    record {
      rest : filled (held_of l.g).graph l.i + l.left ≡ length (held_of l.g).graph.table;
      unfilled : (l.i ≡ 0) ⊎ (filled (held_of l.g).graph l.i < length (held_of l.g).graph.table);
    }
