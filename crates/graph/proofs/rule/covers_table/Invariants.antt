-- `covers_table` meets its contract. The loop's invariant: the blocks passed are in place, and the table is not full before i
-- unless i is 0. Assumes nothing.
use mathlib.Core.Path.{◌≡◌}
use mathlib.Core.Bool.{true}
use mathlib.Core.Logic.{◌⊎◌}
use Prim.Native.Nat.{◌≤◌, ◌<◌}
use lib.ListN.{length}
use Rattle.graph.specs.Fold.{all}
use Rattle.graph.specs.Lent.{held_of}
use Rattle.graph.specs.WellFormed.{filled}
use Rattle.graph.proofs.RuleLaws.{in_place}
use Rattle.graph.proofs.rule.covers_table.Given as goal

abbrev pub invariant-loop-b : goal.invariant-loop-b
invariant-loop-b l =
    record {
      run : l.filled ≡ filled (held_of l.g).graph l.b-index;
      fits : l.filled ≤ length (held_of l.g).graph.table;
      placed : all (in_place (held_of l.g).graph) l.b-index ≡ true;
      unfilled : (l.b-index ≡ 0) ⊎ (filled (held_of l.g).graph l.b-index < length (held_of l.g).graph.table);
    }
