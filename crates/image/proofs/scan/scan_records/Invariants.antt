-- The records before i are clear, with so many children, and record i stands at `at`. Assumes nothing.
use mathlib.Core.Path.{◌≡◌}
use Prim.Native.Nat.{◌+◌, ◌*◌, ◌-◌, ◌≤◌}
use lib.ListN.{length}
use Rattle.image.specs.Refusal.{clear}
use Rattle.image.specs.Read.{width_of, records_form, children_in}
use Rattle.image.proofs.scan.scan_records.Given as goal

abbrev pub invariant-loop-i : goal.invariant-loop-i
invariant-loop-i g l =
    record {
      within : l.i ≤ l.n;
      place : l.at ≡ l.base + width_of g.R.Record.kind * l.i;
      least : l.base + 9 * l.i ≤ l.at;
      most : l.at ≤ l.base + 31 * l.i;
      forms : records_form g.R.Record.kind l.s l.base l.i ≡ clear;
      sum : l.children ≡ children_in g.R.Record.kind l.s l.base l.i;
      few : l.children ≤ 4294967296 * l.i;
      there : l.at ≤ length l.s;
    }

abbrev pub decreases-loop-i : goal.decreases-loop-i
decreases-loop-i g l = l.n - l.i
