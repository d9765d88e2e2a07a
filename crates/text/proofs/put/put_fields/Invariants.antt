-- `put_fields` meets its contract. The loop's invariant: the fields so far are put. Assumes nothing.
use mathlib.Core.Path.{◌≡◌}
use Prim.Native.Nat.{◌+◌, ◌*◌, ◌≤◌}
use lib.ListN.{length, take}
use Rattle.text.specs.Line.{fields}
use Rattle.text.specs.Put.{Puts}
use Rattle.text.proofs.put.put_fields.Given as goal

abbrev pub invariant-loop-f : goal.invariant-loop-f
invariant-loop-f l = record {
  put : Puts (fields (take l.f-index l.more)) l.initial.out l.at l.out l.next;
  near : l.next ≤ l.at + 21 * l.f-index;
  room : length l.out ≡ length l.initial.out;
}
