-- `put_each` meets its contract. The loop's invariant: the first j tags are put. Assumes nothing.
use mathlib.Core.Path.{◌≡◌}
use mathlib.Core.List.{map}
use Prim.Native.Nat.{◌+◌, ◌*◌, ◌≤◌}
use lib.ListN.{length}
use Rattle.image.specs.Image.{routes_in}
use Rattle.unwind.specs.Nodes.{tags_in}
use Rattle.text.specs.declared.field.Field.TheVariants.{Number}
use Rattle.text.specs.Line.{fields}
use Rattle.text.specs.Put.{Puts}
use Rattle.text.proofs.hops.put_each.Given as goal

abbrev pub invariant-loop-j : goal.invariant-loop-j
invariant-loop-j l = record {
  put : Puts (fields (map Number (tags_in (routes_in l.s l.y) l.step l.j))) l.initial.out l.at l.out l.next;
  near : l.next ≤ l.at + 21 * l.j;
  room : length l.out ≡ length l.initial.out;
}
