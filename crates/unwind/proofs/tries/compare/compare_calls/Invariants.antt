-- `compare_calls` meets its contract. The invariant: the tags passed are equal, so that those left decide. Assumes nothing.
use mathlib.Core.Path.{◌≡◌}
use Prim.Native.Nat.{◌≤◌}
use Rattle.image.specs.Image.{routes_in}
use Rattle.addition.specs.Order.{compare_tags}
use Rattle.unwind.specs.Nodes.{tags_in}
use Rattle.unwind.proofs.TrieCompare.{compared_from}
use Rattle.unwind.proofs.tries.compare.compare_calls.Given as goal

abbrev pub invariant-loop-i : goal.invariant-loop-i
invariant-loop-i l = (l.i ≤ l.n) × (l.i ≤ l.k) × (compared_from (routes_in l.s l.y) l.a l.n l.b l.k l.i ≡ compare_tags (tags_in (routes_in l.s l.y) l.a l.n) (tags_in (routes_in l.s l.y) l.b l.k))
