-- `merge_key` meets its contract. Assumes nothing.
use mathlib.Core.Path.{◌≡◌, sym, ap, ◌∙◌}
use mathlib.Core.Bool.{Bool, cond}
use Prim.Native.Nat.{compare, Ordering}
use Rattle.std.specs.declared.cmp.Ordering.{Ordering as StdOrdering}
use Rattle.std.proofs.Common.{Option}
use Rattle.image.specs.Image.{RouteImage, routes_in}
use Rattle.unwind.specs.declared.tries.keys.Key.{Key}
use Rattle.addition.specs.Order.{compare_tagged}
use Rattle.unwind.specs.Interning.{ordering_of, after}
use Rattle.unwind.specs.Keys.{key_in, key_of, followed_by, merged_on, merged}
use Rattle.unwind.proofs.tries.keys.merge_key.Goals as goal

-- the keys were compared
compared : (m : RouteImage) (last : Option Key) (k b : Key) {r o : StdOrdering} → ordering_of r ≡ compare_tagged compare (key_in m k) (key_in m b) → r ≡ o → merged_on (ordering_of o) (after (compare_tagged compare) (key_of m last) (key_in m k)) k b ≡ merged m last k b
unfolding merged
compared m last k b e p = ap (λ (o : Ordering). merged_on o (after (compare_tagged compare) (key_of m last) (key_in m k)) k b) (sym (ap ordering_of p) ∙ e)

pub returns-then-is_after : goal.returns-then-is_after
returns-then-is_after c = ap (λ (late : Bool). cond late (followed_by c.args.key) c.args.best) (sym c.if-is_after.true ∙ c.is_after.ensures)
    ∙ compared (routes_in c.args.s.now c.args.y) c.args.last c.args.key c.args.best c.compare_keys.ensures c.in-Less.is

pub returns-in-Greater : goal.returns-in-Greater
returns-in-Greater c = compared (routes_in c.args.s.now c.args.y) c.args.last c.args.key c.args.best c.compare_keys.ensures c.in-Greater.is

pub returns-in-Equal : goal.returns-in-Equal
returns-in-Equal c = compared (routes_in c.args.s.now c.args.y) c.args.last c.args.key c.args.best c.compare_keys.ensures c.in-Equal.is

pub returns-else-is_after : goal.returns-else-is_after
returns-else-is_after c = ap (λ (late : Bool). cond late (followed_by c.args.key) c.args.best) (sym c.if-is_after.false ∙ c.is_after.ensures)
    ∙ compared (routes_in c.args.s.now c.args.y) c.args.last c.args.key c.args.best c.compare_keys.ensures c.in-Less.is
