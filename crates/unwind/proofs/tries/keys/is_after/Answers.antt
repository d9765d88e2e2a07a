-- `is_after` meets its contract. Assumes nothing.
use mathlib.Core.Path.{◌≡◌, refl, ap, ◌∙◌}
use Rattle.std.specs.declared.cmp.Ordering.{Ordering as StdOrdering}
use Rattle.std.specs.declared.cmp.Ordering.TheVariants.{Less, Equal, Greater}
use Rattle.std.specs.Ordering.{is_lt as is_less}
use Rattle.unwind.specs.Interning.{ordering_of, is_lt}
use Rattle.unwind.specs.Keys.{key_of}
use Rattle.unwind.proofs.tries.keys.is_after.Goals as goal

less : (o : StdOrdering) → is_less o ≡ is_lt (ordering_of o)
less Less = refl
less Equal = refl
less Greater = refl

pub returns-in_default : goal.returns-in_default
unfolding key_of
returns-in_default c = rw c.in_default.is

pub returns : goal.returns
unfolding key_of
returns c = rw c.in-Some.is (c.is_lt.ensures ∙ less c.compare_keys.result ∙ ap is_lt c.compare_keys.ensures)
