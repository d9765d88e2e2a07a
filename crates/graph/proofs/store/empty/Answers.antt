-- `empty` meets its contract. Assumes nothing.
use mathlib.Core.Path.{refl}
use Rattle.image.specs.Image.{table}
use Rattle.graph.specs.Lent.{held_of}
use Rattle.graph.proofs.store.empty.Goals as goal

pub returns : goal.returns
unfolding held_of table
returns c = record { holds = refl; kept = record { spare = refl; table = refl; blocks = refl; edges = refl; regions = refl; handlers = refl; unresolved = refl; calls = refl } }
