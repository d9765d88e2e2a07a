-- `set_entry` meets its contract. Assumes nothing.
use mathlib.Core.Path.{refl}
use Rattle.graph.specs.Lent.{held_of}
use Rattle.graph.proofs.StoredLaws.{grows_none}
use Rattle.graph.proofs.store.set_entry.Goals as goal

pub returns : goal.returns
unfolding held_of
returns c = record { holds = refl; grows = grows_none c.args.g.now.counts; kept = record { spare = refl; table = refl; blocks = refl; edges = refl; regions = refl; handlers = refl; unresolved = refl; calls = refl } }
