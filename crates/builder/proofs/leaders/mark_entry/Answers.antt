-- The first, and the start that the header names. Assumes nothing.
use mathlib.Core.Bool.{◌&&◌, ◌||◌}
use mathlib.Core.Path.{ap}
use Prim.Native.Nat.{ℕ}
use lib.Dec.{eqb}
use Rattle.builder.specs.Code.{image_of}
use Rattle.graph.specs.Leaders.{entry_mark}
use Rattle.graph.proofs.TableLaws.{entry_address}
use Rattle.builder.proofs.MarkLaws.{few, mark_then, mark_as, mark_within}
use Rattle.builder.proofs.leaders.mark_entry.Goals as goal

pub returns : goal.returns
unfolding entry_mark
returns c = let m = image_of c.args.checked.now.code in
    mark_as (entry_mark m) (λ p h. ap (λ (b : ℕ). eqb p 0 || (m.header.has_entry && eqb b m.header.entry)) (entry_address m p))
    (mark_then (mark_within _ (few _ c.args.checked.now.passed) c.mark_at.ensures) c.mark_target_if.ensures)
