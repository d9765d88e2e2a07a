-- `store_handlers` meets its contract. The loop's invariant: the handlers passed are stored. Assumes nothing.
use Prim.Native.Nat.{◌-◌, ◌≤◌}
use Rattle.builder.specs.Code.{image_of}
use Rattle.image.specs.Image.{table}
use Rattle.graph.specs.Graph.{held}
use Rattle.graph.specs.Lent.{held_of}
use Rattle.graph.specs.Stored.{Stored}
use Rattle.graph.specs.Regions.{handler_record}
use Rattle.builder.specs.Drafts.{with_handlers}
use Rattle.builder.proofs.regions.store_handlers.Given as goal

abbrev pub invariant-loop-h : goal.invariant-loop-h
invariant-loop-h l = (l.h ≤ l.n) × (l.n ≤ 32) × Stored l.initial.g l.g (held (with_handlers (held_of l.initial.g).graph (table (handler_record (image_of l.numbered.code)) l.h)))

abbrev pub decreases-loop-h : goal.decreases-loop-h
decreases-loop-h l = l.n - l.h
