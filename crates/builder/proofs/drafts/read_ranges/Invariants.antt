-- `read_ranges` meets its contract. The loop's invariant: the arrays hold the ranges of the handlers passed. Assumes nothing.
use Prim.Native.Nat.{◌-◌, ◌≤◌}
use Rattle.builder.specs.Code.{image_of}
use Rattle.graph.specs.Leaders.{handler_at}
use Rattle.builder.proofs.DraftLaws.{Filled}
use Rattle.builder.proofs.drafts.read_ranges.Given as goal

abbrev pub invariant-loop-h : goal.invariant-loop-h
invariant-loop-h l = let m = image_of l.code in
    (l.h ≤ l.n) × (l.n ≤ 32) × Filled (λ i. (handler_at m i).start) l.h l.starts × Filled (λ i. (handler_at m i).end) l.h l.ends

abbrev pub decreases-loop-h : goal.decreases-loop-h
decreases-loop-h l = l.n - l.h
