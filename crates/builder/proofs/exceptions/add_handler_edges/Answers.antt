use mathlib.Core.Path.{◌≡◌}
use Prim.Native.Nat.{◌-◌}
use Rattle.builder.specs.Code.{image_of}
use Rattle.graph.specs.Fold.{flat}
use Rattle.graph.specs.Transfer.{table_of}
use Rattle.graph.specs.Edges.{unwind_edges}
use Rattle.graph.proofs.TableLaws.{length-entries}
use Rattle.graph.proofs.AddingLaws.{added_none}
use Rattle.graph.proofs.BuiltRegions.{entry_clear}
use Rattle.builder.proofs.RegionLaws.{range_passes}
use Rattle.builder.proofs.RangedLaws.{has_positions}
use Rattle.builder.proofs.ExceptionLaws.{entry_resolved, unwind_is, range_first_law, range_size_law, edges_from}
use native.Mathlib.Omega.{arith}
use borrow.Author.Rules.{rules}
use Rattle.builder.proofs.exceptions.add_handler_edges.Goals as goal

pub returns-in_default : goal.returns-in_default
returns-in_default c = let m = image_of c.args.numbered.now.code in
    absurd (has_positions (table_of m) _ _ (range_passes m c.args.h c.requires.checked _ c.handler-own.ensures) c.range_check-found.result c.range_check-found.ensures c.in_default.not-Ok)

pub block_at-to-requires : goal.block_at-to-requires
block_at-to-requires c = record { start = rw c.handler-own.ensures (entry_clear (image_of c.args.numbered.now.code) c.args.h c.requires.checked) }

pub loop-p-init : goal.loop-p-init
unfolding flat
loop-p-init c = let range = rw c.in-Ok.is at c.range_check-found.ensures in
    let first = c.in-Ok.range.first in
    let none : first - first ≡ 0 = omega arith in
    (omega arith, omega arith, rw none (added_none _))

pub add_if_kept-requires-clause-p_in : goal.add_if_kept-requires-clause-p_in
add_if_kept-requires-clause-p_in c = let m = image_of c.args.numbered.now.code in
    let range = rw c.in-Ok.is at c.range_check-found.ensures in
    let size = length-entries m.instructions in
    omega arith

pub add_if_kept-requires-clause-resolved : goal.add_if_kept-requires-clause-resolved
add_if_kept-requires-clause-resolved c = let m = image_of c.args.numbered.now.code in
    entry_resolved m c.args.h c.handler-own.result c.handler-own.ensures _ c.unwind_transfer-x.ensures c.requires.checked

pub loop-p-preserved : goal.loop-p-preserved
loop-p-preserved c = let m = image_of c.args.numbered.now.code in (
  search rules,
  search rules,
  edges_from (unwind_edges m c.args.h) _ c.loop-p.p c.loop-p.invariant.0 c.loop-p.invariant.2
      (rw (unwind_is m c.args.h c.handler-own.result c.handler-own.ensures _ c.unwind_transfer-x.ensures c.loop-p.p) at c.add_if_kept.ensures),
)

pub returns : goal.returns
returns c = let m = image_of c.args.numbered.now.code in
    let range = rw c.in-Ok.is at c.range_check-found.ensures in
    let all : c.loop-p.p ≡ c.in-Ok.range.past = omega arith in
    rw (← range_size_law m c.args.h c.handler-own.result c.handler-own.ensures _ range, ← range_first_law m c.args.h c.handler-own.result c.handler-own.ensures _ range) (rw all at c.loop-p.invariant.2)
