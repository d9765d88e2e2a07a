use mathlib.Core.Path.{◌≡◌, ap, ◌∙◌}
use mathlib.Core.Bool.{false, cond, ◌||◌}
use mathlib.Core.List.{[]}
use Prim.Native.Nat.{ℕ, ◌+◌}
use lib.Dec.{eqb}
use lib.ListN.{get_or}
use Rattle.builder.specs.Code.{image_of}
use Rattle.graph.specs.Fold.{flat}
use Rattle.graph.specs.Transfer.{size}
use Rattle.graph.specs.Blocks.{is_terminator}
use Rattle.graph.specs.Edges.{edges_at, unresolved_at, normal_edges, unresolved_of}
use Rattle.graph.proofs.AddingLaws.{added_none, flow_more}
use Rattle.builder.proofs.ScanLaws.{scan_at, scan_stands, scan_fits, scan_next, scan_visit}
use Rattle.builder.proofs.EdgeLaws.{terminator_is}
use native.Mathlib.Omega.{arith}
use borrow.Author.Rules.{rules}
use Rattle.builder.proofs.edges.add_normal_edges.Goals as goal

pub loop-p-init : goal.loop-p-init
unfolding flat
loop-p-init c = (search rules, c.cursor_start-c.ensures _, added_none _)

pub cursor_after-next-requires : goal.cursor_after-next-requires
cursor_after-next-requires c = scan_fits (image_of c.args.numbered.now.code) c.args.numbered.now.emitting.sourced c.loop-p.p c.loop-p.c c.loop-p.invariant.1 (rw c.size-n.ensures at c.loop-p-test.true) _ c.instruction-i.ensures _ c.given_at-given.ensures

pub is_terminator-requires-clause-n_most : goal.is_terminator-requires-clause-n_most
is_terminator-requires-clause-n_most c = omega (arith, c.size-n.ensures, c.args.numbered.now.emitting.sourced.accepted.instructions_most)

pub emit_if-requires : goal.emit_if-requires
emit_if-requires c = let m = image_of c.args.numbered.now.code in
    let size_is = c.size-n.ensures in
    let at = scan_at m c.loop-p.p c.loop-p.c c.loop-p.invariant.1 in
    record {
      visiting = record {
        here = scan_stands m c.loop-p.p c.loop-p.c c.loop-p.invariant.1;
        within = omega (arith, at, c.loop-p-test.true);
        is = rw at (scan_visit (image_of c.args.numbered.now.code) c.args.numbered.now.emitting.sourced c.loop-p.p c.loop-p.c c.loop-p.invariant.1 (rw c.size-n.ensures at c.loop-p-test.true) _ c.instruction-i.ensures _ c.given_at-given.ensures _ c.cursor_after-next.ensures);
      };
    }

pub loop-p-preserved : goal.loop-p-preserved
loop-p-preserved c = let m = image_of c.args.numbered.now.code in
    let size_is = c.size-n.ensures in
    let ends =
    c.is_terminator.ensures
    ∙ ap (λ (n : ℕ). eqb (c.loop-p.p + 1) n || get_or c.args.marks.now (c.loop-p.p + 1) false) size_is
    ∙ terminator_is m c.loop-p.p c.args.marks.now c.requires.leading (omega arith) in (
      search rules,
      scan_next (image_of c.args.numbered.now.code) c.args.numbered.now.emitting.sourced c.loop-p.p c.loop-p.c c.loop-p.invariant.1 (rw c.size-n.ensures at c.loop-p-test.true) _ c.instruction-i.ensures _ c.given_at-given.ensures _ c.cursor_after-next.ensures,
      flow_more (λ q. cond (is_terminator m q) (edges_at m q) []) (λ q. cond (is_terminator m q) (unresolved_at m q) []) c.loop-p.p c.loop-p.invariant.2
          (rw (ends, scan_at m c.loop-p.p c.loop-p.c c.loop-p.invariant.1) at c.emit_if.ensures),
    )

pub returns : goal.returns
unfolding normal_edges unresolved_of
returns c = let all : c.loop-p.p ≡ size (image_of c.args.numbered.now.code) = omega (arith, c.size-n.ensures) in
    rw (← all) c.loop-p.invariant.2
