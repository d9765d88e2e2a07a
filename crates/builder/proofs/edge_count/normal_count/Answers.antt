use mathlib.Core.Path.{◌≡◌, refl, sym, ap, ◌∙◌}
use Prim.Native.Nat.{ℕ, ◌+◌}
use Rattle.builder.specs.Code.{image_of}
use Rattle.graph.specs.Fold.{flat}
use Rattle.graph.specs.Transfer.{size}
use Rattle.graph.specs.Edges.{normal_edges}
use Rattle.builder.specs.Cursor.{cursor_at}
use Rattle.builder.specs.declared.cursor.Cursor.{Cursor}
use Rattle.builder.specs.declared.cursor.Visit.{Visit}
use Rattle.builder.proofs.CountLaws.{normal_next, normal_fits}
use native.Mathlib.Omega.{arith}
use borrow.Author.Rules.{rules}
use Rattle.builder.proofs.edge_count.normal_count.Goals as goal

pub loop-p-init : goal.loop-p-init
unfolding flat
loop-p-init c = (search rules, c.cursor_start-c.ensures _, refl)

pub is_terminator-requires-clause-n_most : goal.is_terminator-requires-clause-n_most
is_terminator-requires-clause-n_most c = omega (arith, sym c.size-n.ensures, c.requires.sourced.accepted.instructions_most)

pub end_count-edges-requires-clause-at_in : goal.end_count-edges-requires-clause-at_in
end_count-edges-requires-clause-at_in c = let m = image_of c.args.code.now in
    let at = ap (λ (x : Cursor). x.at) c.loop-p.invariant.1 in
    let size_is = sym c.size-n.ensures in
    omega arith

pub overflow_add-edges : goal.overflow_add-edges
overflow_add-edges c = let m = image_of c.args.code.now in
    let here = c.loop-p-test.true in
    let size_is = sym c.size-n.ensures in
    omega
    (arith, normal_next m c.args.marks.now c.loop-p.p _ _ _ _ _ c.requires.leading here (sym size_is) (ap (λ (x : Cursor). x.at) c.loop-p.invariant.1) c.loop-p.invariant.2 c.is_terminator.ensures c.end_count-edges.ensures, normal_fits m c.requires.sourced c.loop-p.p (omega arith))

pub loop-p-preserved : goal.loop-p-preserved
loop-p-preserved c = let m = image_of c.args.code.now in
    let at = ap (λ (x : Cursor). x.at) c.loop-p.invariant.1 in
    let size_is = sym c.size-n.ensures in (
      search rules,
      ap (λ (x : Visit). x.next) c.visit_at-visit.ensures ∙ ap (λ (i : ℕ). cursor_at m (i + 1)) at,
      normal_next m c.args.marks.now c.loop-p.p _ _ _ _ _ c.requires.leading c.loop-p-test.true (sym size_is) at c.loop-p.invariant.2 c.is_terminator.ensures c.end_count-edges.ensures,
    )

pub returns : goal.returns
unfolding normal_edges
returns c = let all : c.loop-p.p ≡ size (image_of c.args.code.now) = omega (arith, sym c.size-n.ensures) in
    rw (← all) c.loop-p.invariant.2
