use mathlib.Core.Path.{sym, ap, ◌∙◌}
use mathlib.Core.Logic.{⊎_elim}
use Prim.Native.Nat.{◌<◌}
use native.Mathlib.Omega.{arith}
use lib.ListN.{length}
use Rattle.graph.specs.Lent.{held_of}
use Rattle.unwind.proofs.StoodLaws.{blocks_stay, linked_start, linked_kept, no_copies, edges_skip, edges_node}
use Rattle.unwind.proofs.clones.add_clone_edges.Goals as goal

pub loop-i-init : goal.loop-i-init
loop-i-init c = no_copies c.args.g.now c.args.bases.now c.args.parts.now

pub copy_edges-requires-clause-linked : goal.copy_edges-requires-clause-linked
copy_edges-requires-clause-linked c = let g = (held_of c.args.g.now).graph in
    linked_kept c.loop-i.invariant _ c.args.head.now c.args.next.now (rw c.edge_count-m.ensures (linked_start g c.args.head.now c.args.next.now c.requires.ends c.requires.roomy c.requires.linked))

pub copy_edges-requires-clause-blocks : goal.copy_edges-requires-clause-blocks
copy_edges-requires-clause-blocks c = let test = c.loop-i-test.true in
    let same = ap length (blocks_stay c.loop-i.invariant) in
    rw c.set_at-part.ensures (λ b m. let stands : b < length (held_of c.loop-i.g).graph.blocks = omega (arith, same, c.requires.sets_in.stand c.loop-i.i b test m) in stands)

pub loop-i-preserved : goal.loop-i-preserved
loop-i-preserved c = let base = c.number_in-base.ensures.0 in
    ⊎_elim (λ w. rw w.g-is
    (edges_node c.args.g.now c.loop-i.g c.args.bases.now c.args.parts.now c.loop-i.i c.loop-i.invariant (λ e. w.if-base-ne0.true (base ∙ e)) _ c.edge_count-m.ensures _ (rw (base, w.set_at-part.ensures) at w.copy_edges.ensures))) (λ w. rw w.g-is (edges_skip c.args.g.now c.loop-i.g c.args.bases.now c.args.parts.now c.loop-i.i c.loop-i.invariant (sym base ∙ w.if-base-ne0.false))) c.if-base-ne0.branch-raw
