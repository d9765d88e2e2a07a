use mathlib.Core.Path.{sym, ap, ◌∙◌}
use mathlib.Core.Logic.{⊎_elim}
use native.Mathlib.Omega.{arith}
use lib.ListN.{length}
use Rattle.graph.specs.Lent.{held_of}
use Rattle.unwind.proofs.CloneLaws.{no_edges, none_next, count-some}
use Rattle.unwind.proofs.clones.clone_edge_count.Goals as goal

pub loop-i-init : goal.loop-i-init
loop-i-init c = (omega arith, sym (ap length (no_edges (held_of c.args.g.now).graph c.args.bases.now c.args.parts.now)))

pub loop-i-preserved : goal.loop-i-preserved
loop-i-preserved c = let g = (held_of c.args.g.now).graph in
    let base = c.number_in.ensures.0 in
    ⊎_elim (λ w. let out = rw w.set_at-part.ensures at w.edges_out-count.ensures.counts in
    let more = count-some c.args.bases.now c.args.parts.now c.loop-i.i g (λ e. w.if-number_in-ne0.true (base ∙ e)) in
    (omega (arith, w.count-is, w.edges_out-count.ensures.small, c.loop-i.invariant.0), omega (arith, w.count-is, out, more, c.loop-i.invariant.1))) (λ w. let none = ap length (none_next c.args.bases.now c.args.parts.now c.loop-i.i g (sym base ∙ w.if-number_in-ne0.false)) in
    (omega (arith, w.count-is, c.loop-i.invariant.0), omega (arith, w.count-is, none, c.loop-i.invariant.1))) c.if-number_in-ne0.branch-raw
