use mathlib.Core.Path.{◌≡◌, sym, ap, ◌∙◌}
use mathlib.Core.Logic.{⊎_elim}
use native.Mathlib.Omega.{arith}
use Rattle.image.specs.Image.{routes_in}
use Rattle.graph.specs.Lent.{held_of}
use Rattle.graph.proofs.RecordLaws.{block_most}
use Rattle.unwind.specs.declared.tries.store.NodeRecord.{NodeRecord}
use Rattle.unwind.specs.Nodes.{record_in}
use Rattle.unwind.proofs.FuncletLaws.{barring_none, barring_put, barring_skip, head_small, barriers_are}
use Rattle.unwind.proofs.part.funclet_entries.Goals as goal

pub loop-i-init : goal.loop-i-init
loop-i-init c = rw c.requires.empty (barring_none c.args.nodes.now c.args.heads.now)

pub loop-i-preserved : goal.loop-i-preserved
loop-i-preserved c = let record_is = ap (λ (x : NodeRecord). x.funclet) c.node_in.ensures.is in
    ⊎_elim (λ w. let ne : (record_in c.args.nodes.now c.loop-i.i).funclet ≡ 0 → ⊥ = λ e. w.if-node_in-ne0.true (record_is ∙ e) in
    let small = head_small (held_of c.args.g.now).graph (routes_in c.args.s.now c.args.y) c.args.nodes.now c.args.heads.now c.args.n c.requires.leads c.requires.entered (block_most c.args.g.now) c.loop-i.i (omega arith) ne in
    rw (w.set-is ∙ w.put_in.ensures, w.number_in.ensures.0) (barring_put c.args.nodes.now c.args.heads.now c.loop-i.i c.loop-i.set c.loop-i.invariant small ne)) (λ w. rw w.set-is (barring_skip c.args.nodes.now c.args.heads.now c.loop-i.i c.loop-i.set c.loop-i.invariant (sym record_is ∙ w.if-node_in-ne0.false))) c.if-node_in-ne0.branch-raw

pub returns : goal.returns
returns c = let all : c.loop-i.i ≡ c.args.n = omega arith in
    barriers_are (held_of c.args.g.now).graph (routes_in c.args.s.now c.args.y) c.args.nodes.now c.args.heads.now c.args.n c.requires.leads c.requires.entered c.requires.stands c.requires.named c.loop-i.set (rw all at c.loop-i.invariant)
