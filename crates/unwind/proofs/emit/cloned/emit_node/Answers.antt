-- `emit_node` meets its contract. Assumes nothing.
use mathlib.Core.Path.{◌≡◌, sym, ap, ◌∙◌, subst}
use mathlib.Core.List.{List, ◌++◌, append-nil}
use Prim.Native.Nat.{◌+◌}
use native.Mathlib.Numerals.{add-one}
use native.Mathlib.Omega.{arith}
use Rattle.image.specs.Image.{routes_in}
use Rattle.addition.specs.Ways.{Hop}
use Rattle.unwind.specs.Placed.{returns_in}
use Rattle.unwind.specs.Copies.{copy_number}
use Rattle.unwind.specs.AllNodes.{behind_nodes}
use Rattle.unwind.proofs.AllNodesLaws.{behind-same, behind_next, hops_none, hops_some}
use Rattle.unwind.proofs.emit.cloned.emit_node.Goals as goal

pub emit_copies-requires-clause-low : goal.emit_copies-requires-clause-low
emit_copies-requires-clause-low g c = omega (arith, c.number_in-base.ensures.0, c.requires.rises.few)

pub emit_copies-requires-clause-within : goal.emit_copies-requires-clause-within
emit_copies-requires-clause-within g c = c.requires.rises.within

pub emit_copies-requires-clause-room : goal.emit_copies-requires-clause-room
emit_copies-requires-clause-room g c = let r = c.requires.room in
    let is = c.number_in-base.ensures.0 in
    let some = hops_some (routes_in c.args.s.now c.args.y) c.args.nodes.now c.args.edges.now c.args.ends.now c.args.heads.now c.args.landings.now c.args.bases.now c.args.parts.now (returns_in c.args.parts.now c.args.returners.now) c.args.blocks c.args.i c.number_in-base.result is c.if-base-ne0.true in
    (r.0, r.1, g.met.V.Sink.higher (routes_in c.args.s.now c.args.y) _ _ r.0 r.1 c.args.sink.now (omega (arith, is, c.requires.rises.rises (λ e. c.if-base-ne0.true (is ∙ e)))) r.2, r.3, subst (λ (t : List Hop). g.V.Sink.fits (r.0 ++ t ++ r.3)) some r.4)

pub returns-then-base-ne0-clause-holds : goal.returns-then-base-ne0-clause-holds
returns-then-base-ne0-clause-holds g c = let is = c.number_in-base.ensures.0 in
    let copies = c.if-base-ne0.true in
    let first = c.number_in-base.result in
    let at : behind_nodes c.args.bases.now c.args.parts.now c.args.blocks (c.args.i + 1) ≡ copy_number c.args.parts.now c.args.i first c.args.blocks = ap (behind_nodes c.args.bases.now c.args.parts.now c.args.blocks) (add-one c.args.i) ∙ behind_next c.args.bases.now c.args.parts.now c.args.blocks c.args.i first is copies in
    λ hs old p.
    rw (at, hops_some (routes_in c.args.s.now c.args.y) c.args.nodes.now c.args.edges.now c.args.ends.now c.args.heads.now c.args.landings.now c.args.bases.now c.args.parts.now (returns_in c.args.parts.now c.args.returners.now) c.args.blocks c.args.i first is copies)
    (c.emit_copies.ensures.holds hs old (g.met.V.Sink.higher (routes_in c.args.s.now c.args.y) _ _ hs old c.args.sink.now (omega (arith, is, c.requires.rises.rises (λ e. copies (is ∙ e)))) p))

pub returns-else-base-ne0-clause-holds : goal.returns-else-base-ne0-clause-holds
returns-else-base-ne0-clause-holds g c = let none : _ ≡ _ = sym c.number_in-base.ensures.0 ∙ c.if-base-ne0.false in
    λ hs old p.
    let at : behind_nodes c.args.bases.now c.args.parts.now c.args.blocks (c.args.i + 1) ≡ behind_nodes c.args.bases.now c.args.parts.now c.args.blocks c.args.i = ap (behind_nodes c.args.bases.now c.args.parts.now c.args.blocks) (add-one c.args.i) ∙ behind-same c.args.bases.now c.args.parts.now c.args.blocks c.args.i none in
    rw (at, hops_none (routes_in c.args.s.now c.args.y) c.args.nodes.now c.args.edges.now c.args.ends.now c.args.heads.now c.args.landings.now c.args.bases.now c.args.parts.now (returns_in c.args.parts.now c.args.returners.now) c.args.blocks c.args.i none, append-nil hs) p
