-- `emit_copy` meets its contract. Assumes nothing.
use mathlib.Core.Path.{sym, subst}
use mathlib.Core.List.{List, ◌++◌}
use Prim.Native.Nat.{◌+◌}
use native.Mathlib.Omega.{arith}
use Rattle.image.specs.Image.{routes_in}
use Rattle.addition.specs.Ways.{Hop}
use Rattle.unwind.specs.Nodes.{record_in}
use Rattle.unwind.proofs.HeldLaws.{copy_own}
use Rattle.unwind.proofs.CopyLaws.{record_length}
use Rattle.unwind.proofs.emit.cloned.emit_copy.Goals as goal

pub take-requires-clause-few : goal.take-requires-clause-few
take-requires-clause-few g c = omega (arith, c.gather_node-n.ensures.most, record_length (routes_in c.args.s.now c.args.y) c.args.b c.args.nodes.now c.args.edges.now c.args.ends.now c.args.heads.now c.args.landings.now (record_in c.args.nodes.now c.args.i), c.requires.fits.edges_within, c.requires.fits.ends_within, c.requires.roomy.edges_few, c.requires.roomy.ends_few)

pub take-requires-clause-room : goal.take-requires-clause-room
take-requires-clause-room g c = let own = copy_own (routes_in c.args.s.now c.args.y) c.args.b c.args.nodes.now c.args.edges.now c.args.ends.now c.args.heads.now c.args.landings.now c.args.i c.gather_node-n.ensures in
    let r = c.requires.room in
    ((routes_in c.args.s.now c.args.y), r.0, r.1, r.2, r.3, subst (λ (t : List Hop). g.V.Sink.fits (r.0 ++ t ++ r.3)) (sym own) r.4)

pub returns-clause-holds : goal.returns-clause-holds
returns-clause-holds g c = let own = copy_own (routes_in c.args.s.now c.args.y) c.args.b c.args.nodes.now c.args.edges.now c.args.ends.now c.args.heads.now c.args.landings.now c.args.i c.gather_node-n.ensures in
    λ hs old p. subst (λ (t : List Hop). g.V.Sink.holds (routes_in c.args.s.now c.args.y) (c.args.b + 1) (hs ++ t) old c.take.new.self) own (c.take.ensures (routes_in c.args.s.now c.args.y) hs old p)
