-- Each check where those before it found nothing, and then the instances. Assumes nothing.
use mathlib.Core.Path.{refl, sym}
use Rattle.image.specs.Image.{routes_in}
use Rattle.image.specs.Deal.{routes_of}
use Rattle.graph.specs.Lent.{held_of}
use Rattle.unwind.proofs.Standing.{stands_of}
use Rattle.unwind.proofs.NodeChecks.{funclets_lead}
use Rattle.unwind.proofs.FuncletLaws.{tries_named}
use Rattle.unwind.proofs.FirstLaws.{firsts_none}
use Rattle.unwind.proofs.SizeChecks.{blocks_stop}
use Rattle.unwind.proofs.Outcomes.{nodes_refused, size-outcome, size_refused}
use Rattle.unwind.proofs.AnswerLaws.{adds_refused, adds_sized}
use Rattle.unwind.proofs.FrameLaws.{nodes_checked, placements}
use Rattle.std.proofs.lemmas.Result.{err_from_is_err_and}
use Rattle.unwind.proofs.add.run.add_tries.Goals as goal

pub hint_blocks-requires-clause-stands : goal.hint_blocks-requires-clause-stands
hint_blocks-requires-clause-stands c = let k = c.requires.checked in
    stands_of (held_of c.args.g.now) k.graphed

pub check_nodes-requires-clause-stands : goal.check_nodes-requires-clause-stands
check_nodes-requires-clause-stands c = let k = c.requires.checked in
    stands_of (held_of c.args.g.now) k.graphed

pub link-requires : goal.link-requires
link-requires c = let room = c.requires.room in
    ((stands_of (held_of c.args.g.now) c.requires.checked.graphed).ends, room.links, room.unlinked)

pub place-requires-clause-stands : goal.place-requires-clause-stands
place-requires-clause-stands c = stands_of (held_of c.args.g.now) c.requires.checked.graphed

pub place-requires-clause-firsts : goal.place-requires-clause-firsts
place-requires-clause-firsts c = let m = routes_in c.args.s.now c.args.y in
    let room = c.requires.room in
    firsts_none (held_of c.args.g.now).graph m c.args.nodes.now c.args.exits.now room.firsts_fit room.unplaced

pub place-requires-clause-named : goal.place-requires-clause-named
place-requires-clause-named c = let m = routes_in c.args.s.now c.args.y in
    tries_named m c.args.nodes.now c.args.edges.now c.args.ends.now c.args.stored.nodes c.requires.tries.nodes_are

pub returns-in_err-check_nodes : goal.returns-in_err-check_nodes
returns-in_err-check_nodes c = let m = routes_in c.args.s.now c.args.y in
    let p = err_from_is_err_and c.from_residual.result c.from_residual.ensures.1 in
    let found = nodes_checked c.requires.checked c.requires.tries c.in_err-check_nodes.ensures.check in
    rw (p.1, p.2) (adds_refused m c.args.g.now c.args.h.now _ (nodes_refused (held_of c.args.g.now).graph (routes_of m) c.requires.checked.passed _ (sym found)))

pub place-requires-clause-leads : goal.place-requires-clause-leads
place-requires-clause-leads c = λ i h. funclets_lead (held_of c.args.g.now).graph (routes_in c.args.s.now c.args.y) c.args.edges.now c.args.ends.now c.args.nodes.now c.args.stored.nodes (sym (c.in_ok-check_nodes.ensures.check c.args.edges.now)) i h

pub returns-in_err-place : goal.returns-in_err-place
returns-in_err-place c = let m = routes_in c.args.s.now c.args.y in
    let p = err_from_is_err_and c.from_residual-in_err-place.result c.from_residual-in_err-place.ensures.1 in
    let nodes = sym (nodes_checked c.requires.checked c.requires.tries c.in_ok-check_nodes.ensures.check) in
    rw (p.1, p.2) (adds_refused m c.args.g.now c.args.h.now _
    (size_refused (held_of c.args.g.now).graph (routes_of m) c.requires.checked.passed nodes _
    (blocks_stop (held_of c.args.g.now).graph m c.args.nodes.now c.args.edges.now c.args.ends.now c.args.roots.now _ _ _ c.args.stored c.requires.tries _ _ refl c.in_err-place.ensures)))

pub add_instances-requires-clause-placements : goal.add_instances-requires-clause-placements
add_instances-requires-clause-placements c = let nodes = sym (nodes_checked c.requires.checked c.requires.tries c.in_ok-check_nodes.ensures.check) in
    placements c.requires.checked c.requires.tries c.requires.room nodes c.link.ensures.0 c.link.ensures.1 c.in_ok-place.ensures c.place.auto.firsts

pub returns : goal.returns
returns c = let m = routes_in c.args.s.now c.args.y in
    let nodes = sym (nodes_checked c.requires.checked c.requires.tries c.in_ok-check_nodes.ensures.check) in
    adds_sized m c.args.g.now c.args.h.now (size-outcome (held_of c.args.g.now).graph (routes_of m) c.requires.checked.passed nodes) c.add_instances.ensures
