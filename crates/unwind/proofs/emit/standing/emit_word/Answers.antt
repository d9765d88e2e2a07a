use mathlib.Core.Path.{◌≡◌, sym, ◌∙◌}
use mathlib.Core.Logic.{⊎_elim}
use Prim.Native.Nat.{◌/◌, ◌<◌}
use native.Mathlib.Omega.{arith}
use borrow.Author.Tests.{not-false}
use Rattle.image.specs.Image.{routes_in}
use Rattle.graph.specs.Fold.{flat}
use Rattle.unwind.specs.Placed.{returns_in}
use Rattle.unwind.specs.Lent.{block_hops}
use Rattle.unwind.proofs.HeldLaws.{block_own}
use Rattle.unwind.proofs.SinkLaws.{over, quiet, step, room_left}
use Rattle.unwind.proofs.BlockLoop.{given_guards, list_room, busy_room, going_start, HeldAt, held_few, held_stays, going_next, gather_room, hops_quiet, word_quiet}
use Rattle.unwind.proofs.emit.standing.emit_word.Goals as goal

pub guarded_in-guarded-requires : goal.guarded_in-guarded-requires
guarded_in-guarded-requires g c = (given_guards c.requires.ready.given, omega (arith, c.requires.word, c.requires.ready.given.few))

pub original_nodes-listed-requires : goal.original_nodes-listed-requires
original_nodes-listed-requires g c = list_room c.requires.ready.given _ (omega (arith, c.requires.word, c.requires.ready.given.few))

pub busy_in-busy-requires : goal.busy_in-busy-requires
busy_in-busy-requires g c = busy_room c.requires.ready.given c.original_nodes-listed.auto.list c.original_nodes-listed.ensures (omega (arith, c.requires.word, c.requires.ready.given.few))

pub shape_of-originals-then-busy-eq0 : goal.shape_of-originals-then-busy-eq0
shape_of-originals-then-busy-eq0 g c = c.original_nodes-listed.auto.list

pub returns-then-busy-eq0 : goal.returns-then-busy-eq0
returns-then-busy-eq0 g c = λ old p.
    over (λ b hs. g.V.Sink.holds (routes_in c.args.s.now c.args.y) b hs old c.args.sink.now) (λ b d hs. g.met.V.Sink.higher (routes_in c.args.s.now c.args.y) b d hs old c.args.sink.now) (block_hops (routes_in c.args.s.now c.args.y) c.args.nodes.now c.args.edges.now c.args.ends.now c.args.heads.now c.args.landings.now c.args.roots.now c.args.guards.now c.args.bases.now (returns_in c.args.parts.now c.args.returners.now) c.args.stored) _ _ (omega (arith, c.requires.word))
    (λ b from to. word_quiet c.requires.ready c.guarded_in-guarded.ensures c.original_nodes-listed.ensures (rw c.if-busy-eq0.true at c.busy_in-busy.ensures) b from (omega arith)) p

pub word_end-past-requires : goal.word_end-past-requires
word_end-past-requires g c = omega (arith, c.requires.word, c.requires.ready.given.few)

pub loop-b-init : goal.loop-b-init
loop-b-init g c = (omega arith, omega (arith, c.requires.word, c.word_end-past.ensures), going_start _ _ _ _ _ _ _ _ _ _ _ _ _ _, λ old p. p)

pub gather_block-n-requires : goal.gather_block-n-requires
gather_block-n-requires g c =
    let below : c.loop-b.b < c.args.blocks = omega (arith, c.loop-b-test.true, c.word_end-past.ensures) in
    let here : c.loop-b.b / 64 ≡ c.args.w = omega (arith, c.loop-b.invariant.0, c.loop-b-test.true, c.word_end-past.ensures) in
    gather_room c.requires.ready c.guarded_in-guarded.ensures c.original_nodes-listed.ensures c.loop-b.invariant.2 _ c.original_nodes-listed.auto.list below here

pub take-requires-clause-block : goal.take-requires-clause-block
take-requires-clause-block g c = omega (arith, c.loop-b-test.true, c.word_end-past.ensures, c.requires.ready.given.few)

pub take-requires-clause-few : goal.take-requires-clause-few
take-requires-clause-few g c =
    let below : c.loop-b.b < c.args.blocks = omega (arith, c.loop-b-test.true, c.word_end-past.ensures) in
    let held : HeldAt c.requires.ready c.loop-b.invariant.2 c.loop-b.b c.if-not-goes_on.exits c.if-not-goes_on.n = ⊎_elim (λ w. rw (w.exits-is, w.n-is) w.gather_block-n.ensures) (λ w. rw (w.exits-is, w.n-is) (held_stays c.requires.ready c.loop-b.invariant.2 _ below (c.goes_on.ensures (not-false _ w.if-not-goes_on.false-raw)))) c.if-not-goes_on.branch-raw in
    held_few c.requires.ready c.loop-b.invariant.2 _ held

pub take-requires-clause-entries : goal.take-requires-clause-entries
take-requires-clause-entries g c =
    let below : c.loop-b.b < c.args.blocks = omega (arith, c.loop-b-test.true, c.word_end-past.ensures) in
    let held : HeldAt c.requires.ready c.loop-b.invariant.2 c.loop-b.b c.if-not-goes_on.exits c.if-not-goes_on.n = ⊎_elim (λ w. rw (w.exits-is, w.n-is) w.gather_block-n.ensures) (λ w. rw (w.exits-is, w.n-is) (held_stays c.requires.ready c.loop-b.invariant.2 _ below (c.goes_on.ensures (not-false _ w.if-not-goes_on.false-raw)))) c.if-not-goes_on.branch-raw in
    held.holds.ordered.fit

pub take-requires-clause-room : goal.take-requires-clause-room
take-requires-clause-room g c =
    let below : c.loop-b.b < c.args.blocks = omega (arith, c.loop-b-test.true, c.word_end-past.ensures) in
    let held : HeldAt c.requires.ready c.loop-b.invariant.2 c.loop-b.b c.if-not-goes_on.exits c.if-not-goes_on.n = ⊎_elim (λ w. rw (w.exits-is, w.n-is) w.gather_block-n.ensures) (λ w. rw (w.exits-is, w.n-is) (held_stays c.requires.ready c.loop-b.invariant.2 _ below (c.goes_on.ensures (not-false _ w.if-not-goes_on.false-raw)))) c.if-not-goes_on.branch-raw in
    let own = block_own _ _ _ _ _ _ _ _ _ _ _ _ _ _ held.holds in
    let before = c.requires.held in
    let rest = room_left g.V.Sink.fits (block_hops (routes_in c.args.s.now c.args.y) c.args.nodes.now c.args.edges.now c.args.ends.now c.args.heads.now c.args.landings.now c.args.roots.now c.args.guards.now c.args.bases.now (returns_in c.args.parts.now c.args.returners.now) c.args.stored) c.loop-b.b c.args.blocks c.requires.fits.0 own below c.requires.fits.1 in
    ((routes_in c.args.s.now c.args.y), flat (block_hops (routes_in c.args.s.now c.args.y) c.args.nodes.now c.args.edges.now c.args.ends.now c.args.heads.now c.args.landings.now c.args.roots.now c.args.guards.now c.args.bases.now (returns_in c.args.parts.now c.args.returners.now) c.args.stored) c.loop-b.b, before.0, c.loop-b.invariant.3 before.0 before.1, rest.0, rest.1)

pub loop-b-preserved : goal.loop-b-preserved
loop-b-preserved g c =
    let below : c.loop-b.b < c.args.blocks = omega (arith, c.loop-b-test.true, c.word_end-past.ensures) in
    let here : c.loop-b.b / 64 ≡ c.args.w = omega (arith, c.loop-b.invariant.0, c.loop-b-test.true, c.word_end-past.ensures) in
    let r = c.requires.ready in
    let more = c.loop-b-test.true in
    ⊎_elim (λ w.
    let below : c.loop-b.b < c.args.blocks = omega (arith, c.loop-b-test.true, c.word_end-past.ensures) in
    let held : HeldAt c.requires.ready c.loop-b.invariant.2 c.loop-b.b w.if-not-goes_on.exits w.if-not-goes_on.n = ⊎_elim (λ v. rw (v.exits-is, v.n-is) v.gather_block-n.ensures) (λ v. rw (v.exits-is, v.n-is) (held_stays c.requires.ready c.loop-b.invariant.2 _ below (w.goes_on.ensures (not-false _ v.if-not-goes_on.false-raw)))) w.if-not-goes_on.branch-raw in
    let own = block_own _ _ _ _ _ _ _ _ _ _ _ _ _ _ held.holds in
    rw (w.sink-is, w.exits-is, w.last-is, w.n-is) (
      omega (arith, c.loop-b.invariant.0),
      omega (arith, more),
      going_next r c.loop-b.invariant.2 _ below held,
      λ old p. step (λ b hs. g.V.Sink.holds (routes_in c.args.s.now c.args.y) b hs old w.take.new.self) (λ b d hs. g.met.V.Sink.higher (routes_in c.args.s.now c.args.y) b d hs old w.take.new.self) (block_hops (routes_in c.args.s.now c.args.y) c.args.nodes.now c.args.edges.now c.args.ends.now c.args.heads.now c.args.landings.now c.args.roots.now c.args.guards.now c.args.bases.now (returns_in c.args.parts.now c.args.returners.now) c.args.stored) c.loop-b.b own (w.take.ensures (routes_in c.args.s.now c.args.y) (flat (block_hops (routes_in c.args.s.now c.args.y) c.args.nodes.now c.args.edges.now c.args.ends.now c.args.heads.now c.args.landings.now c.args.roots.now c.args.guards.now c.args.bases.now (returns_in c.args.parts.now c.args.returners.now) c.args.stored) c.loop-b.b) old (c.loop-b.invariant.3 old p)),
    )) (λ w.
    let none = hops_quiet r c.guarded_in-guarded.ensures c.original_nodes-listed.ensures c.busy_in-busy.ensures _ here (sym c.has_block.ensures ∙ w.if-has_block.false) in
    rw (w.sink-is, w.exits-is, w.last-is, w.n-is) (
      omega (arith, c.loop-b.invariant.0),
      omega (arith, more),
      c.loop-b.invariant.2,
      λ old p. quiet (λ b hs. g.V.Sink.holds (routes_in c.args.s.now c.args.y) b hs old c.loop-b.sink) (λ b d hs. g.met.V.Sink.higher (routes_in c.args.s.now c.args.y) b d hs old c.loop-b.sink) (block_hops (routes_in c.args.s.now c.args.y) c.args.nodes.now c.args.edges.now c.args.ends.now c.args.heads.now c.args.landings.now c.args.roots.now c.args.guards.now c.args.bases.now (returns_in c.args.parts.now c.args.returners.now) c.args.stored) c.loop-b.b none (c.loop-b.invariant.3 old p),
    )) c.if-has_block.branch-raw

pub shape_of-originals : goal.shape_of-originals
shape_of-originals g c = c.original_nodes-listed.auto.list

pub shape_of-exits : goal.shape_of-exits
shape_of-exits g c = c.loop-b.invariant.2.long

pub returns : goal.returns
returns g c = let all : c.loop-b.b ≡ c.word_end-past.result = omega (arith, c.loop-b.invariant.1) in
    rw (← c.word_end-past.ensures, ← all) c.loop-b.invariant.3
