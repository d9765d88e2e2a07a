use mathlib.Core.Path.{refl, sym, ap, ◌∙◌, subst}
use mathlib.Core.List.{List, ◌++◌, append-nil}
use Prim.Native.Nat.{ℕ, ◌+◌}
use native.Mathlib.Omega.{arith}
use Rattle.image.specs.Image.{routes_in}
use Rattle.graph.specs.Fold.{flat}
use Rattle.graph.proofs.NextLaws.{left-all, left_lowest, left-none, left_next, left_less}
use Rattle.addition.specs.Ways.{Hop}
use Rattle.unwind.specs.Placed.{set_at, returns_in}
use Rattle.unwind.specs.Copies.{copy_number, copy_hops}
use Rattle.unwind.proofs.CopyLaws.{copy_first}
use Rattle.unwind.proofs.HeldLaws.{step_is}
use Rattle.unwind.proofs.SinkLaws.{room_behind}
use Rattle.unwind.proofs.MemberLaws.{taking_start, taking_here, taking_next, taking_end, walked_here, walked_below, copy_rises, sets_quiet, sets_below, sets_few, sets_number, sets_here, sets_more}
use Rattle.unwind.proofs.SlotLaws.{set_long}
use Rattle.unwind.proofs.emit.cloned.emit_copies.Goals as goal

pub set_at-part-requires : goal.set_at-part-requires
set_at-part-requires g c = c.requires.sets.part_fits

pub common_at-set-requires : goal.common_at-set-requires
common_at-set-requires g c = c.requires.sets.part_fits

pub loop-o-init : goal.loop-o-init
unfolding flat
loop-o-init g c = (
  refl,
  rw (left-all (set_at (returns_in c.args.parts.now c.args.returners.now) c.args.i))
      (taking_start _ (set_at (returns_in c.args.parts.now c.args.returners.now) c.args.i) c.args.blocks (set_long (returns_in c.args.parts.now c.args.returners.now) c.args.i) (sets_below (routes_in c.args.s.now c.args.y) c.args.nodes.now c.args.edges.now c.args.ends.now c.args.heads.now c.args.landings.now c.args.parts.now (returns_in c.args.parts.now c.args.returners.now) c.args.i c.args.base c.args.blocks c.requires.sets)
      (λ hs old s. rw (append-nil hs, ← copy_first c.args.parts.now c.args.i c.args.base) s)),
)

pub next_in-requires : goal.next_in-requires
next_in-requires g c = (c.requires.few, rw c.common_at-set.ensures (sets_below (routes_in c.args.s.now c.args.y) c.args.nodes.now c.args.edges.now c.args.ends.now c.args.heads.now c.args.landings.now c.args.parts.now (returns_in c.args.parts.now c.args.returners.now) c.args.i c.args.base c.args.blocks c.requires.sets))

pub overflow_add-from : goal.overflow_add-from
overflow_add-from g c = let low = rw c.in-Some.is at c.next_in.ensures in omega (arith, low.0)

pub shape_of-exits : goal.shape_of-exits
shape_of-exits g c = c.loop-o.invariant.0

pub returns-clause-holds : goal.returns-clause-holds
returns-clause-holds g c = taking_end (λ (k : ℕ). (hs : List Hop) (old : g.row.V.Denot) → g.V.Sink.holds (routes_in c.args.s.now c.args.y) c.args.base hs old c.args.sink.now → g.V.Sink.holds (routes_in c.args.s.now c.args.y) (copy_number c.args.parts.now c.args.i c.args.base k) (hs ++ flat (copy_hops (routes_in c.args.s.now c.args.y) c.args.nodes.now c.args.edges.now c.args.ends.now c.args.heads.now c.args.landings.now c.args.parts.now (returns_in c.args.parts.now c.args.returners.now) c.args.i c.args.base) k) old c.loop-o.sink) (copy_hops (routes_in c.args.s.now c.args.y) c.args.nodes.now c.args.edges.now c.args.ends.now c.args.heads.now c.args.landings.now c.args.parts.now (returns_in c.args.parts.now c.args.returners.now) c.args.i c.args.base) (λ k n h e p hs old s. subst (λ (t : List Hop). g.V.Sink.holds (routes_in c.args.s.now c.args.y) (copy_number c.args.parts.now c.args.i c.args.base n) (hs ++ t) old c.loop-o.sink) (sym e) (g.met.V.Sink.higher (routes_in c.args.s.now c.args.y) _ _ _ old c.loop-o.sink (copy_rises c.args.parts.now c.args.i c.args.base k n h) (p hs old s))) (set_at (returns_in c.args.parts.now c.args.returners.now) c.args.i) (sets_quiet (routes_in c.args.s.now c.args.y) c.args.nodes.now c.args.edges.now c.args.ends.now c.args.heads.now c.args.landings.now c.args.parts.now (returns_in c.args.parts.now c.args.returners.now) c.args.i c.args.base c.args.blocks c.requires.sets) c.loop-o.invariant.1 (left-none (set_at (returns_in c.args.parts.now c.args.returners.now) c.args.i) (set_long (returns_in c.args.parts.now c.args.returners.now) c.args.i) c.loop-o.from (rw c.common_at-set.ensures at (rw c.in_default.is at c.next_in.ensures)))

pub returns-clause-long : goal.returns-clause-long
returns-clause-long g c = c.loop-o.invariant.0

pub overflow_add-b : goal.overflow_add-b
overflow_add-b g c = omega (arith, sets_few (routes_in c.args.s.now c.args.y) c.args.nodes.now c.args.edges.now c.args.ends.now c.args.heads.now c.args.landings.now c.args.parts.now (returns_in c.args.parts.now c.args.returners.now) c.args.i c.args.base c.args.blocks c.requires.sets _ c.rank_in.result _ c.set_at-part.ensures c.rank_in.ensures, c.requires.low)

pub emit_copy-requires-clause-block : goal.emit_copy-requires-clause-block
emit_copy-requires-clause-block g c = omega (arith, sets_few (routes_in c.args.s.now c.args.y) c.args.nodes.now c.args.edges.now c.args.ends.now c.args.heads.now c.args.landings.now c.args.parts.now (returns_in c.args.parts.now c.args.returners.now) c.args.i c.args.base c.args.blocks c.requires.sets _ c.rank_in.result _ c.set_at-part.ensures c.rank_in.ensures, c.requires.low)

pub emit_copy-requires-clause-roomy : goal.emit_copy-requires-clause-roomy
emit_copy-requires-clause-roomy g c = let room = c.requires.roomy in
    record { edges_few = room.edges_few; ends_few = room.ends_few; room = omega (arith, room.room, c.loop-o.invariant.0) }

pub emit_copy-requires-clause-room : goal.emit_copy-requires-clause-room
emit_copy-requires-clause-room g c =
    let next = rw c.common_at-set.ensures at (rw c.in-Some.is at c.next_in.ensures) in
    let low = left_lowest (set_at (returns_in c.args.parts.now c.args.returners.now) c.args.i) (set_long (returns_in c.args.parts.now c.args.returners.now) c.args.i) c.loop-o.from _ next in
    let is = walked_here c.loop-o.invariant.1.walked _ low in
    let same = sets_here (routes_in c.args.s.now c.args.y) c.args.nodes.now c.args.edges.now c.args.ends.now c.args.heads.now c.args.landings.now c.args.parts.now (returns_in c.args.parts.now c.args.returners.now) c.args.i c.args.base c.args.blocks c.requires.sets _ c.rank_in.result _ c.set_at-part.ensures c.rank_in.ensures is in
    let at = sets_number (routes_in c.args.s.now c.args.y) c.args.nodes.now c.args.edges.now c.args.ends.now c.args.heads.now c.args.landings.now c.args.parts.now (returns_in c.args.parts.now c.args.returners.now) c.args.i c.args.base c.args.blocks c.requires.sets _ c.rank_in.result _ c.set_at-part.ensures c.rank_in.ensures in
    let here = taking_here (λ (k : ℕ). (hs : List Hop) (old : g.row.V.Denot) → g.V.Sink.holds (routes_in c.args.s.now c.args.y) c.args.base hs old c.args.sink.now → g.V.Sink.holds (routes_in c.args.s.now c.args.y) (copy_number c.args.parts.now c.args.i c.args.base k) (hs ++ flat (copy_hops (routes_in c.args.s.now c.args.y) c.args.nodes.now c.args.edges.now c.args.ends.now c.args.heads.now c.args.landings.now c.args.parts.now (returns_in c.args.parts.now c.args.returners.now) c.args.i c.args.base) k) old c.loop-o.sink) (copy_hops (routes_in c.args.s.now c.args.y) c.args.nodes.now c.args.edges.now c.args.ends.now c.args.heads.now c.args.landings.now c.args.parts.now (returns_in c.args.parts.now c.args.returners.now) c.args.i c.args.base) (λ k n h e p hs old s. subst (λ (t : List Hop). g.V.Sink.holds (routes_in c.args.s.now c.args.y) (copy_number c.args.parts.now c.args.i c.args.base n) (hs ++ t) old c.loop-o.sink) (sym e) (g.met.V.Sink.higher (routes_in c.args.s.now c.args.y) _ _ _ old c.loop-o.sink (copy_rises c.args.parts.now c.args.i c.args.base k n h) (p hs old s))) (set_at (returns_in c.args.parts.now c.args.returners.now) c.args.i) (sets_quiet (routes_in c.args.s.now c.args.y) c.args.nodes.now c.args.edges.now c.args.ends.now c.args.heads.now c.args.landings.now c.args.parts.now (returns_in c.args.parts.now c.args.returners.now) c.args.i c.args.base c.args.blocks c.requires.sets) c.loop-o.invariant.1 _ low in
    let r = c.requires.room in
    let rest = room_behind g.V.Sink.fits (copy_hops (routes_in c.args.s.now c.args.y) c.args.nodes.now c.args.edges.now c.args.ends.now c.args.heads.now c.args.landings.now c.args.parts.now (returns_in c.args.parts.now c.args.returners.now) c.args.i c.args.base) _ c.args.blocks r.0 r.3 same (walked_below c.loop-o.invariant.1.walked _ low) r.4 in
    (r.0 ++ flat (copy_hops (routes_in c.args.s.now c.args.y) c.args.nodes.now c.args.edges.now c.args.ends.now c.args.heads.now c.args.landings.now c.args.parts.now (returns_in c.args.parts.now c.args.returners.now) c.args.i c.args.base) _, r.1, rw at (here r.0 r.1 r.2), rest.0, rest.1)

pub loop-o-smaller : goal.loop-o-smaller
loop-o-smaller g c = left_less (set_at (returns_in c.args.parts.now c.args.returners.now) c.args.i) (set_long (returns_in c.args.parts.now c.args.returners.now) c.args.i) c.loop-o.from _ (rw c.common_at-set.ensures at (rw c.in-Some.is at c.next_in.ensures))

pub loop-o-preserved : goal.loop-o-preserved
loop-o-preserved g c =
    let next = rw c.common_at-set.ensures at (rw c.in-Some.is at c.next_in.ensures) in
    let low = left_lowest (set_at (returns_in c.args.parts.now c.args.returners.now) c.args.i) (set_long (returns_in c.args.parts.now c.args.returners.now) c.args.i) c.loop-o.from _ next in
    let is = walked_here c.loop-o.invariant.1.walked _ low in
    let same = sets_here (routes_in c.args.s.now c.args.y) c.args.nodes.now c.args.edges.now c.args.ends.now c.args.heads.now c.args.landings.now c.args.parts.now (returns_in c.args.parts.now c.args.returners.now) c.args.i c.args.base c.args.blocks c.requires.sets _ c.rank_in.result _ c.set_at-part.ensures c.rank_in.ensures is in
    let at = sets_number (routes_in c.args.s.now c.args.y) c.args.nodes.now c.args.edges.now c.args.ends.now c.args.heads.now c.args.landings.now c.args.parts.now (returns_in c.args.parts.now c.args.returners.now) c.args.i c.args.base c.args.blocks c.requires.sets _ c.rank_in.result _ c.set_at-part.ensures c.rank_in.ensures in
    let here = taking_here (λ (k : ℕ). (hs : List Hop) (old : g.row.V.Denot) → g.V.Sink.holds (routes_in c.args.s.now c.args.y) c.args.base hs old c.args.sink.now → g.V.Sink.holds (routes_in c.args.s.now c.args.y) (copy_number c.args.parts.now c.args.i c.args.base k) (hs ++ flat (copy_hops (routes_in c.args.s.now c.args.y) c.args.nodes.now c.args.edges.now c.args.ends.now c.args.heads.now c.args.landings.now c.args.parts.now (returns_in c.args.parts.now c.args.returners.now) c.args.i c.args.base) k) old c.loop-o.sink) (copy_hops (routes_in c.args.s.now c.args.y) c.args.nodes.now c.args.edges.now c.args.ends.now c.args.heads.now c.args.landings.now c.args.parts.now (returns_in c.args.parts.now c.args.returners.now) c.args.i c.args.base) (λ k n h e p hs old s. subst (λ (t : List Hop). g.V.Sink.holds (routes_in c.args.s.now c.args.y) (copy_number c.args.parts.now c.args.i c.args.base n) (hs ++ t) old c.loop-o.sink) (sym e) (g.met.V.Sink.higher (routes_in c.args.s.now c.args.y) _ _ _ old c.loop-o.sink (copy_rises c.args.parts.now c.args.i c.args.base k n h) (p hs old s))) (set_at (returns_in c.args.parts.now c.args.returners.now) c.args.i) (sets_quiet (routes_in c.args.s.now c.args.y) c.args.nodes.now c.args.edges.now c.args.ends.now c.args.heads.now c.args.landings.now c.args.parts.now (returns_in c.args.parts.now c.args.returners.now) c.args.i c.args.base c.args.blocks c.requires.sets) c.loop-o.invariant.1 _ low in
    let more = sets_more (routes_in c.args.s.now c.args.y) c.args.nodes.now c.args.edges.now c.args.ends.now c.args.heads.now c.args.landings.now c.args.parts.now (returns_in c.args.parts.now c.args.returners.now) c.args.i c.args.base c.args.blocks c.requires.sets _ c.rank_in.result _ c.set_at-part.ensures c.rank_in.ensures c.requires.within is in
    rw (left_next (set_at (returns_in c.args.parts.now c.args.returners.now) c.args.i) (set_long (returns_in c.args.parts.now c.args.returners.now) c.args.i) c.loop-o.from _ next) (
      c.emit_copy.ensures.long ∙ c.loop-o.invariant.0,
      taking_next _ c.loop-o.invariant.1 _ low
          (λ hs old s.
          subst (λ (t : List Hop). g.V.Sink.holds (routes_in c.args.s.now c.args.y) (copy_number c.args.parts.now c.args.i c.args.base (c.in-Some.o + 1)) t old c.emit_copy.new.sink)
          (ap (λ (t : List Hop). hs ++ flat (copy_hops (routes_in c.args.s.now c.args.y) c.args.nodes.now c.args.edges.now c.args.ends.now c.args.heads.now c.args.landings.now c.args.parts.now (returns_in c.args.parts.now c.args.returners.now) c.args.i c.args.base) c.in-Some.o ++ t) same ∙ step_is hs (copy_hops (routes_in c.args.s.now c.args.y) c.args.nodes.now c.args.edges.now c.args.ends.now c.args.heads.now c.args.landings.now c.args.parts.now (returns_in c.args.parts.now c.args.returners.now) c.args.i c.args.base) c.in-Some.o)
          (g.met.V.Sink.higher (routes_in c.args.s.now c.args.y) _ _ _ old c.emit_copy.new.sink more (c.emit_copy.ensures.holds (hs ++ flat (copy_hops (routes_in c.args.s.now c.args.y) c.args.nodes.now c.args.edges.now c.args.ends.now c.args.heads.now c.args.landings.now c.args.parts.now (returns_in c.args.parts.now c.args.returners.now) c.args.i c.args.base) c.in-Some.o) old (rw at (here hs old s))))),
    )
