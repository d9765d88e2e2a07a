-- `want` meets its contract: the flag of the hop says whether the pair was wanted before. Assumes nothing.
use mathlib.Core.Path.{sym, ◌∙◌}
use Rattle.unwind.proofs.WantLaws.{pair_stands, want_leave, want_again, want_new}
use Rattle.unwind.proofs.wants.want.Goals as goal

pub returns-then-t-eq-LEAVE : goal.returns-then-t-eq-LEAVE
returns-then-t-eq-LEAVE c = want_leave c.args.h.now c.args.g.now c.args.done.now c.args.r c.args.b c.args.t c.if-t-eq-LEAVE.true

pub find_hop-k-requires : goal.find_hop-k-requires
find_hop-k-requires c = (c.requires.0, pair_stands c.args.h.now c.args.b c.args.t c.if-t-eq-LEAVE.false c.requires.1)

pub mark_wanted-requires : goal.mark_wanted-requires
mark_wanted-requires c = c.find_hop-k.ensures.1

pub returns-then-mark_wanted : goal.returns-then-mark_wanted
returns-then-mark_wanted c = let marks = c.mark_wanted.ensures in
    want_again c.args.h.now c.args.g.now c.args.done.now c.args.r c.args.b c.args.t c.if-t-eq-LEAVE.false _ c.requires.0 c.find_hop-k.ensures.0 _ marks.1 (sym marks.0 ∙ c.if-mark_wanted.true)

pub route_edge-e-requires : goal.route_edge-e-requires
route_edge-e-requires c = let ne = c.if-t-eq-LEAVE.false in
    let j = c.requires.2.joins c.args.b c.args.t (pair_stands c.args.h.now c.args.b c.args.t ne c.requires.1) in
    (c.requires.2.runs, j.0, j.1, j.2)

pub returns : goal.returns
returns c = let marks = c.mark_wanted.ensures in
    want_new c.args.h.now c.args.g.now c.args.done.now c.args.r c.args.b c.args.t c.if-t-eq-LEAVE.false _ c.requires.0 c.find_hop-k.ensures.0 _ marks.1 (sym marks.0 ∙ c.if-mark_wanted.false) _ _ c.route_edge-e.ensures c.add_edge.ensures
