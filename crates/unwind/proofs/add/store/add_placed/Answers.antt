-- `add_placed` meets its contract: the sizes, and then the stores. Assumes nothing.
use mathlib.Core.Path.{sym}
use Rattle.image.specs.Image.{routes_in}
use Rattle.unwind.proofs.StoreLaws.{exits_kept, sized_refused, sized_stored}
use Rattle.std.proofs.lemmas.Result.{err_from_is_err_and}
use Rattle.unwind.proofs.add.store.add_placed.Goals as goal

pub store_addition-requires-clause-at_hand : goal.store_addition-requires-clause-at_hand
store_addition-requires-clause-at_hand c = exits_kept c.args.g.now (routes_in c.args.s.now c.args.y) c.requires.at_hand c.check_sizes.auto.exits

pub returns-in_err-check_sizes : goal.returns-in_err-check_sizes
returns-in_err-check_sizes c = let p = err_from_is_err_and c.from_residual.result c.from_residual.ensures.1 in
    rw (p.1, p.2) (sized_refused (routes_in c.args.s.now c.args.y) c.args.g.now c.args.h.now _ c.in_err-check_sizes.ensures)

pub store_addition-requires-clause-sizes : goal.store_addition-requires-clause-sizes
store_addition-requires-clause-sizes c = sym c.in_ok-check_sizes.ensures

pub returns : goal.returns
returns c = sized_stored (routes_in c.args.s.now c.args.y) c.args.g.now c.args.h.now (sym c.in_ok-check_sizes.ensures) c.store_addition.ensures.graph c.store_addition.ensures.hops
