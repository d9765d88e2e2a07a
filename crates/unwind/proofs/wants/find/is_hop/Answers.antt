-- `is_hop` meets its contract. Assumes nothing.
use mathlib.Core.Bool.{not, ◌&&◌}
use borrow.Author.Tests.{eqb-true, not-true, eqb-false}
use lib.Dec.{eqb}
use Rattle.addition.proofs.Lists.{and_both}
use Rattle.unwind.proofs.FindLaws.{hop_is}
use Rattle.unwind.proofs.wants.find.is_hop.Goals as goal

pub returns : goal.returns
returns c e = let x = c.args.x in
    let parts = and_both (eqb x.source c.args.b && not (eqb x.has_end 0)) (eqb x.end c.args.t) e in
    let front = and_both (eqb x.source c.args.b) (not (eqb x.has_end 0)) parts.0 in
    hop_is x c.args.b c.args.t (eqb-true _ _ front.0) (eqb-false _ _ (not-true _ front.1)) (eqb-true _ _ parts.1)
