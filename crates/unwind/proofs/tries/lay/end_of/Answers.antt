-- `end_of` meets its contract. Assumes nothing.
use Rattle.image.specs.Image.{routes_in}
use Rattle.unwind.specs.Laid.{ending_of}
use Rattle.unwind.proofs.TrieLaid.{end_outside, end_enters, end_over}
use Rattle.unwind.proofs.tries.lay.end_of.Goals as goal

pub returns-in_err-left : goal.returns-in_err-left
unfolding ending_of
returns-in_err-left c = let m = routes_in c.args.s.now c.args.y in
    rw c.from_residual.ensures (record { is = end_outside m c.args.g c.args.q c.in_err-left.ensures; small = tt })

pub returns-in-Some : goal.returns-in-Some
unfolding ending_of
returns-in-Some c = let m = routes_in c.args.s.now c.args.y in
    record { is = end_enters m c.args.g c.args.q c.in_ok-left.ensures c.in-Some.ensures; small = tt }

pub returns-in-None : goal.returns-in-None
returns-in-None c = let m = routes_in c.args.s.now c.args.y in
    end_over m c.args.g c.args.q c.in_ok-left.ensures c.requires.accepted c.requires.path c.in-None.ensures
