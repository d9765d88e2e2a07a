-- `lay_end` meets its contract. Assumes nothing.
use mathlib.Core.Path.{ap}
use native.Mathlib.Omega.{arith}
use lib.ListN.{length}
use Rattle.std.proofs.Common.{Some, None}
use Rattle.image.specs.Image.{routes_in}
use Rattle.unwind.specs.Laid.{ending_of, EndOf}
use Rattle.unwind.proofs.TrieLaid.{end_none, end_put}
use Rattle.unwind.proofs.tries.lay.lay_end.Goals as goal

pub put_sorted-requires-clause-small : goal.put_sorted-requires-clause-small
put_sorted-requires-clause-small c = let found : EndOf (routes_in c.args.s.now c.args.y) c.args.g c.args.q (Some c.in-Some.b) = rw c.in-Some.is at c.end_of.ensures in found.small

pub put_sorted-requires-clause-room : goal.put_sorted-requires-clause-room
unfolding ending_of
put_sorted-requires-clause-room c = let found : EndOf (routes_in c.args.s.now c.args.y) c.args.g c.args.q (Some c.in-Some.b) = rw c.in-Some.is at c.end_of.ensures in
    let one = ap length found.is in
    omega (arith, one, c.requires.room)

pub returns-in-None : goal.returns-in-None
unfolding ending_of
returns-in-None c = let found : EndOf (routes_in c.args.s.now c.args.y) c.args.g c.args.q None = rw c.in-None.is at c.end_of.ensures in
    end_none (routes_in c.args.s.now c.args.y) c.args.g c.args.q c.args.ends.now c.args.at c.args.n found.is

pub returns-in-Some : goal.returns-in-Some
unfolding ending_of
returns-in-Some c = let found : EndOf (routes_in c.args.s.now c.args.y) c.args.g c.args.q (Some c.in-Some.b) = rw c.in-Some.is at c.end_of.ensures in
    end_put (routes_in c.args.s.now c.args.y) c.args.g c.args.q c.args.ends.now c.args.at c.args.n c.in-Some.b _ _ found.is c.put_sorted.ensures
