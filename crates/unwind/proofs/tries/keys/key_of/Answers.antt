-- `key_of` meets its contract. Assumes nothing.
use Rattle.image.specs.Image.{routes_in}
use Rattle.unwind.specs.Keys.{key_of}
use Rattle.unwind.proofs.TrieKeys.{key_outside, key_over, key_enters}
use Rattle.unwind.proofs.tries.keys.key_of.Goals as goal

pub returns-in_err-left : goal.returns-in_err-left
unfolding key_of
returns-in_err-left c = let m = routes_in c.args.s.now c.args.y in
    rw c.from_residual.ensures (record { is = key_outside m c.args.g c.args.q c.in_err-left.ensures; stands = tt; here = tt })

pub returns-in_err-calls : goal.returns-in_err-calls
unfolding key_of
returns-in_err-calls c = let m = routes_in c.args.s.now c.args.y in
    rw c.from_residual-in_err-calls.ensures (record { is = key_over m c.args.g c.args.q c.in_ok-left.ensures c.in_err-calls.ensures; stands = tt; here = tt })

pub returns : goal.returns
returns c = let m = routes_in c.args.s.now c.args.y in
    key_enters m c.args.g c.args.q c.in_ok-left.ensures c.in_ok-calls.ensures
