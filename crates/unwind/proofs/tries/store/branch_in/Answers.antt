-- `branch_in` meets its contract. Assumes nothing.
use Rattle.unwind.specs.Nodes.{branch_in}
use Rattle.unwind.proofs.tries.store.branch_in.Goals as goal

pub returns : goal.returns
unfolding branch_in
returns c = let a = c.number_in.ensures in
    let b = c.number_in-2.ensures in
    let w = c.number_in-3.ensures in
    record { is = λ i. record { step = a.0 i; calls = b.0 i; what = w.0 i }; small = record { step = a.1; calls = b.1; what = w.1 } }
