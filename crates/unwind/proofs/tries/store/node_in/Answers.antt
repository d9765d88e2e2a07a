-- `node_in` meets its contract. Assumes nothing.
use Rattle.unwind.specs.Nodes.{record_in}
use Rattle.unwind.proofs.tries.store.node_in.Goals as goal

pub returns : goal.returns
unfolding record_in
returns c = let a = c.number_in.ensures in
    let b = c.number_in-2.ensures in
    let d = c.number_in-3.ensures in
    let e = c.number_in-4.ensures in
    let f = c.number_in-5.ensures in
    let g = c.number_in-6.ensures in
    record {
      is = λ i. record { funclet = a.0 i; route = b.0 i; first_edge = d.0 i; edges = e.0 i; first_end = f.0 i; ends = g.0 i };
      small = record { funclet = a.1; route = b.1; first_edge = d.1; edges = e.1; first_end = f.1; ends = g.1 };
    }
