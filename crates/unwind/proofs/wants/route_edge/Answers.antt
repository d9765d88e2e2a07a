-- `route_edge` meets its contract. Assumes nothing.
use Rattle.addition.specs.Ways.{route_edge}
use Rattle.unwind.proofs.wants.route_edge.Goals as goal

pub returns : goal.returns
unfolding route_edge
returns c = rw (c.first_of.ensures, c.last_of.ensures)
