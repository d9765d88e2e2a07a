-- `counts_match` meets its contract. Assumes nothing.
use borrow.Author.Tests.{eq-eqb, ne_eqb}
use Rattle.unwind.specs.Nodes.{record_in}
use Rattle.unwind.proofs.tries.nodes.counts_match.Goals as goal

pub returns-then-number_in-edges : goal.returns-then-number_in-edges
unfolding record_in
returns-then-number_in-edges c = rw (← c.number_in.ensures.0, ← c.number_in-then-number_in-edges.ensures.0, eq-eqb c.number_in.result c.args.edges c.if-number_in-edges.true)

pub returns-else-number_in-edges : goal.returns-else-number_in-edges
unfolding record_in
returns-else-number_in-edges c = rw (← c.number_in.ensures.0, ne_eqb c.number_in.result c.args.edges c.if-number_in-edges.false)
