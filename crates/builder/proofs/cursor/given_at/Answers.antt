-- The source is there and starts here, or not. Assumes nothing.
use borrow.Author.Tests.{eq-eqb, ne_eqb, lt-ltb, le-ltb}
use Rattle.builder.specs.Cursor.{given_here}
use Rattle.builder.proofs.cursor.given_at.Goals as goal

pub returns-then-source-address : goal.returns-then-source-address
unfolding given_here
returns-then-source-address c = rw (← c.sources-sources.ensures, lt-ltb c.args.i _ (rw c.len.ensures at c.if-i-len.true), ← c.get-source.ensures, eq-eqb _ _ c.if-source-address.true)

pub returns-else-source-address : goal.returns-else-source-address
unfolding given_here
returns-else-source-address c = rw (← c.sources-sources.ensures, lt-ltb c.args.i _ (rw c.len.ensures at c.if-i-len.true), ← c.get-source.ensures, ne_eqb _ _ c.if-source-address.false)

pub returns-else-i-len : goal.returns-else-i-len
unfolding given_here
returns-else-i-len c = rw (← c.sources-sources.ensures, le-ltb c.args.i _ (rw c.len.ensures at c.if-i-len.false))
