-- `word_of` meets its contract. Assumes nothing.
use native.Mathlib.Omega.{arith}
use Rattle.unwind.specs.Placed.{returns_in}
use Rattle.unwind.proofs.WanterLaws.{word_route, word_node}
use Rattle.unwind.proofs.wants.wanter.word_of.Goals as goal

pub returns-then-k-routes : goal.returns-then-k-routes
returns-then-k-routes c = word_route c.args.guards.now (returns_in c.args.parts.now c.args.returners.now) c.args.routes c.args.k c.if-k-routes.true c.args.j c.requires.2

pub returns : goal.returns
returns c = word_node c.args.guards.now c.args.parts.now c.args.returners.now c.args.routes c.args.k (omega (arith, c.if-k-routes.false)) c.args.j c.requires.2
